-- Laws of the text's definitions, over plain numbers, that the proofs of the code cite.
pub mod Widths
pub mod Texts

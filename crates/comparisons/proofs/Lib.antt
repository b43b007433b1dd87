-- Laws of the count of differing fields that the proofs of the code cite.
pub mod Comparing

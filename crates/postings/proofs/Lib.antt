-- Laws of the table, over plain numbers and lists, that the proofs of the code and of the crates above cite.
pub mod BitMaps
pub mod KindTable

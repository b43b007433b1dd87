-- The refusal table of document 01 as a type, what its laws (in proofs/) speak of, and what a writer into a lent buffer gives by such a table.
pub mod Rows
pub mod Laws
pub mod Stores
pub mod Writer

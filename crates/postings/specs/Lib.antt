-- Postings: the table of kinds and fields with its bit maps, and a book's answers.
pub mod Kinds
pub mod Ranged
pub mod BitMaps
pub mod Answers

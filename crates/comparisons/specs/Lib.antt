-- How many fields of two books differ: a book as the numbers of its fields, and the places in which two lists of them differ.
pub mod Differing
pub mod Fields

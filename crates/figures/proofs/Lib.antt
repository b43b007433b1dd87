-- The proof of the joint statement.
pub mod Figures

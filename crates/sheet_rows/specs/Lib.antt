-- The rows of the factor sheet as text, in the order in which to read them: what a cell prints, and how a row is laid out.
pub mod Cells
pub mod Rows

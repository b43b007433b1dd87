-- The factor sheet, in the order in which to read it: its own figures, the sheet row by row with what writing it gives, the claims, and an
-- example.
pub mod Figures
pub mod Sheet
pub mod Claims
pub mod Examples

-- Marked figures of document 01, one file a layer, and their joint statement.
pub mod Figure
pub mod Rounding
pub mod Electric
pub mod Steam
pub mod Text
pub mod Figures

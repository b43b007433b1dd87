-- Rounding, a layer of its own below both books (01, Amounts and rounding).
pub mod Round
pub mod Nearest
pub mod Weight

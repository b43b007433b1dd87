-- Amounts of document 01: their limits and their text.
pub mod Amounts
pub mod Text

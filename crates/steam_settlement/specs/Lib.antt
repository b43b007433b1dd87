-- The customers' share and the billing determinants as the code's calls give them.
pub mod Shares
pub mod Determinants

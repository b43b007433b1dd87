-- Laws over plain values that the functions' proofs cite.
pub mod Parts
pub mod Bills
pub mod Shared

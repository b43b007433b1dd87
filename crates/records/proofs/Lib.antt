-- Laws of the records' definitions, over plain numbers and lists, that the proofs of the code and of the round trips cite.
pub mod FieldBytes
pub mod Reading
pub mod Writing
pub mod FieldTrips
pub mod RoundTrips
pub mod Examples

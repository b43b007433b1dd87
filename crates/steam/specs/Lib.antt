-- What the code's steps pass on; what they mean is said in the rules.
pub mod Lines
pub mod Taken

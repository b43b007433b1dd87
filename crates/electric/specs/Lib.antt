-- What the code's effects owe; what it means is said in the rules.
pub mod Taken

-- Laws of what is stored piece behind piece, of a run turn by turn, and of what an input opens; and the paper's example.
pub mod Storing
pub mod Running
pub mod Openings
pub mod Examples

-- The journal, in the order in which to read it: a line, and what the journal program prints for an input. Steps is for the code's own
-- functions.
pub mod Lines
pub mod Journal
pub mod Examples
pub mod Steps

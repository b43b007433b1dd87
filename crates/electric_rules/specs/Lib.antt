-- The electric book, in the order in which to read it: the book, its calendar, rates and formulas; by kind the next book and the answer;
-- limits and refusals; the tally, and what is claimed: that no cent is lost, and what a provisional share is.
pub mod Book
pub mod Calendar
pub mod Rates
pub mod Settlement
pub mod Levels
pub mod Next
pub mod Limits
pub mod Ranges
pub mod Sizes
pub mod Refusals
pub mod Tally
pub mod Claim

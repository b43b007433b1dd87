-- The steam book, in the order in which to read it: the book, its calendar and formulas; by kind the next book and the answer; limits,
-- opening and refusals; the tally, and the claim that no cent is lost.
pub mod Book
pub mod Calendar
pub mod Settlement
pub mod Next
pub mod Limits
pub mod Fours
pub mod Ranges
pub mod Quarters
pub mod Sizes
pub mod Opening
pub mod Refusals
pub mod Tally
pub mod Claim

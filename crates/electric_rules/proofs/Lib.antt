-- That no cent is lost over any list of postings, in the order in which to read it; of any book, that its provisional shares are what settling
-- it today would give; and of one posting, that a refusal changes nothing, that the parts which it changes decide the limits of the next book,
-- and how code tests for kWh.
pub mod Waiting
pub mod Held
pub mod Shares
pub mod Provisional
pub mod LevelSteps
pub mod Conservation
pub mod Refused
pub mod Within
pub mod Changed
pub mod Sold

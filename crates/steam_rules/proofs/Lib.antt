-- That no cent is lost over any list of postings, in the order in which to read it; and of one posting, that a refusal changes nothing,
-- and that the parts which it changes decide the limits of the next book.
pub mod Waiting
pub mod Found
pub mod Held
pub mod Shares
pub mod Conservation
pub mod Refused
pub mod Within
pub mod Changed

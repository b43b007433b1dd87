-- Laws of the sheet: how large its figures are, what an accepted settlement shows, what its writer gives, that it fills its page, and that the
-- example holds.
pub mod Sizes
pub mod Accepted
pub mod Writing
pub mod Fits
pub mod Examples

-- What the riders of both books share: the months of a year, runs, a bill's line with its parts, what a posting gives by a book's rules,
-- and histories; for the proofs of both books' code, what a posting gives step by step; for those of both claims, when nothing can be
-- pending, what shares are to variances, and how cents billed and held stay in balance.
pub mod Months
pub mod Runs
pub mod Lines
pub mod Rules
pub mod Histories
pub mod Posts
pub mod Waiting
pub mod Sharing
pub mod Balances

-- What a host says in numbers, as the ledger's types.
pub mod Books
pub mod Replies
pub mod Results

-- What a host is handed in place of a result.
pub mod Results

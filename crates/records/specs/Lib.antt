-- Records: the format, what reading and writing a record give, and that the two agree.
pub mod Fields
pub mod Records
pub mod RoundTrips
pub mod Examples
pub mod Steps

pub mod Away
pub mod Jobs
pub mod Rings
pub mod Sent

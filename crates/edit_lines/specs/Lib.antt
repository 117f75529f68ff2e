pub mod Done
pub mod Lines
pub mod Reading

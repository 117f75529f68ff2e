pub mod Finish
pub mod Inside
pub mod Kept
pub mod Relay
pub mod Session
pub mod Standing

pub mod Groups
pub mod Tables
pub mod Rules
pub mod Revised

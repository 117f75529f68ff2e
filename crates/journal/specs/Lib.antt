pub mod Inside
pub mod Lines
pub mod Machine
pub mod Tape

pub mod Bounds
pub mod Cuts
pub mod SideJoins
pub mod Joins

-- What calls inside the crate promise each other. No clause of a public call cites these modules.
pub mod Asked
pub mod Noted
pub mod Routed

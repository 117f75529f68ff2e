pub mod Calls
pub mod Device
pub mod Laws
pub mod Memory
pub mod Noted
pub mod Owed
pub mod Owner
pub mod Relayed

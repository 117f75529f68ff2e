pub mod AccessPlaces
pub mod FacilityPlaces
pub mod ForwardingPlaces
pub mod Groups
pub mod Places

pub mod Common
pub mod HeldLemmas
pub mod MovedLemmas
pub mod FillLemmas
pub mod PostLemmas
pub mod CrossingLemmas

pub mod Common
pub mod ComeLemmas
pub mod CrossingLemmas
pub mod EventLemmas
pub mod JobLemmas
pub mod RingLemmas
mod SentLemmas
pub mod RegionOwnerLemmas

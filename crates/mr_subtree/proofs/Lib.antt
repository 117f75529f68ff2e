pub mod Common
pub mod RootFacts
pub mod CrossingLemmas
pub mod DescentLemmas

pub mod Common
pub mod NoteLemmas
pub mod SumLemmas

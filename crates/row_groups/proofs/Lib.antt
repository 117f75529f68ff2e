pub mod Common
pub mod FilledLemmas
pub mod ForwardingLemmas
pub mod GroupLemmas

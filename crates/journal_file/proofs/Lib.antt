pub mod ByteLemmas
mod CallLemmas
mod PastLemmas

pub mod AnswerLemmas
pub mod Common
pub mod CrossingLemmas
pub mod EditedLemmas
mod FillLemmas
pub mod FoundLemmas
pub mod JournaledLemmas
pub mod KeptPartSteps
pub mod KeptSteps
pub mod ManyLemmas
pub mod OpenedCrossing
pub mod OwingLemmas
pub mod OwnLemmas
pub mod PartLemmas

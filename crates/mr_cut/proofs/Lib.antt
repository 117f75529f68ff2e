pub mod Common
pub mod CountLemmas
pub mod SideJoinLemmas
pub mod JoinLemmas
pub mod CutLemmas

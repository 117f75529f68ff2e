pub mod Trees
pub mod Inside

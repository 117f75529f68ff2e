pub mod Held
pub mod Inside
pub mod Moved
pub mod Post

pub mod Words
pub mod Views
pub mod Nets
pub mod Rule
pub mod Desks
pub mod Inside

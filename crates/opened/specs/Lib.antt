pub mod Opened
pub mod Inside

pub mod Boxes
pub mod File
pub mod Inside
pub mod Meaning

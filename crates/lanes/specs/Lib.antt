pub mod Lane
pub mod Steps
pub mod Site

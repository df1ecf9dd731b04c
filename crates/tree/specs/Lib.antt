pub mod Walk
pub mod Tables
pub mod Forest

pub mod Follows
pub mod Fragments
pub mod Walk

pub mod Tracks
pub mod Heads

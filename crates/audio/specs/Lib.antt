pub mod Objects
pub mod Frequencies
pub mod Channels

pub mod Held
pub mod Contents

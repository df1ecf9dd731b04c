pub mod Tx3gLaws
mod Unique
mod Vectors

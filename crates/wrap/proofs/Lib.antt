pub mod Contents
mod Unique

pub mod MfhdLaws
mod Vectors
mod Unique

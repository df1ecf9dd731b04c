pub mod UrlLaws
mod Unique
mod Vectors

pub mod HdlrLaws
mod Unique
mod Vectors

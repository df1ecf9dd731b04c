pub mod VpccLaws
mod Unique
mod Vectors

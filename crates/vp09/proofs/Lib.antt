pub mod Vp09Laws
mod Unique
mod Vectors

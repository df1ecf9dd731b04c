pub mod Texts
pub mod FourNumbers
pub mod Contents
pub mod Puts
pub mod Backs
pub mod Owns
pub mod Canonicals
pub mod EmsgLaws
mod Unique
mod Vectors

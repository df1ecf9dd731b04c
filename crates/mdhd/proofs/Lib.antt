pub mod MdhdLaws
mod Unique
mod Vectors

pub mod LanguageLaws
mod Vectors
mod Unique

pub mod Cases
pub mod Puts
pub mod FieldLaws
pub mod FieldsOwn
mod Unique
mod Vectors

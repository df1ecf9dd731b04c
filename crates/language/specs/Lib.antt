pub mod Language

pub mod Dref

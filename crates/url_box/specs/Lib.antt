pub mod Url

pub mod Rule
pub mod Read
pub mod Write
pub mod Table
pub mod Canonical

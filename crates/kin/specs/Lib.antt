pub mod Before
pub mod Kin

pub mod Tfdt

pub mod Emsg

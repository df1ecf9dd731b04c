pub mod Hdlr

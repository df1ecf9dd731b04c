pub mod Vp09

pub mod Traf

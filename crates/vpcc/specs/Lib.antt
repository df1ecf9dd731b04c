pub mod Vpcc

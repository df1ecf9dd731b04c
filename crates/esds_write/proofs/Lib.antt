mod Puts
mod Unique

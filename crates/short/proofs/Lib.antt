mod Eight
mod Unique

pub mod Mp4a

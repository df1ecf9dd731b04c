pub mod TrakBoxes

pub mod TableBoxes

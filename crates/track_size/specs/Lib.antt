pub mod TrackSize

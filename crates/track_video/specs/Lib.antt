pub mod TrackVideo

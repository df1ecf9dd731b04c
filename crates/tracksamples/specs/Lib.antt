pub mod TrackSamples

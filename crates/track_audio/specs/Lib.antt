pub mod TrackAudio

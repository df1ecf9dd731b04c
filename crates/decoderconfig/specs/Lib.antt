pub mod DecoderConfig

-- What it is for bytes to be written, and to stand in a file. Assumes nothing.
use Rattle.std.specs.Prelude.{ℕ, ◌*◌, ◌^◌, ◌<◌, ◌≡◌, List, ◌++◌, length, take, Ok}
use Rattle.std.specs.Int.Signed.{mag}
use Rattle.samples.specs.declared.Sample.{Sample}
use Rattle.put.specs.Put.{Wrote, wrote}

-- an answer that is no refusal, with these bytes at the buffer's start
pub record Gives (x : Wrote) (es : List ℕ) : Type 0 where
  pub size : ℕ
  pub buffer : List ℕ
  pub done : x ≡ wrote (Ok size) buffer
  pub bytes : take size buffer ≡ es

-- the bytes stand in a file, the first of them at that place
pub record Stands (f : List ℕ) (at : ℕ) (es : List ℕ) : Type 0 where
  pub before : List ℕ
  pub behind : List ℕ
  pub there : f ≡ before ++ (es ++ behind)
  pub place : at ≡ length before

-- a sample whose place and composition offset have the 64 bits that a record has for each
pub record Of64 (s : Sample) : Type 0 where
  pub offset : s.offset < 2 ^ 64
  pub composition : mag s.composition * 2 < 2 ^ 64

-- What the verdict clean says of a file: `file-clean` and `clean-file` (proofs/Clean.antt) say that it is this. Assumes
-- nothing.
use Rattle.std.specs.Prelude.{◌≡◌}
use Rattle.verdicts.specs.Sweep.{bytes}
use Rattle.verdicts.specs.Meaning.{CleanFile, NeighboursIn, Later, sizes_of}
use Rattle.movie.specs.Movie.{Movie, tracks_of}

-- every byte of every payload is in exactly one sample of one track, no sample is empty or lies elsewhere, each track's
-- samples lie in the order of the file, the tables pass F1, fragments follow on in number and in time (`CleanFile`); and
-- so decode times strictly rise, and the sizes of all samples add up to the bytes of the media data
pub record Witnessed (m : Movie) : Type 0 where
  pub clean : CleanFile (tracks_of m) m.payloads m.moofs
  pub rising : NeighboursIn Later (tracks_of m)
  pub sizes : sizes_of (tracks_of m) ≡ bytes m.payloads

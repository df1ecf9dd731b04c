-- A small trak for worked examples: track 7, 320 by 240, of 3,000 units of which 1,000 are a second, in no language that
-- is told; with a handler, sample entries and sizes that are given. Assumes nothing.
use mathlib.Core.List.{List, [], ◌∷◌, ◌++◌}
use Prim.Native.Nat.{ℕ}
use lib.ListN.{replicate}
use Rattle.numbers.specs.Number.{bytes}
use Rattle.places.specs.Kinds as kinds
use Rattle.rounds.proofs.Example.{box}
use Rattle.children.proofs.Example.{of}

abbrev pub tkhd : List ℕ
tkhd = box kinds.tkhd 0 3 (replicate 8 0 ++ bytes 8 0x7_0000_0000 ++ bytes 4 3000 ++ replicate 52 0 ++ bytes 8 0x0140_0000_00f0_0000)

abbrev pub mdhd : List ℕ
mdhd = box kinds.mdhd 0 0 (replicate 8 0 ++ bytes 4 1000 ++ bytes 4 3000 ++ bytes 4 0x55c4_0000)

abbrev pub hdlr : ℕ → List ℕ
hdlr handler = box kinds.hdlr 0 0 (replicate 4 0 ++ bytes 4 handler ++ replicate 12 0)

-- two samples, of 10 and of 20 bytes; and three of 5 bytes each
abbrev pub listed : List ℕ
listed = box kinds.stsz 0 0 (bytes 8 2 ++ bytes 8 0xa_0000_0014)

abbrev pub common : List ℕ
common = box kinds.stsz 0 0 (bytes 8 0x5_0000_0003)

-- one sample entry
abbrev pub stsd : List ℕ → List ℕ
stsd entry = box kinds.stsd 0 0 (bytes 4 1 ++ entry)

-- the boxes around
abbrev pub stbl : List ℕ → List ℕ → List ℕ
stbl entry sizes = of kinds.stbl (stsd entry ++ sizes)

abbrev pub mdia : ℕ → List ℕ → List ℕ → List ℕ
mdia handler entry sizes = of kinds.mdia (mdhd ++ hdlr handler ++ of kinds.minf (stbl entry sizes))

abbrev pub trak : ℕ → List ℕ → List ℕ → List ℕ
trak handler entry sizes = of kinds.trak (tkhd ++ mdia handler entry sizes)

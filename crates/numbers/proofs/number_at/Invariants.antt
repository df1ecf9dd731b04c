use Rattle.std.proofs.Common.{◌≡◌, ◌<◌, ◌^◌}
use Rattle.numbers.specs.Number.{be}
use Rattle.numbers.proofs.number_at.Given as goal

-- the number in the bytes so far
abbrev pub invariant-loop-byte : goal.invariant-loop-byte
invariant-loop-byte l = (l.n ≡ be l.byte-index l.s l.at) × (l.n < 256 ^ l.byte-index)

use mathlib.Core.Path.{refl, ap, ◌∙◌}
use Prim.Native.Nat.{ℕ}
use native.Mathlib.Nat.{mul-one}
use native.Mathlib.Omega.{arith}
use lib.IntN.{pos}
use lib.Ieee.{binary64, of_int, of_bits}
use Rattle.summary.specs.Figures.{over}
use Rattle.summary.proofs.Exact.{whole-exact}
use Rattle.summary.proofs.Quotient.{div-at}
use Rattle.summary.proofs.fixed.Goals as goal

pub returns : goal.returns
unfolding of_int of_bits
returns c =
    let n = c.args.raw in
    div-at binary64 (of_int binary64 (pos n)) (of_bits binary64 4679240012837945344) n 1 65536 1 (omega arith) (omega arith) (omega arith)
    (whole-exact n (omega (arith, c.ranges.raw))) (refl, refl)
    ∙ ap (λ (z : ℕ). over z 65536) (mul-one n)

-- Where a run's data begin: a base and a signed offset of 32 bits together. Assumes nothing.
use Rattle.std.specs.Prelude.{Some, None}
use Prim.Native.Nat.{ℕ, suc, ◌+◌, ◌-◌, ◌*◌, ◌^◌, ◌≤◌, ◌<◌}
use mathlib.Core.Path.{◌≡◌, refl, sym, ap, ◌∙◌}
use mathlib.Core.Bool.{Bool, cond}
use native.Mathlib.Omega.{arith}
use lib.IntN.{ℤ, pos, negsuc, sub_ℕ, ◌+ℤ◌}
use borrow.Author.Tests.{lt-ltb, le-ltb}
use Rattle.numbers.proofs.Chain.{is_lt, not-lt}
use Rattle.signed.specs.Signed.{signed}
use Rattle.runstarts.specs.Make.{position, placed}

module _ (base n : ℕ) where
  module _ (h : n < 2147483648) where
    ahead : pos base +ℤ signed 4 n ≡ pos (base + n)
    unfolding signed
    ahead = sym (ap (λ (z : ℤ). pos base +ℤ z) (is_lt (pos n) (negsuc (256 ^ 4 - 1 - n)) (pos n) (n * 2) (256 ^ 4) (omega arith) refl))

    pub ahead-at : base + n < 2 ^ 64 → Some (base + n) ≡ placed base n
    ahead-at k = is_lt _ _ (Some (base + n)) (base + n) (2 ^ 64) k refl ∙ sym (ap position ahead)

    pub ahead-out : 2 ^ 64 ≤ base + n → None ≡ placed base n
    ahead-out k = not-lt (Some (base + n)) _ None (base + n) (2 ^ 64) k refl ∙ sym (ap position ahead)

  module _ (h : 2147483648 ≤ n) (g : n < 4294967296) where
    back : pos base +ℤ signed 4 n ≡ sub_ℕ base (4294967296 - n)
    unfolding signed
    back =
        let e : suc (256 ^ 4 - 1 - n) ≡ 4294967296 - n = omega arith in
        sym (ap (λ (z : ℤ). pos base +ℤ z) (not-lt (pos n) (negsuc (256 ^ 4 - 1 - n)) (negsuc (256 ^ 4 - 1 - n)) (n * 2) (256 ^ 4) (omega arith) refl))
        ∙ ap (sub_ℕ base) e

    pub back_at : base < 2 ^ 64 → 4294967296 - n ≤ base → Some (base - (4294967296 - n)) ≡ placed base n
    back_at b k =
        let m = 4294967296 - n in
        is_lt _ _ (Some (base - m)) (base - m) (2 ^ 64) (omega arith) refl
        ∙ sym (ap position (back ∙ ap (λ (t : Bool). cond t (negsuc (m - suc base)) (pos (base - m))) (le-ltb base m k)))

    pub back-out : base < 4294967296 - n → None ≡ placed base n
    back-out k =
        let m = 4294967296 - n in
        sym (ap position (back ∙ ap (λ (t : Bool). cond t (negsuc (m - suc base)) (pos (base - m))) (lt-ltb base m k)))

-- A record that is stored number by number is the record of the definition. Assumes nothing.
use Prim.Native.Nat.{ℕ, suc, ◌+◌, ◌*◌, ◌/◌, ◌≤◌, ◌<◌}
use mathlib.Core.Path.{◌≡◌, refl}
use mathlib.Core.List.{List}
use native.Mathlib.Omega.{arith}
use lib.ListN.{length, set}
use Rattle.numbers.proofs.Chain.{is_le, not-le}
use Rattle.samples.specs.Records.{bits_of, bit_of, put_of}
use Rattle.samples.specs.declared.Sample.{Sample}

module _ (o : List ℕ) (i : ℕ) (s : Sample) where
  pub no_room : length o / 7 ≤ i → o ≡ put_of o i s
  unfolding put_of
  no_room h = not-le _ _ o (i * 7 + 7) (length o) (omega arith) refl

  pub stored : (x y : ℕ) → i < length o / 7 → x ≡ bits_of s.composition → y ≡ bit_of s.sync
      → set (set (set (set (set (set (set o (i * 7) s.number) (i * 7 + 1) s.offset) (i * 7 + 2) s.size) (i * 7 + 3) s.time) (i * 7 + 4) s.duration) (i * 7 + 5) x) (i * 7 + 6) y
      ≡ put_of o i s
  unfolding put_of
  stored x y h ex ey =
      let a = i * 7 in
      let e1 : a + 1 ≡ suc a = omega arith in
      let e2 : a + 2 ≡ suc (suc a) = omega arith in
      let e3 : a + 3 ≡ suc (suc (suc a)) = omega arith in
      let e4 : a + 4 ≡ suc (suc (suc (suc a))) = omega arith in
      let e5 : a + 5 ≡ suc (suc (suc (suc (suc a)))) = omega arith in
      let e6 : a + 6 ≡ suc (suc (suc (suc (suc (suc a))))) = omega arith in
      is_le _ _ _ (a + 7) (length o) (omega arith) (rw (ex, ey, e1, e2, e3, e4, e5, e6))

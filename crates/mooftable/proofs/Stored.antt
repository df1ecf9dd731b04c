-- A row that is read number by number, or stored, is the row of the definition. Assumes nothing.
use Rattle.std.specs.Prelude.{Ok, Err, Some, None}
use Prim.Native.Nat.{ℕ, suc, ◌+◌, ◌*◌, ◌%◌, ◌^◌, ◌≤◌, ◌<◌}
use mathlib.Core.Path.{◌≡◌, refl, ap, ◌∙◌}
use mathlib.Core.List.{List}
use native.Mathlib.Nat.{add-zero}
use native.Mathlib.Omega.{arith}
use lib.ListN.{get_or, set}
use Rattle.numbers.specs.declared.Refusal.TheVariants as refusal
use Rattle.numbers.proofs.Chain.{is_lt, not-lt}
use Rattle.put.specs.Put.{wrote}
use Rattle.mooftable.specs.declared.Moof.{Moof}
use Rattle.mooftable.specs.Table.{holds, cell, row_at, row_of, store_of}

module _ (t : List ℕ) (i : ℕ) where
  pub missing : holds t ≤ i → None ≡ row_of t i
  missing h = not-lt (Some (row_at t i)) _ None i (holds t) h refl

  pub read : (a : ℕ) → i < holds t → a ≡ cell t i 1 % 2 ^ 32 → Some (record { start = get_or t (i * 3) 0; number = a; runs = cell t i 2 }) ≡ row_of t i
  unfolding row_at
  read a h e = let z : i * 3 + 0 ≡ i * 3 = add-zero (i * 3) in is_lt _ None _ i (holds t) h (ap Some (rw (e, z)))

  module _ (m : Moof) where
    pub no_room : holds t ≤ i → i + 1 < 2 ^ 64 → wrote (Err (refusal.TooSmall (i + 1))) t ≡ store_of m i t
    no_room h k = not-lt _ _ _ i (holds t) h (is_lt _ _ _ (i + 1) (2 ^ 64) k refl)

    pub no_number : holds t ≤ i → 2 ^ 64 ≤ i + 1 → wrote (Err refusal.Overflow) t ≡ store_of m i t
    no_number h k = not-lt _ _ _ i (holds t) h (not-lt _ _ _ (i + 1) (2 ^ 64) k refl)

    pub stored : i < holds t → wrote (Ok (i + 1)) (set (set (set t (i * 3) m.start) (i * 3 + 1) m.number) (i * 3 + 2) m.runs) ≡ store_of m i t
    stored h =
        let one : i * 3 + 1 ≡ suc (i * 3) = omega arith in
        let two : i * 3 + 2 ≡ suc (suc (i * 3)) = omega arith in
        is_lt _ _ _ i (holds t) h
        (ap (λ n. wrote (Ok (i + 1)) (set (set (set t (i * 3) m.start) n m.number) (i * 3 + 2) m.runs)) one
        ∙ ap (λ n. wrote (Ok (i + 1)) (set (set (set t (i * 3) m.start) (suc (i * 3)) m.number) n m.runs)) two)

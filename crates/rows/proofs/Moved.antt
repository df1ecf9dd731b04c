-- A verdict on entries that lie in a larger part is the verdict on them alone, with its position moved. Assumes nothing.
use Rattle.std.specs.Prelude.{Result, Option, Ok, Err, Some, None}
use mathlib.Core.Path.{◌≡◌, refl, sym, ap, ap₂, ◌∙◌}
use mathlib.Core.List.{List, [], ◌∷◌}
use mathlib.Core.Bool.{Bool, true, false}
use Prim.Native.Nat.{ℕ, zero, suc, ◌+◌, ◌*◌, ◌-◌, ◌^◌, ◌≤◌, ◌<◌}
use native.Mathlib.Nat.{add_assoc, add-zero}
use native.Mathlib.Omega.{arith}
use lib.ListN.{length, get_or, drop, length-drop}
use lib.Seq.{get_or-drop}
use lib.Dec.{leb}
use borrow.Author.Tests.{le-leb, lt-leb, leb-true, leb-false}
use Rattle.numbers.specs.Number.{be}
use Rattle.numbers.specs.Field.{field, fits, when}
use Rattle.numbers.specs.declared.Refusal.TheVariants as refusal
use Rattle.numbers.specs.declared.Refusal.{Refusal}
use Rattle.numbers.specs.Refusals.{position, placed_at}
use Rattle.numbers.proofs.Chain.{through}
use Rattle.rows.specs.Rows.{width_of, allowed_of, last_of, cells_of, entry_of, step, entries_of}
use Rattle.rows.specs.declared.Cell.{Cell}

-- a refusal, s further on
abbrev further : ℕ → Option ℕ → Refusal → Refusal
further s None q = q
further s (Some p) q = placed_at (s + p) q

-- a verdict, moved
abbrev pub moved : ℕ → Result (Unit {0}) Refusal → Result (Unit {0}) Refusal
moved s (Ok tt) = (Ok tt)
moved s (Err q) = Err (further s (position q) q)

abbrev on : ℕ → Result (ℕ × ℕ) Refusal → Result (ℕ × ℕ) Refusal
on s (Ok (at, last)) = Ok (s + at, last)
on s (Err q) = Err (further s (position q) q)

-- a number is the same in a part, and so is whether it is whole
be-drop : (w s : ℕ) (b : List ℕ) (at : ℕ) → be w (drop s b) at ≡ be w b (s + at)
unfolding be
be-drop zero s b at = refl
be-drop (suc w) s b at =
    ap₂ (λ (x y : ℕ). x * 256 ^ w + y) (get_or-drop s b at 0) (be-drop w s b (suc at) ∙ ap (be w b) (let e : s + suc at ≡ suc (s + at) = omega arith in e))

module _ (s : ℕ) (b : List ℕ) (h : s ≤ length b) where
  fits-drop : (w at : ℕ) → fits w b (s + at) ≡ fits w (drop s b) at
  fits-drop w at = by (leb (s + at + w) (length b)) refl
    where
      by : (t : Bool) → leb (s + at + w) (length b) ≡ t → t ≡ leb (at + w) (length (drop s b))
      by true e = sym (le-leb (at + w) (length (drop s b)) (omega (arith, length-drop s b, leb-true (s + at + w) (length b) e)))
      by false e = sym (lt-leb (at + w) (length (drop s b)) (omega (arith, length-drop s b, leb-false (s + at + w) (length b) e)))

  field-moved : (w at : ℕ) (go go' : ℕ → Result (ℕ × ℕ) Refusal) → ((x : ℕ) → go x ≡ on s (go' x)) → field Err w b (s + at) go ≡ on s (field Err w (drop s b) at go')
  unfolding field
  field-moved w at go go' f =
      ap₂ (λ (t : Bool) (p : Result (ℕ × ℕ) Refusal). when t p (Err (refusal.Cut (s + at)))) (fits-drop w at) (f (be w b (s + at)) ∙ ap (λ x. on s (go' x)) (sym (be-drop w s b at)))
      ∙ sym (through (on s) (fits w (drop s b) at) (go' (be w (drop s b) at)) (Err (refusal.Cut at)))

  cells-moved : (cs : List Cell) (at last : ℕ) → cells_of cs b (s + at) last ≡ on s (cells_of cs (drop s b) at last)
  unfolding cells_of
  cells-moved [] at last = refl
  cells-moved (c ∷ cs) at last =
      field-moved (width_of c) at _ _
      (λ x.
      ap (λ p. when (allowed_of c last x) p (Err (refusal.Value (s + at))))
      (ap (λ k. cells_of cs b k (last_of c last x)) (add_assoc s at (width_of c)) ∙ cells-moved cs (at + width_of c) (last_of c last x))
      ∙ sym (through (on s) (allowed_of c last x) (cells_of cs (drop s b) (at + width_of c) (last_of c last x)) (Err (refusal.Value at))))

  step-moved : (go go' : ℕ → ℕ → Result (Unit {0}) Refusal) → ((p l : ℕ) → go (s + p) l ≡ moved s (go' p l)) → (v : Result (ℕ × ℕ) Refusal) → step go (on s v) ≡ moved s (step go' v)
  step-moved go go' f (Ok (at, last)) = f at last
  step-moved go go' f (Err q) = refl

  pub entries-moved : (n : ℕ) (cells : List Cell) (at last : ℕ) → entries_of n cells b (s + at) last ≡ moved s (entries_of n cells (drop s b) at last)
  unfolding entries_of
  entries-moved zero cells at last = refl
  entries-moved (suc n) cells at last =
      ap (step (λ p l. entries_of n cells b p l)) (cells-moved cells at last)
      ∙ step-moved (λ p l. entries_of n cells b p l) (λ p l. entries_of n cells (drop s b) p l) (λ p l. entries-moved n cells p l) (entry_of cells (drop s b) at last)

  -- entries that begin where the part does
  pub judge-moved : (n : ℕ) (cells : List Cell) → entries_of n cells b s 0 ≡ moved s (entries_of n cells (drop s b) 0 0)
  judge-moved n cells = ap (λ k. entries_of n cells b k 0) (sym (add-zero s)) ∙ entries-moved n cells 0 0

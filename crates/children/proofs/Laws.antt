-- What the walk over children says. Assumes nothing.
use Rattle.std.specs.Prelude.{Result, Option, Ok, Err, Some, None}
use mathlib.Core.Path.{◌≡◌, refl, sym, ap, ◌∙◌}
use mathlib.Core.List.{List}
use mathlib.Core.Logic.{⊎_elim}
use mathlib.Core.Bool.{false}
use Prim.Native.Nat.{ℕ, zero, suc, ◌+◌, ◌-◌}
use native.Mathlib.Omega.{arith}
use lib.ListN.{length, take}
use lib.Seq.{take-length}
use lib.Dec.{eqb, ltb}
use borrow.Author.Tests.{eqb-true}
use Rattle.numbers.specs.Field.{when}
use Rattle.numbers.proofs.Chain.{way, through}
use Rattle.boxes.specs.Header.{header_of}
use Rattle.boxes.specs.declared.header.Header.{Header}
use Rattle.boxes.proofs.Within.{Within, header-within}
use Rattle.children.specs.Children.{Row, end, fault, box, headed, row_of, first_in, whole_in, placed, boxed, bytes_of, child_of}
use Rattle.children.proofs.Turns.{is-first}
use Rattle.numbers.specs.declared.Refusal.{Refusal}

abbrev told : Option ℕ → Result (Option ℕ) Refusal
told (Some p) = Ok (Some p)
told None = (Ok None)

-- IN A BOX WITHOUT A FAULT A PLACE THAT IS ABSENT IS NOT THERE: its children are all looked at
pub whole-told : (kind : ℕ) (row : Row) → whole_in row ≡ (Ok tt) → first_in kind row ≡ told (placed (first_in kind row))
unfolding whole_in first_in
whole-told kind end e = refl
whole-told kind (fault q) e = let z : ◌≡◌ {A = ℕ} 0 1 = cc in absurd (omega arith)
whole-told kind (box k at row) e =
    ap (when (eqb k kind) (Ok (Some at))) (whole-told kind row e) ∙ sym (through (λ c. told (placed c)) (eqb k kind) (Ok (Some at)) (first_in kind row))

-- WHAT IS FOUND IS A BOX OF THAT TYPE, which lies in its parent
module _ (s : List ℕ) (kind p : ℕ) where
  Is : Type 0
  Is = (h : Header) × (header_of s p false ≡ Ok h) × (h.kind ≡ kind)

  at-header : (at : ℕ) (next : ℕ → Row) (h : Result Header Refusal) → header_of s at false ≡ h → ((q : ℕ) → first_in kind (next q) ≡ Ok (Some p) → Is) → first_in kind (headed at next h) ≡ Ok (Some p) → Is
  unfolding first_in Is
  at-header at next (Err q) e go f = let z : ◌≡◌ {A = ℕ} 0 1 = cc in absurd (omega arith)
  at-header at next (Ok h) e go f =
      ⊎_elim (λ y. let k : at ≡ p = cc in (h, ap (λ n. header_of s n false) (sym k) ∙ e, eqb-true h.kind kind y.0))
      (λ y. go (at + h.size) y.1)
      (way (eqb h.kind kind) (Ok (Some at)) (first_in kind (next (at + h.size))) (Ok (Some p)) f)

  pub found-there : (f at : ℕ) → first_in kind (row_of f s at) ≡ Ok (Some p) → (h : Header) × (header_of s p false ≡ Ok h) × (h.kind ≡ kind)
  unfolding row_of first_in Is
  found-there zero at e = let z : ◌≡◌ {A = ℕ} 0 1 = cc in absurd (omega arith)
  found-there (suc f) at e =
      ⊎_elim (λ y. at-header at (row_of f s) (header_of s at false) refl (λ q. found-there f q) y.1)
      (λ y. let z : ◌≡◌ {A = ℕ} 0 1 = cc in absurd (omega arith))
      (way (ltb at (length s)) _ _ _ (sym (through (first_in kind) (ltb at (length s)) (headed at (row_of f s) (header_of s at false)) end) ∙ e))

-- BYTES THAT ARE ONE BOX OF A TYPE are its first box themselves
pub child-alone : (kind : ℕ) (b : List ℕ) (h : Header) → header_of b 0 false ≡ Ok h → h.kind ≡ kind → h.size ≡ length b → child_of kind b ≡ b
child-alone kind b h e k s =
    let w : Within b 0 h = header-within b 0 h false e in
    sym (ap (bytes_of b) (is-first b (length b) 0 (omega (arith, w.some, w.whole, s)) (omega arith) kind h e k))
    ∙ ap (boxed b 0) e ∙ ap (λ n. take n b) s ∙ take-length b

-- The walk over children: each turn of the loop is a step of the definition. Assumes nothing.
use Rattle.std.specs.Prelude.{Result, Option, Ok, Err, Some, None}
use mathlib.Core.Path.{◌≡◌, refl, sym, ap, ◌∙◌}
use mathlib.Core.List.{List}
use mathlib.Core.Bool.{Bool, true, false}
use Prim.Native.Nat.{ℕ, zero, suc, ◌+◌, ◌-◌, ◌<◌, ◌≤◌}
use native.Mathlib.Omega.{arith}
use lib.ListN.{length}
use lib.Dec.{ltb}
use borrow.Author.Tests.{lt-ltb, le-ltb, ltb-true, ltb-false}
use Rattle.numbers.specs.Field.{when}
use Rattle.numbers.specs.declared.Refusal.{Refusal}
use Rattle.numbers.proofs.Chain.{is_eq, is_ne}
use Rattle.boxes.specs.Header.{header_of}
use Rattle.boxes.specs.declared.header.Header.{Header}
use Rattle.boxes.proofs.Within.{Within, header-within}
use Rattle.children.specs.Children.{end, fault, box, headed, row_of, first_in, nth_in, whole_in, bytes_of, child_of}

module _ (s : List ℕ) where
  -- no byte is left
  spent : (f at : ℕ) → length s ≤ at → row_of f s at ≡ end
  unfolding row_of when
  spent zero at h = refl
  spent (suc f) at h = ap (λ t. when t (headed at (row_of f s) (header_of s at false)) end) (le-ltb at (length s) h)

  -- a byte is left, and fuel with it
  turn : (f at : ℕ) → at < length s → length s - at ≤ f → (g : ℕ) × (f ≡ suc g) × (row_of f s at ≡ headed at (row_of g s) (header_of s at false))
  unfolding row_of when
  turn zero at h l = absurd (omega arith)
  turn (suc f) at h l = (f, refl, ap (λ t. when t (headed at (row_of f s) (header_of s at false)) end) (lt-ltb at (length s) h))

  -- THE FUEL IS ENOUGH: where it is no less than the bytes that are left, more of it makes no difference
  pub enough : (f g at : ℕ) → length s - at ≤ f → length s - at ≤ g → row_of f s at ≡ row_of g s at
  unfolding row_of
  enough zero g at h l = sym (spent g at (omega arith))
  enough (suc f) g at h l = by (ltb at (length s)) refl (enough f)
    where
      on : (k : ℕ) (x : Result Header Refusal) → header_of s at false ≡ x → length s - at ≤ suc k → at < length s → ((g at : ℕ) → length s - at ≤ f → length s - at ≤ g → row_of f s at ≡ row_of g s at) →
          headed at (row_of f s) x ≡ headed at (row_of k s) x
      on k (Err q) e l i ih = refl
      on k (Ok x) e l i ih =
          let w : Within s at x = header-within s at x false e in
          ap (box x.kind at) (ih k (at + x.size) (omega (arith, w.some, w.whole)) (omega (arith, w.some, w.whole)))

      by : (t : Bool) → ltb at (length s) ≡ t → ((g at : ℕ) → length s - at ≤ f → length s - at ≤ g → row_of f s at ≡ row_of g s at) → row_of (suc f) s at ≡ row_of g s at
      by false e ih = spent (suc f) at (ltb-false at (length s) e) ∙ sym (spent g at (ltb-false at (length s) e))
      by true e ih =
          let i : at < length s = ltb-true at (length s) e in
          let t = turn (suc f) at i h in
          let u = turn g at i l in
          let same : t.0 ≡ f = omega (arith, t.1) in
          t.2 ∙ ap (λ n. headed at (row_of n s) (header_of s at false)) same
          ∙ on u.0 (header_of s at false) refl (omega (arith, u.1)) i ih ∙ sym u.2

  module _ (f at : ℕ) (h : at < length s) (l : length s - at ≤ f) where
    broken : (q : Refusal) → header_of s at false ≡ Err q → row_of f s at ≡ fault q
    broken q e = let t = turn f at h l in t.2 ∙ ap (headed at (row_of t.0 s)) e

    -- a box, and what is left behind it
    passed : (x : Header) → header_of s at false ≡ Ok x → (g : ℕ) × (length s - (at + x.size) ≤ g) × (row_of f s at ≡ box x.kind at (row_of g s (at + x.size)))
    passed x e =
        let t = turn f at h l in
        let w : Within s at x = header-within s at x false e in
        (t.0, omega (arith, t.1, w.some, w.whole), t.2 ∙ ap (headed at (row_of t.0 s)) e)

    pub first-fault : (kind : ℕ) (q : Refusal) → header_of s at false ≡ Err q → Err q ≡ first_in kind (row_of f s at)
    unfolding first_in
    first-fault kind q e = sym (ap (first_in kind) (broken q e))

    pub is-first : (kind : ℕ) (x : Header) → header_of s at false ≡ Ok x → x.kind ≡ kind → Ok (Some at) ≡ first_in kind (row_of f s at)
    unfolding first_in
    is-first kind x e k = let p = passed x e in is_eq _ (first_in kind (row_of p.0 s (at + x.size))) _ x.kind kind k refl ∙ sym (ap (first_in kind) p.2)

    pub not_first : (kind : ℕ) (x : Header) → header_of s at false ≡ Ok x → (x.kind ≡ kind → ⊥) → (z : Result (Option ℕ) Refusal) → first_in kind (row_of f s at) ≡ z →
        (g : ℕ) × (length s - (at + x.size) ≤ g) × (first_in kind (row_of g s (at + x.size)) ≡ z)
    unfolding first_in
    not_first kind x e k z i =
        let p = passed x e in
        (p.0, p.1, is_ne (Ok (Some at)) _ _ x.kind kind k refl ∙ sym (ap (first_in kind) p.2) ∙ i)

    pub nth-fault : (i : ℕ) (q : Refusal) → header_of s at false ≡ Err q → Err q ≡ nth_in i (row_of f s at)
    unfolding nth_in
    nth-fault i q e = sym (ap (nth_in i) (broken q e))

    pub is-nth : (i : ℕ) (x : Header) → header_of s at false ≡ Ok x → i ≡ 0 → Ok (Some at) ≡ nth_in i (row_of f s at)
    unfolding nth_in
    is-nth i x e k = let p = passed x e in is_eq _ (nth_in (i - 1) (row_of p.0 s (at + x.size))) _ i 0 k refl ∙ sym (ap (nth_in i) p.2)

    pub not-nth : (i : ℕ) (x : Header) → header_of s at false ≡ Ok x → (i ≡ 0 → ⊥) → (z : Result (Option ℕ) Refusal) → nth_in i (row_of f s at) ≡ z →
        (g : ℕ) × (length s - (at + x.size) ≤ g) × (nth_in (i - 1) (row_of g s (at + x.size)) ≡ z)
    unfolding nth_in
    not-nth i x e k z j =
        let p = passed x e in
        (p.0, p.1, is_ne (Ok (Some at)) _ _ i 0 k refl ∙ sym (ap (nth_in i) p.2) ∙ j)

    pub whole-fault : (q : Refusal) → header_of s at false ≡ Err q → Err q ≡ whole_in (row_of f s at)
    unfolding whole_in
    whole-fault q e = sym (ap whole_in (broken q e))

    pub one-whole : (x : Header) → header_of s at false ≡ Ok x → (z : _) → whole_in (row_of f s at) ≡ z →
        (g : ℕ) × (length s - (at + x.size) ≤ g) × (whole_in (row_of g s (at + x.size)) ≡ z)
    unfolding whole_in
    one-whole x e z i = let p = passed x e in (p.0, p.1, sym (ap whole_in p.2) ∙ i)

  pub none_first : (f at kind : ℕ) → length s ≤ at → (Ok None) ≡ first_in kind (row_of f s at)
  unfolding first_in
  none_first f at kind h = sym (ap (first_in kind) (spent f at h))

  pub none-nth : (f at i : ℕ) → length s ≤ at → (Ok None) ≡ nth_in i (row_of f s at)
  unfolding nth_in
  none-nth f at i h = sym (ap (nth_in i) (spent f at h))

  -- a box that was looked for from the first byte on
  pub looked-for : (kind : ℕ) (c : Result (Option ℕ) Refusal) → c ≡ first_in kind (row_of (length s - 0) s 0) → bytes_of s c ≡ child_of kind s
  looked-for kind c e = ap (bytes_of s) (e ∙ ap (first_in kind) (enough (length s - 0) (length s) 0 (omega arith) (omega arith)))

  pub all_whole : (f at : ℕ) → length s ≤ at → (Ok tt) ≡ whole_in (row_of f s at)
  unfolding whole_in
  all_whole f at h = sym (ap whole_in (spent f at h))

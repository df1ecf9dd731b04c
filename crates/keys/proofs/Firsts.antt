-- The fields up to one of a row are read as the whole row reads them. Assumes nothing.
use Rattle.std.specs.Prelude.{Result, Ok, Err, Some}
use mathlib.Core.Path.{◌≡◌, refl, sym, ap, ◌∙◌}
use mathlib.Core.List.{List, [], ◌∷◌, ◌++◌}
use mathlib.Core.Bool.{Bool, true, false}
use Prim.Native.Nat.{ℕ, zero, suc, ◌+◌, ◌-◌, ◌≤◌, ◌<◌}
use native.Mathlib.Nat.{add-zero, zero-add}
use native.Mathlib.Omega.{arith}
use lib.ListN.{length, get_or, take, replicate, length-append, length-replicate, get_or-append}
use lib.Seq.{sets}
use lib.Dec.{eqb, ltb}
use Rattle.numbers.specs.Number.{be}
use Rattle.numbers.specs.Field.{when}
use Rattle.boxes.specs.Header.{header_of}
use Rattle.layout.specs.Rule.{rule_of}
use Rattle.layout.specs.Read.{Got, got, fault, keep, one, decode, zeros, fields_of, headed, read_of}
use Rattle.layout.specs.Write.{padded}
use Rattle.layout.specs.Canonical.{slots, firsts}
use Rattle.layout.specs.declared.Field.{Field}
use Rattle.layout.specs.declared.Field.TheVariants.{Number, Reserved, Wide, Optional, Least, Version, Flags, Nothing}
use Rattle.layout.specs.declared.read.Fields.{Fields}
use Rattle.layout.proofs.Cases.{part-of}
use Rattle.rounds.proofs.Round.{passes, one-got, keep-got}
use Rattle.rounds.proofs.Boxes.{pulled, length_got}
use Rattle.keys.specs.Key.{key_in, key_at}
use Rattle.boxes.specs.declared.header.Header.{Header}
use Rattle.numbers.specs.declared.Refusal.{Refusal}
use Rattle.numbers.specs.declared.Refusal.TheVariants as refusal

-- no field more
none_more : (k : ℕ) (b : List ℕ) (at v fl : ℕ) → at ≤ length b → decode (replicate k Nothing) b at v fl ≡ got [] at
unfolding decode rule_of when be
none_more zero b at v fl h = refl
none_more (suc k) b at v fl h =
    passes (rule_of Nothing v fl) b at (λ x. decode (replicate k Nothing) b (at + 0) v fl) 0 (omega arith) refl (omega arith) (omega arith)
    ∙ ap (λ p. decode (replicate k Nothing) b p v fl) (add-zero at) ∙ none_more k b at v fl h

kept : (t : Bool) (x : ℕ) (ws : List ℕ) (p : ℕ) → keep t x (got ws p) ≡ got (when t (x ∷ ws) ws) p
unfolding when
kept true x ws p = refl
kept false x ws p = refl

joined : (t : Bool) (x : ℕ) (vs ws us : List ℕ) → vs ≡ ws ++ us → when t (x ∷ vs) vs ≡ when t (x ∷ ws) ws ++ us
unfolding when
joined true x vs ws us e = ap (λ l. x ∷ l) e
joined false x vs ws us e = e

-- the values of the first n fields are the first values
firsts-read : (fs : List Field) (n k : ℕ) (b : List ℕ) (at v fl : ℕ) (vs : List ℕ) (e : ℕ) → at ≤ length b → decode fs b at v fl ≡ got vs e →
    (ws us : List ℕ) × (p : ℕ) × (decode (take n fs ++ replicate k Nothing) b at v fl ≡ got ws p) × (vs ≡ ws ++ us)
unfolding decode
firsts-read fs zero k b at v fl vs e h d = ([], vs, at, none_more k b at v fl h, refl)
firsts-read [] (suc n) k b at v fl vs e h d = ([], vs, at, none_more k b at v fl h, refl)
firsts-read (f ∷ fs) (suc n) k b at v fl vs e h d =
    let r = rule_of f v fl in
    let x = be r.width b at in
    let o = one-got r b at (λ x. decode fs b (at + r.width) (when r.version x v) (when r.flags x fl)) vs e d in
    let j = keep-got r.kept x (decode fs b (at + r.width) (when r.version x v) (when r.flags x fl)) vs e o.3 in
    let ih = firsts-read fs n k b (at + r.width) (when r.version x v) (when r.flags x fl) j.0 e o.0 j.1 in (
      when r.kept (x ∷ ih.0) ih.0,
      ih.1,
      ih.2,
      passes r b at (λ x. decode (take n fs ++ replicate k Nothing) b (at + r.width) (when r.version x v) (when r.flags x fl)) x o.0 refl o.1 o.2
          ∙ ap (keep r.kept x) ih.3 ∙ kept r.kept x ih.0 ih.2,
      j.2 ∙ joined r.kept x j.0 ih.0 ih.1 ih.4,
    )

-- the values as they are stored
first-at : (n k i : ℕ) (xs : List ℕ) → i < n → get_or (firsts n k xs) i 0 ≡ get_or xs (k + i) 0
unfolding firsts
first-at zero k i xs h = absurd (omega arith)
first-at (suc n) k zero xs h = ap (λ j. get_or xs j 0) (sym (add-zero k))
first-at (suc n) k (suc i) xs h = first-at n (suc k) i xs (omega arith) ∙ ap (λ j. get_or xs j 0) (let q : suc k + i ≡ k + suc i = omega arith in q)

stored : (vs : List ℕ) (i : ℕ) → length vs ≤ 24 → i < length vs → get_or (sets (zeros 24) 0 vs) i 0 ≡ get_or vs i 0
stored vs i h l =
    ap (λ j. get_or (sets (zeros 24) 0 vs) j 0) (sym (zero-add i)) ∙ sym (first-at (length vs) 0 i (sets (zeros 24) 0 vs) l)
    ∙ ap (λ xs. get_or xs i 0) (pulled vs (zeros 24) 0 (omega (arith, length-replicate {A = ℕ} 24 0)))

-- the first n fields of a box that is read
module _ (kind : ℕ) (fs : List Field) (b : List ℕ) (all : slots fs ≤ 24) (n : ℕ) (f : Fields) where
  -- what is read of them: the same values, as many as they keep
  abbrev pub First : Result Fields Refusal → Type 0
  First r = (g : Fields) × (r ≡ Ok g) × ((i : ℕ) → i < slots (padded (take n fs)) → slots (padded (take n fs)) ≤ 24 → get_or g.values i 0 ≡ get_or f.values i 0)

  read-got : (s : List ℕ) (at end : ℕ) → at ≤ length s → (g : Got) → decode fs s at 0 0 ≡ g → fields_of end (zeros 24) 0 g ≡ Ok f →
      First (fields_of end (zeros 24) 0 (decode (padded (take n fs)) s at 0 0))
  read-got s at end h (got vs e) d z =
      let w = firsts-read fs n (24 - length (take n fs)) s at 0 0 vs e h d in
      let lw : length w.0 ≡ slots (padded (take n fs)) = length_got (padded (take n fs)) s at 0 0 w.0 w.2 w.3 in
      let lv : length vs ≡ slots fs = length_got fs s at 0 0 vs e d in
      let la : length vs ≡ length w.0 + length w.1 = ap length w.4 ∙ length-append w.0 w.1 in
      let is : sets (zeros 24) 0 vs ≡ f.values = cc z in (
        record { place = w.2; end = end; values = sets (zeros 24) 0 w.0 },
        ap (fields_of end (zeros 24) 0) w.3,
        λ i some few.
            stored w.0 i (omega arith) (omega arith) ∙ sym (get_or-append w.0 w.1 0 i (omega arith)) ∙ ap (λ l. get_or l i 0) (sym w.4)
            ∙ sym (stored vs i (omega arith) (omega arith)) ∙ ap (λ l. get_or l i 0) is,
      )
  read-got s at end h (fault q) d z = let x : ◌≡◌ {A = ℕ} 0 1 = cc z in absurd (omega arith)

  by_kind : (h : Header) → header_of b 0 true ≡ Ok h → (t : Bool) →
      when t (fields_of (length (take h.size b)) (zeros 24) 0 (decode fs (take h.size b) h.length 0 0)) (Err (refusal.Value 4)) ≡ Ok f →
      First (when t (fields_of (length (take h.size b)) (zeros 24) 0 (decode (padded (take n fs)) (take h.size b) h.length 0 0)) (Err (refusal.Value 4)))
  unfolding when
  by_kind h e true z = read-got (take h.size b) h.length (length (take h.size b)) (part-of b h e).1 (decode fs (take h.size b) h.length 0 0) refl z
  by_kind h e false z = let x : ◌≡◌ {A = ℕ} 0 1 = cc z in absurd (omega arith)

  by-header : (h : Result Header Refusal) → header_of b 0 true ≡ h → headed kind fs b h ≡ Ok f → First (headed kind (padded (take n fs)) b h)
  by-header (Ok h) e z = by_kind h e (eqb h.kind kind) z
  by-header (Err q) e z = let x : ◌≡◌ {A = ℕ} 0 1 = cc z in absurd (omega arith)

  pub first-read : read_of kind fs b ≡ Ok f → First (read_of kind (padded (take n fs)) b)
  first-read z = by-header (header_of b 0 true) refl z

-- A KEY IS THE VALUE IN ITS SLOT OF A BOX THAT IS READ, and begins where the fields before it end
module _ (kind : ℕ) (fs : List Field) (b : List ℕ) (slot : ℕ) (some : slot < slots (padded (take (suc slot) fs))) (few : slots (padded (take (suc slot) fs)) ≤ 24) (all : slots fs ≤ 24) (f : Fields) where
  pub key-in : (first : Fields) → read_of kind fs b ≡ Ok f → key_in slot (Ok first) (read_of kind (padded (take (suc slot) fs)) b) ≡ Some (get_or f.values slot 0, first.place)
  key-in first z =
      let whole = first-read kind fs b all (suc slot) f z in
      ap (key_in slot (Ok first)) whole.1 ∙ ap (λ x. Some (x, first.place)) (whole.2 slot some few)

  -- the fields before it are read
  pub key-begins : read_of kind fs b ≡ Ok f → (first : Fields) × (read_of kind (padded (take slot fs)) b ≡ Ok first) × (key_at kind b fs slot ≡ Some (get_or f.values slot 0, first.place))
  key-begins z =
      let first = first-read kind fs b all slot f z in
      (first.0, first.1, ap (λ r. key_in slot r (read_of kind (padded (take (suc slot) fs)) b)) first.1 ∙ key-in first.0 z)

-- A box of version and flags that is read, and whose size field is its length, is canonical: nothing of it is skipped.
-- Assumes nothing.
use Rattle.std.specs.Prelude.{Ok, Err}
use mathlib.Core.Path.{◌≡◌, refl, sym, ap, ◌∙◌}
use mathlib.Core.List.{List, [], ◌∷◌}
use mathlib.Core.Bool.{Bool, true, false}
use Prim.Native.Nat.{ℕ, ◌+◌, ◌-◌, ◌≤◌, ◌<◌}
use native.Mathlib.Omega.{arith}
use lib.ListN.{length}
use lib.Seq.{take-length}
use lib.Dec.{eqb, ltb}
use borrow.Author.Tests.{ltb-true, ltb-false, eqb-true}
use Rattle.numbers.specs.Number.{be}
use Rattle.numbers.specs.Field.{when}
use Rattle.numbers.specs.declared.Refusal.TheVariants as refusal
use Rattle.numbers.specs.declared.Refusal.{Refusal}
use Rattle.numbers.proofs.Laws.{Bytes}
use Rattle.numbers.proofs.Chain.{whole, ends, is_ne, is_lt, not-lt}
use Rattle.boxes.specs.Header.{header, header_of}
use Rattle.layout.specs.Rule.{rule_of}
use Rattle.layout.specs.Read.{Got, got, fault, keep, one, decode, zeros, fields_of, headed, read_of}
use Rattle.layout.specs.Canonical.{standard, Canonical}
use Rattle.layout.specs.declared.Field.{Field}
use Rattle.layout.specs.declared.read.Fields.{Fields}
use Rattle.rounds.proofs.Round.{one-got, keep-got}
use Rattle.emsg.specs.Emsg.{kind, fields}

-- the fields end in the bytes
decode-end : (fs : List Field) (b : List ℕ) (at v fl : ℕ) (vs : List ℕ) (e : ℕ) → decode fs b at v fl ≡ got vs e → at ≤ length b → e ≤ length b
unfolding decode
decode-end [] b at v fl vs e d h = let q : at ≡ e = cc in omega (arith, q, h)
decode-end (f ∷ fs) b at v fl vs e d h =
    let r = rule_of f v fl in
    let x = be r.width b at in
    let o = one-got r b at (λ x. decode fs b (at + r.width) (when r.version x v) (when r.flags x fl)) vs e d in
    let j = keep-got r.kept x (decode fs b (at + r.width) (when r.version x v) (when r.flags x fl)) vs e o.3 in
    decode-end fs b (at + r.width) (when r.version x v) (when r.flags x fl) j.0 e j.1 o.0

-- THE HEADER of a box whose size field is its length

module _ (b : List ℕ) (s : be 4 b 0 ≡ length b) where
  whole-header : 8 ≤ length b → Ok (header (be 4 b 4) (length b) 8) ≡ header_of b 0 true
  whole-header h =
      whole 4 b 0 Err _ _ (length b) (omega arith) (sym s)
      (is_ne _ _ _ (length b) 1 (λ z. omega arith)
      (is_ne _ _ _ (length b) 0 (λ z. omega arith)
      (not-lt _ _ _ (length b - 0) (length b) (omega arith)
      (not-lt _ _ _ (length b) 8 h
      (whole 4 b 4 Err _ _ (be 4 b 4) (omega arith) refl refl)))))

  short-header : length b < 8 → (q : Refusal) × (Err q ≡ header_of b 0 true)
  short-header h = by (ltb (length b) 4) refl
    where
      by : (t : Bool) → ltb (length b) 4 ≡ t → (q : Refusal) × (Err q ≡ header_of b 0 true)
      by true e = (refusal.Cut 0, ends 4 b 0 Err _ _ (let z : length b < 0 + 4 = omega (arith, ltb-true (length b) 4 e) in z) refl)
      by false e =
          let l = ltb-false (length b) 4 e in (
            refusal.Size 0,
            whole 4 b 0 Err _ _ (length b) (omega (arith, l)) (sym s)
                (is_ne _ _ _ (length b) 1 (λ z. omega (arith, l, z))
                (is_ne _ _ _ (length b) 0 (λ z. omega (arith, l, z))
                (not-lt _ _ _ (length b - 0) (length b) (omega arith)
                (is_lt _ _ _ (length b) 8 h refl)))),
          )

-- nothing is reserved
all-standard : (b : List ℕ) → standard fields b 8 0 0 ≡ true
unfolding standard rule_of when be
all-standard b = refl

pub canonical : (b : List ℕ) → Bytes b → be 4 b 0 ≡ length b → (f : Fields) → read_of kind fields b ≡ Ok f → (k : ℕ) × Canonical kind fields k b
unfolding when
canonical b hb s f h = sized (ltb (length b) 8) refl
  where
    fielded : (g : Got) → 8 ≤ length b → be 4 b 4 ≡ kind → decode fields b 8 0 0 ≡ g → fields_of (length b) (zeros 24) 0 g ≡ Ok f → (k : ℕ) × Canonical kind fields k b
    fielded (got vs e) l k d z =
        (length b - e, record { byte = hb; size = s; type = k; long = l; values = vs; end = e; fields = d; reserved = all-standard b; rest = omega (arith, decode-end fields b 8 0 0 vs e d l) })
    fielded (fault q) l k d z = let y : ◌≡◌ {A = ℕ} 0 1 = cc z in absurd (omega arith)

    typed : 8 ≤ length b → (t : Bool) → eqb (be 4 b 4) kind ≡ t →
        when t (fields_of (length b) (zeros 24) 0 (decode fields b 8 0 0)) (Err (refusal.Value 4)) ≡ Ok f → (k : ℕ) × Canonical kind fields k b
    typed l true e z = fielded (decode fields b 8 0 0) l (eqb-true (be 4 b 4) kind e) refl z
    typed l false e z = let y : ◌≡◌ {A = ℕ} 0 1 = cc z in absurd (omega arith)

    sized : (t : Bool) → ltb (length b) 8 ≡ t → (k : ℕ) × Canonical kind fields k b
    sized true e =
        let q = short-header b s (ltb-true (length b) 8 e) in
        let z : Err q.0 ≡ Ok f = ap (headed kind fields b) q.1 ∙ h in
        let y : ◌≡◌ {A = ℕ} 0 1 = cc z in
        absurd (omega arith)
    sized false e =
        let l = ltb-false (length b) 8 e in
        typed l (eqb (be 4 b 4) kind) refl
        (ap (λ c. when (eqb (be 4 b 4) kind) (fields_of (length c) (zeros 24) 0 (decode fields c 8 0 0)) (Err (refusal.Value 4))) (sym (take-length b))
        ∙ ap (headed kind fields b) (whole-header b s l) ∙ h)

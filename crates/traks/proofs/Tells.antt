-- A track's number, and where its tables lie, step by step. Assumes nothing.
use Rattle.std.specs.Prelude.{Result, Option, Ok, Err, Some, None}
use mathlib.Core.Path.{◌≡◌, refl, sym, ap, ◌∙◌}
use mathlib.Core.List.{List}
use Prim.Native.Nat.{ℕ, ◌-◌, ◌<◌, ◌≤◌}
use native.Mathlib.Omega.{arith}
use lib.ListN.{take}
use Rattle.numbers.specs.Field.{when}
use Rattle.numbers.proofs.Chain.{is_eq, is_ne}
use Rattle.layout.specs.Rule.{rule_of}
use Rattle.layout.specs.Read.{read_of}
use Rattle.layout.specs.Write.{padded}
use Rattle.layout.specs.Canonical.{most, limit}
use Rattle.layout.specs.declared.read.Fields.{Fields}
use Rattle.rounds.proofs.Boxes.{fits}
use Rattle.places.specs.Kinds as kinds
use Rattle.tkhd.specs.Tkhd as tkhd
use Rattle.keys.specs.Key.{keys, key_in, pick_key, key_of}
use Rattle.kin.specs.Kin.{Boxes, at}
use Rattle.contents.specs.Held.{part_of, number_in}
use Rattle.inside.specs.Inside.{child}
use Rattle.inside.proofs.Laws.{child-most}
use Rattle.stbl.specs.Stbl.{track_of}
use Rattle.stbl.specs.declared.Boxes as places
use Rattle.traks.specs.Traks.{number_of, span_in, boxes_in, tables_of}
use Rattle.tables.specs.declared.Track.{Track}
use Rattle.numbers.specs.declared.Refusal.{Refusal}

-- THE NUMBER

-- it is a number of four bytes
small : (part : List ℕ) → number_in (key_of kinds.tkhd part) ≤ 4294967295
unfolding pick_key keys limit most rule_of when
small part = by (read_of kinds.tkhd (padded (take 4 tkhd.fields)) part) (read_of kinds.tkhd (padded (take 5 tkhd.fields)) part) refl
  where
    by : (first got : Result Fields Refusal) → got ≡ read_of kinds.tkhd (padded (take 5 tkhd.fields)) part → number_in (key_in 4 first got) ≤ 4294967295
    by (Ok first) (Ok got) e = fits kinds.tkhd (padded (take 5 tkhd.fields)) part 4 4294967295 got (sym e) refl
    by (Ok first) (Err q) e = omega arith
    by (Err q) got e = omega arith

pub key_fits : (part : List ℕ) (k : Option (ℕ × ℕ)) (x p : ℕ) → k ≡ key_of kinds.tkhd part → k ≡ Some (x, p) → x ≤ 4294967295
key_fits part k x p e g = omega (arith, small part, ap number_in (sym g ∙ e))

module _ (f : List ℕ) (t : Boxes) (n trak head : ℕ) (e : head ≡ child t n kinds.tkhd trak) where
  pub row_lies : (head ≡ 0 → ⊥) → head - 1 < 4096
  row_lies o = omega (arith, e, child-most t kinds.tkhd trak n)

  pub no-head : head ≡ 0 → 0 ≡ number_of f t n trak
  no-head h = is_eq _ _ _ (child t n kinds.tkhd trak) 0 (sym e ∙ h) refl

  pub headed : (x : ℕ) → (head ≡ 0 → ⊥) → x ≡ number_in (key_of kinds.tkhd (part_of f t (head - 1))) → x ≡ number_of f t n trak
  headed x o g = is_ne _ _ _ (child t n kinds.tkhd trak) 0 (λ h. o (e ∙ h)) (g ∙ ap (λ h. number_in (key_of kinds.tkhd (part_of f t (h - 1)))) e)

-- THE TABLES

module _ (t : Boxes) (n kind p row : ℕ) (e : row ≡ child t n kind p) where
  pub span-lies : (row ≡ 0 → ⊥) → row - 1 < 4096
  span-lies o = omega (arith, e, child-most t kind p n)

  pub no_span : row ≡ 0 → None ≡ span_in t (child t n kind p)
  no_span h = is_eq _ _ _ (child t n kind p) 0 (sym e ∙ h) refl

  pub a-span : (row ≡ 0 → ⊥) → Some (at t.starts (row - 1), at t.sizes (row - 1)) ≡ span_in t (child t n kind p)
  a-span o =
      is_ne _ _ _ (child t n kind p) 0 (λ h. o (e ∙ h)) (ap (λ r. Some (at t.starts (r - 1), at t.sizes (r - 1))) e)

module _ (t : Boxes) (n p : ℕ) where
  pub all-spans : (a b c d e f g : Option (ℕ × ℕ)) → a ≡ span_in t (child t n kinds.stts p) → b ≡ span_in t (child t n kinds.ctts p) → c ≡ span_in t (child t n kinds.stsc p) → d ≡ span_in t (child t n kinds.stsz p) →
      e ≡ span_in t (child t n kinds.stco p) → f ≡ span_in t (child t n kinds.co64 p) → g ≡ span_in t (child t n kinds.stss p) →
      record { stts = a; ctts = b; stsc = c; stsz = d; stco = e; co64 = f; stss = g } ≡ boxes_in t n p
  all-spans a b c d e f g x1 x2 x3 x4 x5 x6 x7 = cc

pub told : (f : List ℕ) (t : Boxes) (n trak mdia minf p : ℕ) (b : places.Boxes) (x : Result Track Refusal) → mdia ≡ child t n kinds.mdia trak → minf ≡ child t n kinds.minf mdia → p ≡ child t n kinds.stbl minf →
    b ≡ boxes_in t n p → x ≡ track_of f b → x ≡ tables_of f t n trak
unfolding tables_of
told f t n trak mdia minf p b x d m s e g =
    g ∙ ap (track_of f) (e ∙ ap (boxes_in t n) (s ∙ ap (child t n kinds.stbl) (m ∙ ap (child t n kinds.minf) d)))

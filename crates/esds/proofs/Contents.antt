-- What a reader found lies in the bytes that are lent. Assumes nothing.
use Rattle.std.specs.Prelude.{Result, Option, Ok, Err, Some, None}
use mathlib.Core.Path.{◌≡◌, refl, ap}
use mathlib.Core.Bool.{Bool}
use mathlib.Core.List.{List}
use mathlib.Core.Logic.{⊎_elim}
use Prim.Native.Nat.{ℕ, ◌+◌, ◌≤◌}
use native.Mathlib.Omega.{arith}
use lib.ListN.{length, length-take, take}
use lib.Dec.{eqb, leb}
use Rattle.numbers.proofs.Chain.{way, field-way}
use Rattle.layout.specs.Read.{read_of}
use Rattle.layout.specs.declared.read.Fields as layout
use Rattle.descriptor.specs.Descriptor.{length_of}
use Rattle.descriptors.specs.Descriptors.{seek_of}
use Rattle.decoderconfig.specs.DecoderConfig.{config_of}
use Rattle.decoderconfig.specs.declared.Config.{Config}
use Rattle.decoderconfig.proofs.Configs.{found_in}
use Rattle.decoderconfig.proofs.Configs as config
use Rattle.esfields.specs.EsFields.{fields_of}
use Rattle.esfields.specs.declared.Stream.{Stream}
use Rattle.esfields.proofs.Cases as es
use Rattle.esds.specs.Esds.{kind, fields, last_of, after_config, configured, first_of, tail_of, with_tail, with_fields, content_of, lengthed, stream_of, full_of, esds_of}
use Rattle.esds.specs.declared.Esds.{Esds}
use Rattle.esds.specs.declared.Places.{Places}
use Rattle.esds.specs.declared.Parts.{Parts}
use Rattle.descriptor.specs.declared.Length.{Length}
use Rattle.numbers.specs.declared.Refusal.{Refusal}
use Rattle.descriptors.specs.declared.Sought.{Sought}

-- a part lies in n bytes
abbrev pub In : ℕ → ℕ → ℕ → Type 0
In from to n = (from ≤ to) × (to ≤ n)

module _ (s : List ℕ) (d : Option Config) (b : Bool) (p : Parts) where
  parts_is : (c : Option Config) (x : Bool) (o : Parts) → ◌≡◌ {A = Result (Option Config × Bool × Parts) Refusal} (Ok (c, x, o)) (Ok (d, b, p)) → o ≡ p
  parts_is c x o e = let q : ◌≡◌ {A = Option Config × Bool × Parts} (c, x, o) (d, b, p) = cc e in ap (λ (t : Option Config × Bool × Parts). t.2) q

  after-in : (at : ℕ) (c : Config) (i j : ℕ) → In i j (length s) → after_config s at c i j ≡ Ok (d, b, p) → In p.info p.info_end (length s) × In p.sl p.sl_end (length s)
  after-in at c i j k h = by (seek_of s at 6 6) refl h
    where
      both : (f e : ℕ) → In f e (length s) → record { info = i; info_end = j; sl = f; sl_end = e } ≡ p → In p.info p.info_end (length s) × In p.sl p.sl_end (length s)
      both f e l q =
          let a : i ≡ p.info = cc in
          let a2 : j ≡ p.info_end = cc in
          let a3 : f ≡ p.sl = cc in
          let a4 : e ≡ p.sl_end = cc in
          ((omega (arith, a, a2, k.0), omega (arith, a2, k.1)), (omega (arith, a3, a4, l.0), omega (arith, a4, l.1)))

      by : (x : Result (Option Sought) Refusal) → seek_of s at 6 6 ≡ x → last_of c i j x ≡ Ok (d, b, p) → In p.info p.info_end (length s) × In p.sl p.sl_end (length s)
      by (Ok None) e h = both 0 0 (omega arith, omega arith) (parts_is _ _ _ h)
      by (Err q) e h = let z : ◌≡◌ {A = ℕ} 0 1 = cc h in absurd (omega arith)
      by (Ok (Some r)) e h = both r.from r.to (found_in s at 6 6 r.tag r.at r.from r.to e) (parts_is _ _ _ h)

  tail-in : (at : ℕ) → tail_of s at ≡ Ok (d, b, p) → In p.info p.info_end (length s) × In p.sl p.sl_end (length s)
  tail-in at h = by (seek_of s at 4 6) refl h
    where
      none : (f e : ℕ) → In f e (length s) → record { info = 0; info_end = 0; sl = f; sl_end = e } ≡ p → In p.info p.info_end (length s) × In p.sl p.sl_end (length s)
      none f e l q =
          let a : 0 ≡ p.info = cc in
          let a2 : 0 ≡ p.info_end = cc in
          let a3 : f ≡ p.sl = cc in
          let a4 : e ≡ p.sl_end = cc in
          ((omega (arith, a, a2), omega (arith, a2)), (omega (arith, a3, a4, l.0), omega (arith, a4, l.1)))

      on : (g f : ℕ) (y : Result (Config × ℕ × ℕ) Refusal) → g ≤ length s → config_of (take g s) f ≡ y → configured s g y ≡ Ok (d, b, p) → In p.info p.info_end (length s) × In p.sl p.sl_end (length s)
      on g f (Err q) l e h = let z : ◌≡◌ {A = ℕ} 0 1 = cc h in absurd (omega arith)
      on g f (Ok (c, i, j)) l e h =
          let k = config.inside (take g s) f c i j e in
          after-in g c i j (k.0, omega (arith, k.1, length-take g s)) h

      by : (x : Result (Option Sought) Refusal) → seek_of s at 4 6 ≡ x → first_of s x ≡ Ok (d, b, p) → In p.info p.info_end (length s) × In p.sl p.sl_end (length s)
      by (Ok None) e h = none 0 0 (omega arith, omega arith) (parts_is _ _ _ h)
      by (Err q) e h = let z : ◌≡◌ {A = ℕ} 0 1 = cc h in absurd (omega arith)
      by (Ok (Some r)) e h =
          let k = found_in s at 4 6 r.tag r.at r.from r.to e in
          ⊎_elim (λ y. none r.from r.to k (parts_is _ _ _ y.1)) (λ y. on r.to r.from (config_of (take r.to s) r.from) k.1 refl y.1) (way (eqb r.tag 6) _ _ _ h)

-- each part of a box
pub record Inside (n : ℕ) (p : Places) : Type 0 where
  pub url : In p.url p.url_end n
  pub info : In p.info p.info_end n
  pub sl : In p.sl p.sl_end n

wider : (m n : ℕ) (p : Places) → m ≤ n → Inside m p → Inside n p
wider m n p h i = record { url = (i.url.0, omega (arith, i.url.1)); info = (i.info.0, omega (arith, i.info.1)); sl = (i.sl.0, omega (arith, i.sl.1)) }

module _ (m : Esds) (p : Places) where
  places_is : (n : Esds) (q : Places) → ◌≡◌ {A = Result (Esds × Places) Refusal} (Ok (n, q)) (Ok (m, p)) → q ≡ p
  places_is n q e = let r : ◌≡◌ {A = Esds × Places} (n, q) (m, p) = cc e in ap (λ (t : Esds × Places). t.1) r

  content-in : (s : List ℕ) (at fl : ℕ) → content_of s at fl ≡ Ok (m, p) → Inside (length s) p
  content-in s at fl h = by (fields_of s at) refl h
    where
      on : (x : Stream) (u v end : ℕ) (y : Result ((Option Config) × Bool × Parts) Refusal) → fields_of s at ≡ Ok (x, u, v, end) → tail_of s end ≡ y → with_tail fl x u v y ≡ Ok (m, p) → Inside (length s) p
      on x u v end (Err q) e g h = let z : ◌≡◌ {A = ℕ} 0 1 = cc h in absurd (omega arith)
      on x u v end (Ok (d, b, o)) e g h =
          let k = es.inside s at x u v end e in
          let t = tail-in s d b o end g in
          let r = places_is _ _ h in
          let a1 : u ≡ p.url = ap (λ (p : Places). p.url) r in
          let a2 : v ≡ p.url_end = ap (λ (p : Places). p.url_end) r in
          let a3 : o.info ≡ p.info = ap (λ (p : Places). p.info) r in
          let a4 : o.info_end ≡ p.info_end = ap (λ (p : Places). p.info_end) r in
          let a5 : o.sl ≡ p.sl = ap (λ (p : Places). p.sl) r in
          let a6 : o.sl_end ≡ p.sl_end = ap (λ (p : Places). p.sl_end) r in
          record {
            url = (omega (arith, a1, a2, k.0), omega (arith, a2, k.1, k.2));
            info = (omega (arith, a3, a4, t.0.0), omega (arith, a4, t.0.1));
            sl = (omega (arith, a5, a6, t.1.0), omega (arith, a6, t.1.1));
          }

      by : (x : Result (Stream × ℕ × ℕ × ℕ) Refusal) → fields_of s at ≡ x → with_fields s fl x ≡ Ok (m, p) → Inside (length s) p
      by (Err q) e h = let z : ◌≡◌ {A = ℕ} 0 1 = cc h in absurd (omega arith)
      by (Ok (x, u, v, end)) e h = on x u v end (tail_of s end) e refl h

  stream-in : (s : List ℕ) (at fl : ℕ) → stream_of s at fl ≡ Ok (m, p) → Inside (length s) p
  stream-in s at fl h = ⊎_elim (λ y. by _ (length_of s (at + 1)) y.1) (λ y. let z : ◌≡◌ {A = ℕ} 0 1 = cc y.1 in absurd (omega arith)) (field-way 1 s at Err _ _ h)
    where
      by : (tag : ℕ) (l : Result Length Refusal) → lengthed s at fl tag l ≡ Ok (m, p) → Inside (length s) p
      by tag (Err q) h =
          ⊎_elim (λ y. let z : ◌≡◌ {A = ℕ} 0 1 = cc y.1 in absurd (omega arith)) (λ y. let z : ◌≡◌ {A = ℕ} 0 1 = cc y.1 in absurd (omega arith)) (way (eqb tag 3) _ _ _ h)
      by tag (Ok l) h =
          let n = l.value in
          let from = l.after in
          ⊎_elim
          (λ y. ⊎_elim (λ v. wider (length (take (from + n) s)) (length s) p (omega (arith, length-take (from + n) s)) (content-in (take (from + n) s) from fl v.1))
          (λ v. let z : ◌≡◌ {A = ℕ} 0 1 = cc v.1 in absurd (omega arith))
          (way (eqb tag 3) _ _ _ y.1))
          (λ y. let z : ◌≡◌ {A = ℕ} 0 1 = cc y.1 in absurd (omega arith))
          (way (leb (from + n) (length s)) _ _ _ h)

  pub inside : (b : List ℕ) → esds_of b ≡ Ok (m, p) → Inside (length b) p
  inside b h = by (read_of kind fields b) h
    where
      by : (r : Result layout.Fields Refusal) → full_of b r ≡ Ok (m, p) → Inside (length b) p
      by (Ok g) h = wider (length (take g.end b)) (length b) p (omega (arith, length-take g.end b)) (stream-in (take g.end b) g.place _ h)
      by (Err q) h = let z : ◌≡◌ {A = ℕ} 0 1 = cc h in absurd (omega arith)

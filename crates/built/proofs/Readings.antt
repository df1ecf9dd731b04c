-- Each table of samples that are stored in a file, read by its box's own reader: where its entries stand, and that it tells
-- what was built. Assumes nothing.
use Rattle.std.specs.Prelude.{Option, Ok}
use Prim.Native.Nat.{ℕ, ◌+◌, ◌-◌, ◌*◌, ◌^◌, ◌≤◌, ◌<◌}
use mathlib.Core.Path.{◌≡◌, refl, ap, subst, ◌∙◌}
use mathlib.Core.List.{List}
use native.Mathlib.Omega.{arith}
use lib.ListN.{length, take}
use Rattle.numbers.specs.Field.{when}
use Rattle.parts.specs.Parts.{part_of}
use Rattle.put.specs.Put.{Wrote, wrote}
use Rattle.layout.specs.Rule.{rule_of}
use Rattle.layout.specs.Canonical.{slots, firsts}
use Rattle.rows.proofs.Moved.{judge-moved}
use Rattle.stts.specs.Stts as stts
use Rattle.stts.specs.declared.Stts.{Stts}
use Rattle.ctts.specs.Ctts as ctts
use Rattle.ctts.specs.declared.Ctts.{Ctts}
use Rattle.stsc.specs.Stsc as stsc
use Rattle.stsc.specs.declared.Stsc.{Stsc}
use Rattle.stsz.specs.Stsz as stsz
use Rattle.stsz.specs.declared.Stsz.{Stsz}
use Rattle.stco.specs.Stco as stco
use Rattle.stco.specs.declared.Stco.{Stco}
use Rattle.co64.specs.Co64 as co64
use Rattle.co64.specs.declared.Co64.{Co64}
use Rattle.stss.specs.Stss as stss
use Rattle.stss.specs.declared.Stss.{Stss}
use Rattle.stbl.specs.Stbl.{last, entries_at, stts_read, stts_at, ctts_read, ctts_at, stsc_read, stsc_at, stsz_read, stsz_at, stco_read, stco_at, co64_read, co64_at, stss_read, stss_at}
use Rattle.built.specs.Written.{Stands}
use Rattle.built.specs.Stored.{BoxAt}
use Rattle.built.proofs.Boxes.{Reads, table-reads, judged-reads, part-is, entries-stand, in_reach}

-- THE BOXES' OWN READERS

module _ (rows buf : List ℕ) (k : ℕ) (out : List ℕ) where
  stts-reads : (m : Stts) → stts.stts_in m rows buf ≡ wrote (Ok k) out → (length rows ≡ m.count * 2 * 4) × Reads (stts.stts_of (take k out)) (λ b. Ok (m, b)) (take k out) rows
  unfolding slots firsts rule_of when
  stts-reads m = table-reads stts.from stts.to stts.cells 4 stts.kind stts.fields (omega arith) (λ m. refl) m rows buf k out

  ctts-reads : (m : Ctts) → ctts.ctts_in m rows buf ≡ wrote (Ok k) out → (length rows ≡ m.count * 2 * 4) × Reads (ctts.ctts_of (take k out)) (λ b. Ok (m, b)) (take k out) rows
  unfolding slots firsts rule_of when
  ctts-reads m = table-reads ctts.from ctts.to ctts.cells 4 ctts.kind ctts.fields (omega arith) (λ m. refl) m rows buf k out

  stsz-reads : (m : Stsz) → stsz.stsz_in m rows buf ≡ wrote (Ok k) out → (length rows ≡ stsz.cells m * 4) × Reads (stsz.stsz_of (take k out)) (λ b. Ok (m, b)) (take k out) rows
  unfolding slots firsts rule_of when
  stsz-reads m = table-reads stsz.from stsz.to stsz.cells 4 stsz.kind stsz.fields (omega arith) (λ m. refl) m rows buf k out

  stco-reads : (m : Stco) → stco.stco_in m rows buf ≡ wrote (Ok k) out → (length rows ≡ m.count * 4) × Reads (stco.stco_of (take k out)) (λ b. Ok (m, b)) (take k out) rows
  unfolding slots firsts rule_of when
  stco-reads m = table-reads stco.from stco.to stco.cells 4 stco.kind stco.fields (omega arith) (λ m. refl) m rows buf k out

  co64-reads : (m : Co64) → co64.co64_in m rows buf ≡ wrote (Ok k) out → (length rows ≡ m.count * 8) × Reads (co64.co64_of (take k out)) (λ b. Ok (m, b)) (take k out) rows
  unfolding slots firsts rule_of when
  co64-reads m = table-reads co64.from co64.to co64.cells 8 co64.kind co64.fields (omega arith) (λ m. refl) m rows buf k out

  stsc-reads : (m : Stsc) → stsc.stsc_in m rows buf ≡ wrote (Ok k) out → (length rows ≡ m.count * 12) × Reads (stsc.stsc_of (take k out)) (λ b. Ok (m, b)) (take k out) rows
  unfolding slots firsts rule_of when
  stsc-reads m = judged-reads stsc.from stsc.to stsc.size stsc.judge (λ m s b h. judge-moved s b h m.count stsc.cells) stsc.kind stsc.fields (omega arith) (λ m. refl) m rows buf k out

  stss-reads : (m : Stss) → stss.stss_in m rows buf ≡ wrote (Ok k) out → (length rows ≡ m.count * 4) × Reads (stss.stss_of (take k out)) (λ b. Ok (m, b)) (take k out) rows
  unfolding slots firsts rule_of when
  stss-reads m = judged-reads stss.from stss.to stss.size stss.judge (λ m s b h. judge-moved s b h m.count stss.cells) stss.kind stss.fields (omega arith) (λ m. refl) m rows buf k out

-- IN THE FILE

-- what a box's reader says of a file is that there are entries at a place, and there they stand
pub record Found {Q : Type 0} (r : Q) (at : ℕ → ℕ → Q) (f entries : List ℕ) (size : ℕ) : Type 0 where
  pub start : ℕ
  pub place : ℕ
  pub is : r ≡ at start place
  pub reach : start + place ≤ last
  pub stands : Stands f (start + place) entries
  pub many : length entries ≡ size

module _ (f : List ℕ) (h : length f < 2 ^ 64) (s : Option (ℕ × ℕ)) (entries_in : List ℕ → Wrote) (box_in : List ℕ → List ℕ → Wrote) (x : BoxAt f s entries_in box_in) {R : Type 0} {Q : Type 0} (read : List ℕ → R) (is : ℕ → R) (size : ℕ) where
  found : ((k : ℕ) (out : List ℕ) → box_in x.entries x.out ≡ wrote (Ok k) out → (length x.entries ≡ size) × Reads (read (take k out)) is (take k out) x.entries) →
      (told : ℕ → R → Q) (q : Q) → q ≡ told x.start (read (part_of x.start (length x.box) f)) → Found q (λ start place. told start (is place)) f x.entries size
  found reads told q e =
      let w = x.written in
      let r = reads w.size w.buffer w.done in
      let y : Reads (read x.box) is x.box x.entries = subst (λ (b : List ℕ). Reads (read b) is b x.entries) w.bytes r.1 in
      record {
        start = x.start;
        place = y.place;
        is = e ∙ ap (λ (p : List ℕ). told x.start (read p)) (part-is f x.box x.start x.stands) ∙ ap (told x.start) y.reads;
        reach = in_reach f x.box x.start x.stands x.entries y.place y.ends y.within h;
        stands = entries-stand f x.box x.start x.stands x.entries y.place y.ends y.within;
        many = r.0;
      }

module _ (f : List ℕ) (h : length f < 2 ^ 64) (s : Option (ℕ × ℕ)) (entries_in : List ℕ → Wrote) where
  pub stts-found : (m : Stts) (x : BoxAt f s entries_in (stts.stts_in m)) → Found (stts_at f s) (λ start place. entries_at start place m.count 0) f x.entries (m.count * 2 * 4)
  stts-found m x = found f h s entries_in (stts.stts_in m) x stts.stts_of (λ b. Ok (m, b)) (m.count * 2 * 4) (λ k out. stts-reads x.entries x.out k out m) stts_read (stts_at f s) (ap (stts_at f) x.spanned)

  pub ctts-found : (m : Ctts) (x : BoxAt f s entries_in (ctts.ctts_in m)) → Found (ctts_at f s) (λ start place. entries_at start place m.count 0) f x.entries (m.count * 2 * 4)
  ctts-found m x = found f h s entries_in (ctts.ctts_in m) x ctts.ctts_of (λ b. Ok (m, b)) (m.count * 2 * 4) (λ k out. ctts-reads x.entries x.out k out m) ctts_read (ctts_at f s) (ap (ctts_at f) x.spanned)

  pub stsz-found : (m : Stsz) (x : BoxAt f s entries_in (stsz.stsz_in m)) → Found (stsz_at f s) (λ start place. entries_at start place m.count m.sample_size) f x.entries (stsz.cells m * 4)
  stsz-found m x = found f h s entries_in (stsz.stsz_in m) x stsz.stsz_of (λ b. Ok (m, b)) (stsz.cells m * 4) (λ k out. stsz-reads x.entries x.out k out m) stsz_read (stsz_at f s) (ap (stsz_at f) x.spanned)

  pub stco-found : (m : Stco) (x : BoxAt f s entries_in (stco.stco_in m)) → Found (stco_at f s) (λ start place. entries_at start place m.count 0) f x.entries (m.count * 4)
  stco-found m x = found f h s entries_in (stco.stco_in m) x stco.stco_of (λ b. Ok (m, b)) (m.count * 4) (λ k out. stco-reads x.entries x.out k out m) stco_read (stco_at f s) (ap (stco_at f) x.spanned)

  pub co64-found : (m : Co64) (x : BoxAt f s entries_in (co64.co64_in m)) → Found (co64_at f s) (λ start place. entries_at start place m.count 0) f x.entries (m.count * 8)
  co64-found m x = found f h s entries_in (co64.co64_in m) x co64.co64_of (λ b. Ok (m, b)) (m.count * 8) (λ k out. co64-reads x.entries x.out k out m) co64_read (co64_at f s) (ap (co64_at f) x.spanned)

  pub stsc-found : (m : Stsc) (x : BoxAt f s entries_in (stsc.stsc_in m)) → Found (stsc_at f s) (λ start place. entries_at start place m.count 0) f x.entries (m.count * 12)
  stsc-found m x = found f h s entries_in (stsc.stsc_in m) x stsc.stsc_of (λ b. Ok (m, b)) (m.count * 12) (λ k out. stsc-reads x.entries x.out k out m) stsc_read (stsc_at f s) (ap (stsc_at f) x.spanned)

  pub stss-found : (m : Stss) (x : BoxAt f s entries_in (stss.stss_in m)) → Found (stss_at f s) (λ start place. entries_at start place m.count 0) f x.entries (m.count * 4)
  stss-found m x = found f h s entries_in (stss.stss_in m) x stss.stss_of (λ b. Ok (m, b)) (m.count * 4) (λ k out. stss-reads x.entries x.out k out m) stss_read (stss_at f s) (ap (stss_at f) x.spanned)

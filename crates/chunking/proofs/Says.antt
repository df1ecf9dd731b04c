-- What the builders of the chunks' tables answer, way by way. Assumes nothing.
use Rattle.std.specs.Prelude.{Err}
use Prim.Native.Nat.{ℕ, ◌+◌, ◌*◌, ◌^◌, ◌≤◌, ◌<◌}
use mathlib.Core.Path.{◌≡◌, refl, sym, ap, ◌∙◌}
use mathlib.Core.List.{List}
use mathlib.Core.Bool.{Bool, true, false, not}
use native.Mathlib.Omega.{arith}
use lib.ListN.{length}
use lib.Dec.{eqb, leb}
use borrow.Author.Tests.{leb-true, leb-false, not-true, not-false}
use Rattle.numbers.specs.Field.{when}
use Rattle.numbers.specs.declared.Refusal.TheVariants as refusal
use Rattle.numbers.proofs.Chain.{is_eq, is_ne}
use Rattle.put.specs.Put.{Wrote, wrote}
use Rattle.columns.specs.Entries.{placed_of, built_of}
use Rattle.columns.proofs.Written.{built-none, built-many, built-unfit, built}
use Rattle.chunking.specs.Entries.{fits_in, chunked_of}

module _ (t : ℕ) (rs : List ℕ) (n : ℕ) (ns o : List ℕ) where
  pub says-timescale : t ≡ 0 → wrote (Err (refusal.Value 0)) o ≡ chunked_of t rs n ns o
  says-timescale z = is_eq _ _ _ t 0 z refl

  module _ (z : t ≡ 0 → ⊥) (has : Bool) (e : has ≡ leb (n * 7) (length rs)) where
    pub says_none : not has ≡ true → wrote (Err (refusal.NoSample n)) o ≡ chunked_of t rs n ns o
    says_none u = is_ne _ _ _ t 0 z (built-none rs n (fits_in rs n) ns o (leb-false (n * 7) (length rs) (sym e ∙ not-true has u)))

    module _ (u : not has ≡ false) where
      there : n * 7 ≤ length rs
      there = leb-true (n * 7) (length rs) (sym e ∙ not-false has u)

      pub says-many : 0xffff_ffff < n → wrote (Err refusal.Unwritable) o ≡ chunked_of t rs n ns o
      says-many h = is_ne _ _ _ t 0 z (built-many rs n (fits_in rs n) ns o there (omega arith))

      pub says-unfit : (f : Bool) → n ≤ 0xffff_ffff → f ≡ fits_in rs n → not f ≡ true → wrote (Err refusal.Unwritable) o ≡ chunked_of t rs n ns o
      says-unfit f h g v = is_ne _ _ _ t 0 z (built-unfit rs n (fits_in rs n) ns o there (omega arith) (sym g ∙ not-true f v))

      pub says : (x : Wrote) (f : Bool) → n ≤ 0xffff_ffff → f ≡ fits_in rs n → not f ≡ false → x ≡ placed_of ns o → x ≡ chunked_of t rs n ns o
      says x f h g v q = is_ne _ _ _ t 0 z (built rs n (fits_in rs n) ns o x there (omega arith) (sym g ∙ not-false f v) q)

-- Where bytes are placed: with room for them, and without. Assumes nothing.
use Rattle.std.specs.Prelude.{Ok, Err}
use mathlib.Core.Path.{◌≡◌, refl, ap, ◌∙◌}
use mathlib.Core.List.{List}
use mathlib.Core.Logic.{⊎_elim}
use Prim.Native.Nat.{ℕ, ◌+◌, ◌^◌, ◌≤◌, ◌<◌}
use native.Mathlib.Omega.{arith}
use lib.ListN.{length}
use lib.Seq.{sets, length-sets}
use lib.Dec.{ltb}
use borrow.Author.Tests.{leb-true}
use Rattle.numbers.specs.Number.{bytes}
use Rattle.numbers.specs.Field.{when, fits, widest}
use Rattle.numbers.specs.declared.Refusal.TheVariants as refusal
use Rattle.numbers.proofs.Chain.{is_le, not-le, is_lt, not-lt, way}
use Rattle.put.specs.Put.{Wrote, wrote, placed, put_of}

-- a number that has room and fits is written
pub done : (w n at : ℕ) (buf : List ℕ) → w ≤ widest → n < 256 ^ w → at + w ≤ length buf → wrote (Ok (at + w)) (sets buf at (bytes w n)) ≡ put_of w n at buf
done w n at buf a b h = is_le _ _ _ w widest a (is_lt _ _ _ n (256 ^ w) b (is_le _ _ _ (at + w) (length buf) h refl))

-- bytes that have room are placed
pub has_room : (bs : List ℕ) (w at : ℕ) (buf : List ℕ) → at + w ≤ length buf → wrote (Ok (at + w)) (sets buf at bs) ≡ placed bs w at buf
has_room bs w at buf h = is_le _ _ _ (at + w) (length buf) h refl

-- no room: 9 where the length needed is no 64-bit number, else 12 with it
pub no-sum : (bs : List ℕ) (w at : ℕ) (buf : List ℕ) → length buf < 2 ^ 64 → 2 ^ 64 ≤ at + w → wrote (Err refusal.Overflow) buf ≡ placed bs w at buf
no-sum bs w at buf l h = not-le _ _ _ (at + w) (length buf) (omega arith) (not-lt _ _ _ (at + w) (2 ^ 64) h refl)

pub no_room : (bs : List ℕ) (w at : ℕ) (buf : List ℕ) → at + w < 2 ^ 64 → length buf < at + w → wrote (Err (refusal.TooSmall (at + w))) buf ≡ placed bs w at buf
no_room bs w at buf l h = not-le _ _ _ (at + w) (length buf) h (is_lt _ _ _ (at + w) (2 ^ 64) l refl)

-- what was placed where it was done
pub record Placed (bs : List ℕ) (w at : ℕ) (buf : List ℕ) (p : ℕ) (out : List ℕ) : Type 0 where
  pub room : at + w ≤ length buf
  pub next : p ≡ at + w
  pub bytes : out ≡ sets buf at bs
  pub long : length out ≡ length buf

pub placed-done : (bs : List ℕ) (w at : ℕ) (buf : List ℕ) (p : ℕ) (out : List ℕ) → placed bs w at buf ≡ wrote (Ok p) out → Placed bs w at buf p out
placed-done bs w at buf p out e =
    ⊎_elim
    (λ y.
    let o : out ≡ sets buf at bs = cc y.1 in
    let n : p ≡ at + w = cc y.1 in
    record { room = leb-true (at + w) (length buf) y.0; next = n; bytes = o; long = ap length o ∙ length-sets buf at bs })
    (λ y. ⊎_elim (λ v. let z : ◌≡◌ {A = ℕ} 0 1 = cc v.1 in absurd (omega arith)) (λ v. let z : ◌≡◌ {A = ℕ} 0 1 = cc v.1 in absurd (omega arith))
    (way (ltb (at + w) (2 ^ 64)) _ _ _ y.1))
    (way (fits w buf at) _ _ _ e)

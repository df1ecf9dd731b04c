-- The chunks of samples that are not refused have numbers that fit their fields. Assumes nothing.
use Prim.Native.Nat.{ℕ, suc, ◌+◌, ◌-◌, ◌^◌, ◌≤◌, ◌<◌}
use mathlib.Core.Path.{◌≡◌, refl, sym, ap, subst, ◌∙◌}
use mathlib.Core.List.{List, [], ◌∷◌, ◌++◌}
use mathlib.Core.Bool.{Bool, true, false}
use native.Mathlib.Omega.{arith}
use lib.ListN.{length}
use lib.Dec.{eqb}
use borrow.Author.Tests.{eqb-true, eqb-false}
use Rattle.tables.specs.Tables.{total}
use Rattle.tables.specs.declared.Row.{Row}
use Rattle.tables.proofs.Lengths.{length-values}
use Rattle.merging.specs.Merging.{most, merged_of}
use Rattle.merging.proofs.Fewest.{merged-values}
use Rattle.merging.proofs.Rows.{All, nothing, each, Right, merged-right}
use Rattle.samples.specs.declared.Sample.{Sample}
use Rattle.builder.proofs.Bytes.{Small}
use Rattle.chunking.specs.declared.Chunk.{Chunk}
use Rattle.chunking.specs.Chunking.{Piece, empty, alone, joined, goes_on, step_of, finish_of, closed_of, open_of, chunks_from, chunks_of}
use Rattle.chunking.specs.Entries.{counts_of}
use Rattle.chunking.proofs.Cases.{has_room, step-first, step-closed, step-joined, finish-none, finish-chunk}
use Rattle.chunking.proofs.Fills.{few-chunks, length-counts}
use Rattle.chunking.proofs.Whole.{pieces_of}
use Rattle.chunking.proofs.Bytes.{Fit}
use Rattle.built.specs.Written.{Of64}

-- a chunk counts no more than 32 bits do, and its place has 64 bits
pub record Bounded (c : Chunk) : Type 0 where
  pub counts : c.count ≤ most
  pub lies : c.at < 2 ^ 64

abbrev Near : Piece → Type 0
Near p = p.offset < 2 ^ 64

bounded-alone : (p : Piece) → Near p → Bounded (alone p)
bounded-alone p h = record { counts = omega arith; lies = h }

bounded-from : (t : ℕ) (c : Chunk) (ps : List Piece) → Bounded c → All Near ps → All Bounded (chunks_from t c ps)
bounded-from t c [] b nothing = cases (eqb c.count 0) refl
  where
    cases : (x : Bool) → eqb c.count 0 ≡ x → All Bounded (closed_of (finish_of c))
    cases true z = subst (λ s. All Bounded (closed_of s)) (finish-none c (eqb-true c.count 0 z)) nothing
    cases false z = subst (λ s. All Bounded (closed_of s)) (finish-chunk c (eqb-false c.count 0 z)) (each b nothing)
bounded-from t c (p ∷ ps) b (each h k) =
    by_count (eqb c.count 0) refl (bounded-from t (alone p) ps (bounded-alone p h) k) (λ d. bounded-from t (joined c p) ps d k)
  where
    by-joining : (c.count ≡ 0 → ⊥) → (x : Bool) → goes_on t c p.offset ≡ x → All Bounded (chunks_from t (alone p) ps) → (Bounded (joined c p) → All Bounded (chunks_from t (joined c p) ps))
        → All Bounded (closed_of (step_of t c p) ++ chunks_from t (open_of (step_of t c p)) ps)
    by-joining z true e one more =
        let r = has_room t c p.offset e in
        subst (λ s. All Bounded (closed_of s ++ chunks_from t (open_of s) ps)) (step-joined t c p z e)
        (more (record { counts = omega (arith, r.1); lies = b.lies }))
    by-joining z false e one more = subst (λ s. All Bounded (closed_of s ++ chunks_from t (open_of s) ps)) (step-closed t c p z e) (each b one)

    by_count : (x : Bool) → eqb c.count 0 ≡ x → All Bounded (chunks_from t (alone p) ps) → (Bounded (joined c p) → All Bounded (chunks_from t (joined c p) ps))
        → All Bounded (closed_of (step_of t c p) ++ chunks_from t (open_of (step_of t c p)) ps)
    by_count true z one more = subst (λ s. All Bounded (closed_of s ++ chunks_from t (open_of s) ps)) (step-first t c p (eqb-true c.count 0 z)) one
    by_count false z one more = by-joining (eqb-false c.count 0 z) (goes_on t c p.offset) refl one more

near-pieces : (l : List Sample) → All Of64 l → All Near (pieces_of l)
near-pieces [] nothing = nothing
near-pieces (s ∷ l) (each h k) = each h.offset (near-pieces l k)

pub chunks-bounded : (t : ℕ) (l : List Sample) → All Of64 l → All Bounded (chunks_of t (pieces_of l))
chunks-bounded t l h = bounded-from t empty (pieces_of l) (record { counts = omega arith; lies = omega arith }) (near-pieces l h)

-- no more chunks than samples
pub no-more-chunks : (t : ℕ) (ps : List Piece) → length (chunks_of t ps) ≤ length ps
no-more-chunks t [] = subst (λ s. length (closed_of s) ≤ 0) (finish-none empty refl) (omega arith)
no-more-chunks t (p ∷ ps) =
    subst (λ s. length (closed_of s ++ chunks_from t (open_of s) ps) ≤ suc (length ps)) (step-first t empty p refl) (omega (arith, few-chunks t (alone p) ps))

pub length-pieces : (l : List Sample) → length (pieces_of l) ≡ length l
length-pieces [] = refl
length-pieces (s ∷ l) = omega (arith, length-pieces l)

-- STCO, CO64

pub places-wide : (cs : List Chunk) → All Bounded cs → All (λ (c : Chunk). c.at < 2 ^ 64) cs
places-wide [] nothing = nothing
places-wide (c ∷ cs) (each h k) = each h.lies (places-wide cs k)

-- STSC

counts-small : (cs : List Chunk) → All Bounded cs → All Small (counts_of cs)
counts-small [] nothing = nothing
counts-small (c ∷ cs) (each h k) = let s : Small c.count = omega (arith, h.counts) in each s (counts-small cs k)

-- the first chunk of each row has a number of 32 bits, where all rows together do
fit-from : (f : ℕ) (rs : List Row) → All (Right Small) rs → f + total rs ≤ 2 ^ 32 → Fit f rs
fit-from f [] nothing h = Fit.none
fit-from f (r ∷ rs) (each q k) h =
    let s : Small f = omega (arith, q.some) in
    Fit.one s q.own (fit-from (f + r.count) rs k (omega arith))

pub groups-fit : (cs : List Chunk) → All Bounded cs → length cs < 2 ^ 32 → Fit 1 (merged_of (counts_of cs))
groups-fit cs b h =
    let t : total (merged_of (counts_of cs)) ≡ length cs = sym (length-values (merged_of (counts_of cs))) ∙ ap length (merged-values (counts_of cs)) ∙ length-counts cs in
    fit-from 1 (merged_of (counts_of cs)) (merged-right Small (counts_of cs) (counts-small cs b)) (omega arith)

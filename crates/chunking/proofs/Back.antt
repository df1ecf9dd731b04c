-- The tables that are built tell where each sample lies: the chunks and the samples in each give the samples' places
-- back, and the entries of stsc the samples in each chunk. Assumes nothing.
use Prim.Native.Nat.{ℕ, zero, suc, ◌+◌, ◌-◌, ◌≤◌, ◌<◌}
use mathlib.Core.Path.{◌≡◌, refl, sym, ap, ap₂, subst, ◌∙◌}
use mathlib.Core.List.{List, [], ◌∷◌, ◌++◌, append-nil, append_assoc}
use mathlib.Core.Bool.{Bool, true, false, ◌&&◌}
use native.Mathlib.Nat.{add-zero}
use native.Mathlib.Omega.{arith}
use lib.ListN.{length, take, drop, length-append}
use lib.Seq.{take_at, drop_at, take-length}
use lib.Dec.{eqb, ltb}
use borrow.Author.Tests.{eqb-true, eqb-false}
use Rattle.numbers.specs.Field.{when}
use Rattle.tables.specs.Tables.{Group, sum, total, values_of, chunk_runs}
use Rattle.tables.specs.Samples.{starts, place}
use Rattle.tables.specs.declared.Row.{Row}
use Rattle.tables.proofs.Lengths.{length-values}
use Rattle.merging.specs.Merging.{most, merged_of}
use Rattle.merging.proofs.Fewest.{merged-values}
use Rattle.chunking.specs.declared.Chunk.{Chunk}
use Rattle.chunking.specs.declared.Step.{Step}
use Rattle.chunking.specs.declared.Step.TheVariants.{Longer, Closed}
use Rattle.chunking.specs.Chunking.{Piece, empty, alone, joined, goes_on, step_of, finish_of, closed_of, open_of, chunks_from, chunks_of}
use Rattle.chunking.specs.Entries.{counts_of}
use Rattle.chunking.proofs.Cases.{step-first, step-closed, step-joined, finish-none, finish-chunk}
use Rattle.chunking.proofs.Fills.{length-counts}

abbrev pub places_of : List Chunk → List ℕ
places_of [] = []
places_of (c ∷ cs) = c.at ∷ places_of cs

abbrev pub sizes_of : List Piece → List ℕ
sizes_of [] = []
sizes_of (p ∷ ps) = p.size ∷ sizes_of ps

abbrev pub offsets_in : List Piece → List ℕ
offsets_in [] = []
offsets_in (p ∷ ps) = p.offset ∷ offsets_in ps

sizes-append : (a b : List Piece) → sizes_of (a ++ b) ≡ sizes_of a ++ sizes_of b
sizes-append [] b = refl
sizes-append (p ∷ a) b = ap (λ (l : List ℕ). p.size ∷ l) (sizes-append a b)

offsets-append : (a b : List Piece) → offsets_in (a ++ b) ≡ offsets_in a ++ offsets_in b
offsets-append [] b = refl
offsets-append (p ∷ a) b = ap (λ (l : List ℕ). p.offset ∷ l) (offsets-append a b)

length-sizes : (ps : List Piece) → length (sizes_of ps) ≡ length ps
length-sizes [] = refl
length-sizes (p ∷ ps) = omega (arith, length-sizes ps)

starts-snoc : (at z : ℕ) (ss : List ℕ) → starts at (ss ++ (z ∷ [])) ≡ starts at ss ++ ((at + sum ss) ∷ [])
starts-snoc at z [] = ap (λ (n : ℕ). n ∷ []) (sym (add-zero at))
starts-snoc at z (x ∷ ss) =
    let n : at + x + sum ss ≡ at + (x + sum ss) = omega arith in
    ap (λ (l : List ℕ). at ∷ l) (starts-snoc (at + x) z ss ∙ ap (λ (m : ℕ). starts (at + x) ss ++ (m ∷ [])) n)

sum-snoc : (z : ℕ) (ss : List ℕ) → sum (ss ++ (z ∷ [])) ≡ sum ss + z
sum-snoc z [] = omega arith
sum-snoc z (x ∷ ss) = omega (arith, sum-snoc z ss)

-- an open chunk has these samples: they lie one behind the other
record Holds (c : Chunk) (qs : List Piece) : Type 0 where
  many : c.count ≡ length qs
  places : starts c.at (sizes_of qs) ≡ offsets_in qs
  behind : 0 < c.count → c.last + c.size ≡ c.at + sum (sizes_of qs)

none-held : (c : Chunk) (qs : List Piece) → Holds c qs → c.count ≡ 0 → qs ≡ []
none-held c [] h z = refl
none-held c (q ∷ qs) h z = absurd (omega (arith, h.many))

holds-alone : (p : Piece) → Holds (alone p) (p ∷ [])
holds-alone p = record { many = refl; places = refl; behind = λ z. omega arith }

holds-joined : (c : Chunk) (p : Piece) (qs : List Piece) → Holds c qs → 0 < c.count → p.offset ≡ c.last + c.size → Holds (joined c p) (qs ++ (p ∷ []))
holds-joined c p qs h z e =
    record {
      many = omega (arith, h.many, length-append qs (p ∷ []));
      places =
          ap (starts c.at) (sizes-append qs (p ∷ [])) ∙ starts-snoc c.at p.size (sizes_of qs)
          ∙ ap₂ (λ (l : List ℕ) (m : ℕ). l ++ (m ∷ [])) h.places (sym (e ∙ h.behind z)) ∙ sym (offsets-append qs (p ∷ []));
      behind = λ u. omega (arith, e, h.behind z, ap sum (sizes-append qs (p ∷ [])), sum-snoc p.size (sizes_of qs));
    }

-- it joins, so it lies behind the chunk's last one
lies-behind : (t : ℕ) (c : Chunk) (o : ℕ) → goes_on t c o ≡ true → o ≡ c.last + c.size
unfolding goes_on
lies-behind t c o e = cases (ltb c.lasts t) (eqb o (c.last + c.size)) refl (ltb c.count most) e
  where
    cases : (a b : Bool) → eqb o (c.last + c.size) ≡ b → (d : Bool) → (a && (b && d)) ≡ true → o ≡ c.last + c.size
    cases true true q d h = eqb-true o (c.last + c.size) q
    cases true false q d h = let z : ◌≡◌ {A = ℕ} 0 1 = cc in absurd (omega arith)
    cases false b q d h = let z : ◌≡◌ {A = ℕ} 0 1 = cc in absurd (omega arith)

-- a closed chunk, and what comes after it
one_chunk : (c : Chunk) (qs ps : List Piece) (cs : List Chunk) → Holds c qs → place (counts_of cs) (places_of cs) (sizes_of ps) ≡ offsets_in ps
    → place (counts_of (c ∷ cs)) (places_of (c ∷ cs)) (sizes_of (qs ++ ps)) ≡ offsets_in (qs ++ ps)
one_chunk c qs ps cs h r =
    let n : length (sizes_of qs) ≡ c.count = length-sizes qs ∙ sym h.many in
    ap (λ (l : List ℕ). starts c.at (take c.count l) ++ place (counts_of cs) (places_of cs) (drop c.count l)) (sizes-append qs ps)
    ∙ ap₂ (λ (a b : List ℕ). starts c.at a ++ place (counts_of cs) (places_of cs) b) (take_at (sizes_of qs) (sizes_of ps) c.count n) (drop_at (sizes_of qs) (sizes_of ps) c.count n)
    ∙ ap₂ (λ (a b : List ℕ). a ++ b) h.places r ∙ sym (offsets-append qs ps)

-- what the chunks of an open chunk and the samples after it tell
Told : ℕ → Chunk → List Piece → List Piece → Type 0
Told t c qs ps = place (counts_of (chunks_from t c ps)) (places_of (chunks_from t c ps)) (sizes_of (qs ++ ps)) ≡ offsets_in (qs ++ ps)

abbrev told_by : List Chunk → List Piece → Type 0
told_by cs ps = place (counts_of cs) (places_of cs) (sizes_of ps) ≡ offsets_in ps

places-from : (t : ℕ) (c : Chunk) (qs ps : List Piece) → Holds c qs → Told t c qs ps
unfolding Told
places-from t c qs [] h = cases (eqb c.count 0) refl
  where
    cases : (b : Bool) → eqb c.count 0 ≡ b → told_by (closed_of (finish_of c)) (qs ++ [])
    cases true z =
        let e = eqb-true c.count 0 z in
        subst (λ s. told_by (closed_of s) (qs ++ [])) (finish-none c e) (subst (λ (l : List Piece). told_by [] (l ++ [])) (sym (none-held c qs h e)) refl)
    cases false z = subst (λ s. told_by (closed_of s) (qs ++ [])) (finish-chunk c (eqb-false c.count 0 z)) (one_chunk c qs [] [] h refl)
places-from t c qs (p ∷ ps) h =
    by_count (eqb c.count 0) refl (places-from t (alone p) (p ∷ []) ps (holds-alone p)) (λ z e. places-from t (joined c p) (qs ++ (p ∷ [])) ps (holds-joined c p qs h z e))
  where
    by-joining : (c.count ≡ 0 → ⊥) → (b : Bool) → goes_on t c p.offset ≡ b → told_by (chunks_from t (alone p) ps) (p ∷ ps)
        → (0 < c.count → p.offset ≡ c.last + c.size → told_by (chunks_from t (joined c p) ps) (qs ++ (p ∷ []) ++ ps))
        → told_by (closed_of (step_of t c p) ++ chunks_from t (open_of (step_of t c p)) ps) (qs ++ (p ∷ ps))
    by-joining z true e one more =
        subst (λ s. told_by (closed_of s ++ chunks_from t (open_of s) ps) (qs ++ (p ∷ ps))) (step-joined t c p z e)
        (subst (λ (l : List Piece). told_by (chunks_from t (joined c p) ps) l) (append_assoc qs (p ∷ []) ps) (more (omega arith) (lies-behind t c p.offset e)))
    by-joining z false e one more =
        subst (λ s. told_by (closed_of s ++ chunks_from t (open_of s) ps) (qs ++ (p ∷ ps))) (step-closed t c p z e) (one_chunk c qs (p ∷ ps) (chunks_from t (alone p) ps) h one)

    by_count : (b : Bool) → eqb c.count 0 ≡ b → told_by (chunks_from t (alone p) ps) (p ∷ ps)
        → (0 < c.count → p.offset ≡ c.last + c.size → told_by (chunks_from t (joined c p) ps) (qs ++ (p ∷ []) ++ ps))
        → told_by (closed_of (step_of t c p) ++ chunks_from t (open_of (step_of t c p)) ps) (qs ++ (p ∷ ps))
    by_count true z one more =
        let e = eqb-true c.count 0 z in
        subst (λ s. told_by (closed_of s ++ chunks_from t (open_of s) ps) (qs ++ (p ∷ ps))) (step-first t c p e)
        (subst (λ (l : List Piece). told_by (chunks_from t (alone p) ps) (l ++ (p ∷ ps))) (sym (none-held c qs h e)) one)
    by_count false z one more = by-joining (eqb-false c.count 0 z) (goes_on t c p.offset) refl one more

-- the chunks of samples, wherever these lie, tell each sample's place
pub places-back : (t : ℕ) (ps : List Piece) → place (counts_of (chunks_of t ps)) (places_of (chunks_of t ps)) (sizes_of ps) ≡ offsets_in ps
unfolding Told
places-back t ps = places-from t empty [] ps (record { many = refl; places = refl; behind = λ z. absurd (omega arith) })

-- STSC

-- rows of chunks as entries of stsc, the first being chunk f
abbrev pub entries_of : ℕ → List Row → List Group
entries_of f [] = []
entries_of f (r ∷ rs) = record { first = f; per = r.value } ∷ entries_of (f + r.count) rs

runs-back : (n f : ℕ) (rs : List Row) → f + total rs ≡ n + 1 → chunk_runs n (entries_of f rs) ≡ rs
runs-back n f [] e = refl
runs-back n f (r ∷ []) e =
    let c : n + 1 - f ≡ r.count = omega arith in
    ap (λ (k : ℕ). record { count = k; value = r.value } ∷ []) c
runs-back n f (r ∷ s ∷ rs) e =
    let c : f + r.count - f ≡ r.count = omega arith in
    ap₂ (λ (k : ℕ) (l : List Row). record { count = k; value = r.value } ∷ l) c (runs-back n (f + r.count) (s ∷ rs) (omega arith))

-- the entries of stsc tell how many samples each chunk has
pub counts-back : (cs : List Chunk) → values_of (chunk_runs (length cs) (entries_of 1 (merged_of (counts_of cs)))) ≡ counts_of cs
counts-back cs =
    let t : total (merged_of (counts_of cs)) ≡ length cs = sym (length-values (merged_of (counts_of cs))) ∙ ap length (merged-values (counts_of cs)) ∙ length-counts cs in
    ap values_of (runs-back (length cs) 1 (merged_of (counts_of cs)) (omega arith)) ∙ merged-values (counts_of cs)

-- stsc and stco, or co64, as they are built, tell each sample's place
pub placed-back : (t : ℕ) (ps : List Piece) →
    place (values_of (chunk_runs (length (chunks_of t ps)) (entries_of 1 (merged_of (counts_of (chunks_of t ps)))))) (places_of (chunks_of t ps)) (sizes_of ps) ≡ offsets_in ps
placed-back t ps = ap (λ (l : List ℕ). place l (places_of (chunks_of t ps)) (sizes_of ps)) (counts-back (chunks_of t ps)) ∙ places-back t ps

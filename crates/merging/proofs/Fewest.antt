-- The merged rows are the values again, and no rows of the same values are fewer. Assumes nothing.
use Prim.Native.Nat.{ℕ, zero, suc, ◌+◌, ◌-◌, ◌^◌, ◌≤◌, ◌<◌}
use mathlib.Core.Path.{◌≡◌, refl, sym, ap, subst, ◌∙◌}
use mathlib.Core.List.{List, [], ◌∷◌, ◌++◌, append_assoc}
use native.Mathlib.Nat.{add-zero}
use native.Mathlib.Omega.{arith}
use lib.ListN.{length, replicate, replicate-append-replicate}
use Rattle.tables.specs.declared.Row.{Row}
use Rattle.tables.specs.Tables.{values_of}
use Rattle.merging.specs.declared.Open.{Open}
use Rattle.merging.specs.declared.Step.{Step}
use Rattle.merging.specs.declared.Step.TheVariants.{Longer, Closed}
use Rattle.merging.specs.Merging.{most, run, fresh, row_of, closed_by, step_of, finish_of, rows_of, open_of, merged_from, merged_of}
use Rattle.merging.proofs.Steps.{Way, first, longer, closes, way_of, Ended, none, some, ended_of, step-first, step-longer, finish-none}

-- THE SAME VALUES

pub one_more : (c v : ℕ) (l : List ℕ) → replicate (c + 1) v ++ l ≡ replicate c v ++ (v ∷ l)
one_more c v l = ap (λ (x : List ℕ). x ++ l) (sym (replicate-append-replicate c 1 v)) ∙ append_assoc (replicate c v) (v ∷ []) l

pub values-from : (o : Open) (l : List ℕ) → values_of (merged_from o l) ≡ replicate o.count o.value ++ l
values-from o [] = cases (ended_of o)
  where
    cases : Ended o → values_of (rows_of (finish_of o)) ≡ replicate o.count o.value ++ []
    cases (none z e) = ap (λ s. values_of (rows_of s)) e ∙ sym (ap (λ (c : ℕ). replicate c o.value ++ []) z)
    cases (some z e) = ap (λ s. values_of (rows_of s)) e
values-from o (v ∷ l) = cases (way_of o v) (values-from (run 1 v) l) (values-from (run (o.count + 1) v) l)
  where
    cases : Way o v → values_of (merged_from (run 1 v) l) ≡ v ∷ l → values_of (merged_from (run (o.count + 1) v) l) ≡ replicate (o.count + 1) v ++ l
        → values_of (rows_of (step_of o v) ++ merged_from (open_of (step_of o v)) l) ≡ replicate o.count o.value ++ (v ∷ l)
    cases (first z e) a b = ap (λ s. values_of (rows_of s ++ merged_from (open_of s) l)) e ∙ a ∙ sym (ap (λ (c : ℕ). replicate c o.value ++ (v ∷ l)) z)
    cases (longer z q h e) a b =
        ap (λ s. values_of (rows_of s ++ merged_from (open_of s) l)) e ∙ b ∙ one_more o.count v l ∙ ap (λ (x : ℕ). replicate o.count x ++ (v ∷ l)) q
    cases (closes z q e) a b =
        ap (λ s. values_of (rows_of s ++ merged_from (open_of s) l)) e ∙ ap (λ (x : List ℕ). replicate o.count o.value ++ x) a

-- the rows of the values have the same values
pub merged-values : (l : List ℕ) → values_of (merged_of l) ≡ l
merged-values l = values-from fresh l

-- NO FEWER ROWS

-- how many rows an open run and the values after it have
abbrev pub many : Open → List ℕ → ℕ
many o l = length (merged_from o l)

abbrev pub many_by : Step → List ℕ → ℕ
many_by s l = length (rows_of s ++ merged_from (open_of s) l)

at_least : (s : Step) (l : List ℕ) → many (open_of s) l ≤ many_by s l
at_least (Longer o) l = omega arith
at_least (Closed r o) l = omega arith

pub at_most_one : (s : Step) (l : List ℕ) → many_by s l ≤ 1 + many (open_of s) l
at_most_one (Longer o) l = omega arith
at_most_one (Closed r o) l = omega arith

pub one-or-none : (s : Step) → length (rows_of s) ≤ 1
one-or-none (Longer o) = omega arith
one-or-none (Closed r o) = omega arith

-- an open run costs at most one row more than any other; and a longer run never costs less than a shorter one
record Cheap (l : List ℕ) : Type 0 where
  any : (a b : Open) → many a l ≤ 1 + many b l
  more : (c d v : ℕ) → 0 < c → c ≤ d → many (run c v) l ≤ many (run d v) l

cheap-nil : Cheap []
cheap-nil = record { any = λ a b. omega (arith, one-or-none (finish_of a)); more = λ c d v h k. cases c d v h k (ended_of (run c v)) (ended_of (run d v)) }
  where
    cases : (c d v : ℕ) → 0 < c → c ≤ d → Ended (run c v) → Ended (run d v) → many (run c v) [] ≤ many (run d v) []
    cases c d v h k (none z e) y = absurd (omega arith)
    cases c d v h k (some z e) (none x g) = absurd (omega arith)
    cases c d v h k (some z e) (some x g) =
        let a : many (run c v) [] ≡ 1 = ap (λ s. length (rows_of s)) e in
        let b : many (run d v) [] ≡ 1 = ap (λ s. length (rows_of s)) g in
        omega arith

module _ (x : ℕ) (l : List ℕ) (p : Cheap l) where
  any-on : (a b : Open) → Way a x → Way b x → many_by (step_of a x) l ≤ 1 + many_by (step_of b x) l
  any-on a b (first z e) y =
      let n : many_by (step_of a x) l ≡ many (run 1 x) l = ap (λ s. many_by s l) e in
      omega (arith, p.any (run 1 x) (open_of (step_of b x)), at_least (step_of b x) l)
  any-on a b (longer z q h e) y =
      let n : many_by (step_of a x) l ≡ many (run (a.count + 1) x) l = ap (λ s. many_by s l) e in
      omega (arith, p.any (run (a.count + 1) x) (open_of (step_of b x)), at_least (step_of b x) l)
  any-on a b (closes z q e) (first y f) =
      let n : many_by (step_of a x) l ≡ suc (many (run 1 x) l) = ap (λ s. many_by s l) e in
      let m : many_by (step_of b x) l ≡ many (run 1 x) l = ap (λ s. many_by s l) f in
      omega arith
  any-on a b (closes z q e) (longer y r h f) =
      let n : many_by (step_of a x) l ≡ suc (many (run 1 x) l) = ap (λ s. many_by s l) e in
      let m : many_by (step_of b x) l ≡ many (run (b.count + 1) x) l = ap (λ s. many_by s l) f in
      omega (arith, p.more 1 (b.count + 1) x (omega arith) (omega arith))
  any-on a b (closes z q e) (closes y r f) =
      let n : many_by (step_of a x) l ≡ suc (many (run 1 x) l) = ap (λ s. many_by s l) e in
      let m : many_by (step_of b x) l ≡ suc (many (run 1 x) l) = ap (λ s. many_by s l) f in
      omega arith

  more-on : (c d v : ℕ) → 0 < c → c ≤ d → Way (run c v) x → Way (run d v) x → many_by (step_of (run c v) x) l ≤ many_by (step_of (run d v) x) l
  more-on c d v u k (first z e) y = absurd (omega arith)
  more-on c d v u k (longer z q h e) (first y f) = absurd (omega arith)
  more-on c d v u k (longer z q h e) (longer y r g f) =
      let n : many_by (step_of (run c v) x) l ≡ many (run (c + 1) x) l = ap (λ s. many_by s l) e in
      let m : many_by (step_of (run d v) x) l ≡ many (run (d + 1) x) l = ap (λ s. many_by s l) f in
      omega (arith, p.more (c + 1) (d + 1) x (omega arith) (omega arith))
  more-on c d v u k (longer z q h e) (closes y r f) =
      let n : many_by (step_of (run c v) x) l ≡ many (run (c + 1) x) l = ap (λ s. many_by s l) e in
      let m : many_by (step_of (run d v) x) l ≡ suc (many (run 1 x) l) = ap (λ s. many_by s l) f in
      omega (arith, p.any (run (c + 1) x) (run 1 x))
  more-on c d v u k (closes z q e) (first y f) = absurd (omega arith)
  more-on c d v u k (closes z q e) (longer y r g f) = absurd (omega (arith, q r))
  more-on c d v u k (closes z q e) (closes y r f) =
      let n : many_by (step_of (run c v) x) l ≡ suc (many (run 1 x) l) = ap (λ s. many_by s l) e in
      let m : many_by (step_of (run d v) x) l ≡ suc (many (run 1 x) l) = ap (λ s. many_by s l) f in
      omega arith

cheap : (l : List ℕ) → Cheap l
cheap [] = cheap-nil
cheap (x ∷ l) =
    record {
      any = λ a b. any-on x l (cheap l) a b (way_of a x) (way_of b x);
      more = λ c d v h k. more-on x l (cheap l) c d v h k (way_of (run c v) x) (way_of (run d v) x);
    }

-- so many of one value are all in the open run
gather : (k c v : ℕ) (l : List ℕ) → 0 < c → c + k ≤ most → merged_from (run c v) (replicate k v ++ l) ≡ merged_from (run (c + k) v) l
gather zero c v l h b = ap (λ (n : ℕ). merged_from (run n v) l) (sym (add-zero c))
gather (suc k) c v l h b =
    let n : c + 1 + k ≡ c + suc k = omega arith in
    ap (λ s. rows_of s ++ merged_from (open_of s) (replicate k v ++ l)) (sym (step-longer (run c v) v (λ z. omega arith) refl (omega arith)))
    ∙ gather k (c + 1) v l (omega arith) (omega arith)
    ∙ ap (λ (m : ℕ). merged_from (run m v) l) n

-- so many of one value in front cost at most one row
row-costs-one : (k v : ℕ) (l : List ℕ) → k ≤ most → length (merged_of (replicate k v ++ l)) ≤ 1 + length (merged_of l)
row-costs-one zero v l h = omega arith
row-costs-one (suc k) v l h =
    let e : merged_of (replicate (suc k) v ++ l) ≡ merged_from (run (1 + k) v) l =
    ap (λ s. rows_of s ++ merged_from (open_of s) (replicate k v ++ l)) (sym (step-first fresh v refl)) ∙ gather k 1 v l (omega arith) (omega arith) in
    omega (arith, ap length e, (cheap l).any (run (1 + k) v) fresh)

-- rows that count no more than a row can
pub data Counts : List Row → Type 0 where
  none_left : Counts []
  and : {r : Row} {rs : List Row} → r.count ≤ most → Counts rs → Counts (r ∷ rs)

fewest-of : (rs : List Row) → Counts rs → length (merged_of (values_of rs)) ≤ length rs
fewest-of [] none_left = omega (arith, ap (λ s. length (rows_of s)) (finish-none fresh refl))
fewest-of (r ∷ rs) (and h k) = omega (arith, row-costs-one r.count r.value (values_of rs) h, fewest-of rs k)

-- no rows of the same values are fewer; rows that count 0 are allowed
pub fewest : (l : List ℕ) (rs : List Row) → Counts rs → values_of rs ≡ l → length (merged_of l) ≤ length rs
fewest l rs h e = omega (arith, ap (λ (x : List ℕ). length (merged_of x)) e, fewest-of rs h)

-- Which samples are sync: all where there is no stss; else those whose number is in it, as far as the list rises. A list
-- that rises to its end, as every stss that is read does (A21), has just its members. Assumes nothing.
use Rattle.std.specs.Prelude.{Option, Some, None}
use Prim.Native.Nat.{ℕ, zero, suc, ◌+◌, ◌≤◌, ◌<◌}
use mathlib.Core.Path.{◌≡◌, refl, sym, ap, ◌∙◌}
use mathlib.Core.List.{List, [], ◌∷◌}
use mathlib.Core.Bool.{Bool, true, false}
use native.Mathlib.Omega.{arith}
use lib.ListN.{drop}
use lib.Dec.{eqb, ltb}
use borrow.Author.Tests.{eqb-true, eqb-false, ne_eqb, ltb-true, ltb-false, lt-ltb, le-ltb}
use Rattle.numbers.specs.Field.{when}
use Rattle.tables.specs.Tables.{values_of, pairs, groups, chunks, sizes, shifts, Syncs, every, those, syncs, numbers}
use Rattle.tables.specs.Samples.{place, rest, flag_of, past_of, risen, sync_at, zipped, samples_of}
use Rattle.samples.specs.declared.Sample.{Sample}
use Rattle.tables.specs.declared.Table.{Table}
use Rattle.tables.specs.declared.Track.{Track}

-- it holds of every sample
abbrev pub All : (Sample → Type 0) → List Sample → Type 0
All P [] = Unit {0}
All P (s ∷ l) = P s × All P l

pub all_map : (P Q : Sample → Type 0) (l : List Sample) → ((s : Sample) → P s → Q s) → All P l → All Q l
all_map P Q [] g a = tt
all_map P Q (s ∷ l) g a = (g s a.0, all_map P Q l g a.1)

pub all_drop : (P : Sample → Type 0) (k : ℕ) (l : List Sample) → All P l → All P (drop k l)
all_drop P zero l a = a
all_drop P (suc k) [] a = tt
all_drop P (suc k) (s ∷ l) a = all_drop P k l a.1

-- the flag of a number above n, where those up to n are gone
abbrev after : ℕ → Syncs → ℕ → Bool
after n every x = true
after n (those l) x = risen n l x

-- a list that rises from x on has no number up to x
low : (x : ℕ) (l : List ℕ) (n : ℕ) → n ≤ x → risen x l n ≡ false
unfolding when
low x [] n h = refl
low x (y ∷ l) n h = cases (ltb x y) refl (eqb y n) refl (low y l n)
  where
    cases : (b : Bool) → ltb x y ≡ b → (c : Bool) → eqb y n ≡ c → (n ≤ y → risen y l n ≡ false) → when b (when c true (risen y l n)) false ≡ false
    cases false e c q i = refl
    cases true e true q i = absurd (omega (arith, ltb-true x y e, eqb-true y n q))
    cases true e false q i = i (omega (arith, ltb-true x y e))

-- the next number's flag
flag-next : (n : ℕ) (ys : Syncs) → flag_of ys (n + 1) ≡ after n ys (n + 1)
unfolding when
flag-next n every = refl
flag-next n (those []) = refl
flag-next n (those (y ∷ l)) = cases (ltb n y) refl (eqb y (n + 1)) refl
  where
    cases : (b : Bool) → ltb n y ≡ b → (c : Bool) → eqb y (n + 1) ≡ c → c ≡ when b (when c true (risen y l (n + 1))) false
    cases false e false q = refl
    cases false e true q = absurd (omega (arith, ltb-false n y e, eqb-true y (n + 1) q))
    cases true e true q = refl
    cases true e false q = sym (low y l (n + 1) (omega (arith, ltb-true n y e)))

-- and those of the numbers after it
flag-later : (n : ℕ) (ys : Syncs) (x : ℕ) → n + 1 < x → after (n + 1) (past_of ys (n + 1)) x ≡ after n ys x
unfolding when
flag-later n every x h = refl
flag-later n (those []) x h = refl
flag-later n (those (y ∷ l)) x h = cases (eqb y (n + 1)) refl
  where
    other : (b : Bool) → ltb n y ≡ b → (y ≡ n + 1 → ⊥) → ltb (n + 1) y ≡ b
    other true e q = lt-ltb (n + 1) y (omega (arith, ltb-true n y e, q))
    other false e q = le-ltb (n + 1) y (omega (arith, ltb-false n y e))

    cases : (c : Bool) → eqb y (n + 1) ≡ c → risen (n + 1) (when c l (y ∷ l)) x ≡ risen n (y ∷ l) x
    cases true q =
        let w : y ≡ n + 1 = eqb-true y (n + 1) q in
        let a : ltb n y ≡ true = lt-ltb n y (omega arith) in
        let b : eqb y x ≡ false = ne_eqb y x (λ v. omega arith) in
        ap (λ (z : ℕ). risen z l x) (sym w) ∙ sym (rw (a, b))
    cases false q = ap (λ (b : Bool). when b (when (eqb y x) true (risen y l x)) false) (other (ltb n y) refl (eqb-false y (n + 1) q))

sync-from : (all : Syncs) (n m : ℕ) (ss ds os cs : List ℕ) (ys : Syncs) → ((x : ℕ) → n < x → after n ys x ≡ sync_at all x)
    → All (λ s. s.sync ≡ sync_at all s.number) (zipped n m ss ds os cs ys)
sync-from all n m [] ds os cs ys e = tt
sync-from all n m (z ∷ ss) [] os cs ys e = tt
sync-from all n m (z ∷ ss) (d ∷ ds) [] cs ys e = tt
sync-from all n m (z ∷ ss) (d ∷ ds) (o ∷ os) cs ys e = (
  flag-next n ys ∙ e (n + 1) (omega arith),
  sync-from all (n + 1) (m + d) ss ds os (rest cs) (past_of ys (n + 1)) (λ x h. flag-later n ys x h ∙ e x (omega arith)),
)

begins : (ys : Syncs) (x : ℕ) → after 0 ys x ≡ sync_at ys x
begins every x = refl
begins (those l) x = refl

pub sync-is : (f : List ℕ) (t : Track) → All (λ s. s.sync ≡ sync_at (syncs f t.stss) s.number) (samples_of f t)
sync-is f t =
    sync-from (syncs f t.stss) 0 0 (sizes f t.stsz) (values_of (pairs f t.stts))
    (place (values_of (groups f t.stsc t.stco.count)) (chunks f t.stco) (sizes f t.stsz))
    (shifts f t.ctts) (syncs f t.stss) (λ x h. begins (syncs f t.stss) x)

pub no-stss-all-sync : (f : List ℕ) (t : Track) → t.stss ≡ None → All (λ s. s.sync ≡ true) (samples_of f t)
no-stss-all-sync f t e = all_map _ _ (samples_of f t) (λ s p. p ∙ ap (λ (o : Option Table). sync_at (syncs f o) s.number) e) (sync-is f t)

abbrev pub member : ℕ → List ℕ → Bool
member n [] = false
member n (x ∷ l) = when (eqb x n) true (member n l)

-- every number of l is above x, and l rises
abbrev pub Rises : ℕ → List ℕ → Type 0
Rises x [] = Unit {0}
Rises x (y ∷ l) = (x < y) × Rises y l

pub risen-member : (x : ℕ) (l : List ℕ) (n : ℕ) → Rises x l → risen x l n ≡ member n l
unfolding when
risen-member x [] n r = refl
risen-member x (y ∷ l) n r =
    ap (λ (b : Bool). when b (when (eqb y n) true (risen y l n)) false) (lt-ltb x y r.0)
    ∙ ap (λ (b : Bool). when (eqb y n) true b) (risen-member y l n r.1)

pub sync-is-member : (f : List ℕ) (t : Track) (b : Table) → t.stss ≡ Some b → Rises 0 (numbers f b) → All (λ s. s.sync ≡ member s.number (numbers f b)) (samples_of f t)
sync-is-member f t b e r =
    all_map _ _ (samples_of f t)
    (λ s p. p ∙ ap (λ (o : Option Table). sync_at (syncs f o) s.number) e ∙ risen-member 0 (numbers f b) s.number r) (sync-is f t)

-- The walk's loop: what is recorded from here on is what is recorded from the start. Assumes nothing.
use Rattle.std.specs.Prelude.{Result, Ok, Err}
use mathlib.Core.Path.{◌≡◌, refl, sym, ap, ap₂, ◌∙◌}
use mathlib.Core.List.{List, [], ◌∷◌, ◌++◌}
use mathlib.Core.Bool.{Bool, true, false, ◌||◌}
use Prim.Native.Nat.{ℕ, zero, suc, ◌+◌, ◌-◌, ◌<◌}
use native.Mathlib.Nat.{add-zero}
use native.Mathlib.Numerals.{add-one, sub-one}
use native.Mathlib.Omega.{arith}
use lib.ListN.{length, take, length-append}
use lib.Dec.{ltb}
use Rattle.numbers.specs.Field.{when}
use Rattle.numbers.specs.declared.Refusal.{Refusal}
use Rattle.numbers.proofs.Chain.{by-true, by-false}
use Rattle.places.specs.Visit.{visit_of}
use Rattle.tree.specs.Walk.{Walked, whole, fault, after, onward, Walk, box_of, siblings, level_of, kids_of, walk_of}
use Rattle.tree.specs.Tables.{Tables, put, puts, Out, out, recorded}
use Rattle.places.specs.declared.Node.{Node}
use Rattle.places.specs.declared.Row.{Row}
use Rattle.tree.specs.declared.Scanned.{Scanned}
use Rattle.tree.specs.declared.Scanned.TheVariants as scan
use Rattle.places.proofs.Visits.{Seen, visit-seen}

-- RECORDING

pub recorded-none : (t : Tables) (n : ℕ) → recorded t n (whole []) ≡ out (scan.Whole n) t
unfolding puts
recorded-none t n = ap (λ k. out (scan.Whole k) t) (add-zero n)

pub recorded-fault : (t : Tables) (n : ℕ) (q : Refusal) → recorded t n (fault [] q) ≡ out (scan.Fault n q) t
unfolding puts
recorded-fault t n q = ap (λ k. out (scan.Fault k q) t) (add-zero n)

pub puts-append : (t : Tables) (n : ℕ) (xs ys : List Node) → puts t n (xs ++ ys) ≡ puts (puts t n xs) (n + length xs) ys
unfolding puts
puts-append t n [] ys = ap (λ k. puts t k ys) (sym (add-zero n))
puts-append t n (x ∷ xs) ys =
    let i : suc n + length xs ≡ n + suc (length xs) = omega arith in
    puts-append (put t n x) (suc n) xs ys ∙ ap (λ k. puts (puts (put t n x) (suc n) xs) k ys) i

-- boxes and what comes after them, recorded: first the boxes, then the rest behind them
pub recorded-after : (t : Tables) (n : ℕ) (xs : List Node) (w : Walked) → recorded t n (after xs w) ≡ recorded (puts t n xs) (n + length xs) w
recorded-after t n xs (whole ys) =
    let l : n + length (xs ++ ys) ≡ n + length xs + length ys = simp length-append (omega arith) in
    ap₂ (λ k u. out (scan.Whole k) u) l (puts-append t n xs ys)
recorded-after t n xs (fault ys q) =
    let l : n + length (xs ++ ys) ≡ n + length xs + length ys = simp length-append (omega arith) in
    ap₂ (λ k u. out (scan.Fault k q) u) l (puts-append t n xs ys)

pub recorded-one : (t : Tables) (n : ℕ) (x : Node) (w : Walked) → recorded t n (after (x ∷ []) w) ≡ recorded (put t n x) (n + 1) w
unfolding puts
recorded-one t n x w = recorded-after t n (x ∷ []) w

-- on behind a walk that was recorded whole, or that ended in a fault
module _ (t u : Tables) (n m : ℕ) where
  pub onward-whole : (w : Walked) (go : ℕ → Walked) → out (scan.Whole m) u ≡ recorded t n w → recorded t n (onward w (λ k. go (n + k))) ≡ recorded u m (go m)
  onward-whole (whole xs) go e =
      let i : n + length xs ≡ m = cc in
      let j : puts t n xs ≡ u = cc in
      recorded-after t n xs (go (n + length xs)) ∙ ap₂ (λ k v. recorded v k (go k)) i j
  onward-whole (fault xs q) go e = let z : ◌≡◌ {A = ℕ} 0 1 = cc in absurd (omega arith)

  pub onward-fault : (w : Walked) (go : ℕ → Walked) (q : Refusal) → out (scan.Fault m q) u ≡ recorded t n w → out (scan.Fault m q) u ≡ recorded t n (onward w go)
  onward-fault (whole xs) go q e = let z : ◌≡◌ {A = ℕ} 0 1 = cc in absurd (omega arith)
  onward-fault (fault xs p) go q e = e

-- a level down
pub down : (left : ℕ) → (left ≡ 0 → ⊥) → (s : List ℕ) (row : Row) (n : ℕ) → walk_of (left - 1) s row n ≡ kids_of left s row n
unfolding kids_of
down zero f s row n = absurd (f refl)
down (suc d) f s row n = ap (λ k. walk_of k s row n) (sub-one (suc d))

-- THE LOOP
module _ (s : List ℕ) (left : ℕ) (row : Row) (t : Tables) (f at n : ℕ) where
  abbrev here : Walked
  here = siblings (kids_of left) s left row f at n

  pub no_more : f ≡ 0 → out (scan.Whole n) t ≡ recorded t n here
  unfolding siblings
  no_more e = sym (ap (λ k. recorded t n (siblings (kids_of left) s left row k at n)) e ∙ recorded-none t n)

  module _ (some : 0 < f) where
    opened : (k : ℕ) → 0 < k → siblings (kids_of left) s left row k at n
        ≡ when (◌||◌ row.counted (ltb at (length s))) (box_of (kids_of left) (λ p m. siblings (kids_of left) s left row (k - 1) p m) s n (visit_of s at left row n)) (whole [])
    unfolding siblings
    opened zero h = absurd (omega arith)
    opened (suc k) h =
        ap (λ j. when (◌||◌ row.counted (ltb at (length s))) (box_of (kids_of left) (λ p m. siblings (kids_of left) s left row j p m) s n (visit_of s at left row n)) (whole []))
        (let e : k ≡ suc k - 1 = omega arith in e)

    pub at-end : ◌||◌ row.counted (ltb at (length s)) ≡ false → out (scan.Whole n) t ≡ recorded t n here
    at-end e = sym (ap (recorded t n) (opened f some ∙ sym (by-false _ _ _ _ e refl)) ∙ recorded-none t n)

    module _ (e : ◌||◌ row.counted (ltb at (length s)) ≡ true) (v : Result (Node × Row) Refusal) (visits : v ≡ visit_of s at left row n) where
      turned : here ≡ box_of (kids_of left) (λ p m. siblings (kids_of left) s left row (f - 1) p m) s n v
      turned =
          opened f some ∙ sym (by-true _ _ _ _ e refl)
          ∙ ap (box_of (kids_of left) (λ p m. siblings (kids_of left) s left row (f - 1) p m) s n) (sym visits)

      pub refused : (q : Refusal) → v ≡ Err q → out (scan.Fault n q) t ≡ recorded t n here
      refused q g =
          sym (ap (recorded t n) (turned ∙ ap (box_of (kids_of left) (λ p m. siblings (kids_of left) s left row (f - 1) p m) s n) g) ∙ recorded-fault t n q)

      module _ (node : Node) (inner : Row) (g : v ≡ Ok (node, inner)) where
        met : Seen s at left row n node inner
        met = visit-seen s at left row n node inner (sym visits ∙ g)

        abbrev end : ℕ
        end = node.start + node.size

        abbrev rest : Walked
        rest = onward (kids_of left (take end s) inner (n + 1)) (λ k. siblings (kids_of left) s left row (f - 1) end (n + 1 + k))

        entered : recorded t n here ≡ recorded (put t n node) (n + 1) rest
        entered =
            ap (recorded t n) (turned ∙ ap (box_of (kids_of left) (λ p m. siblings (kids_of left) s left row (f - 1) p m) s n) g) ∙ recorded-one t n node rest

        module _ (t' u : Tables) (stored : t' ≡ put t n node) (r : Scanned) (w : out r u ≡ recorded t' (n + 1) (walk_of (left - 1) (take end s) inner (n + 1))) where
          walked : out r u ≡ recorded (put t n node) (n + 1) (kids_of left (take end s) inner (n + 1))
          walked = w ∙ ap₂ (λ v' x. recorded v' (n + 1) x) stored (down left met.deeper (take end s) inner (n + 1))

          pub goes_on : (m : ℕ) → r ≡ scan.Whole m → recorded u m (siblings (kids_of left) s left row (f - 1) end m) ≡ recorded t n here
          goes_on m h =
              sym (entered ∙ onward-whole (put t n node) u (n + 1) m (kids_of left (take end s) inner (n + 1)) (λ k. siblings (kids_of left) s left row (f - 1) end k) (ap (λ x. out x u) (sym h) ∙ walked))

          pub stops : (m : ℕ) (q : Refusal) → r ≡ scan.Fault m q → out (scan.Fault m q) u ≡ recorded t n here
          stops m q h =
              onward-fault (put t n node) u (n + 1) m (kids_of left (take end s) inner (n + 1)) (λ k. siblings (kids_of left) s left row (f - 1) end (n + 1 + k)) q (ap (λ x. out x u) (sym h) ∙ walked) ∙ sym entered

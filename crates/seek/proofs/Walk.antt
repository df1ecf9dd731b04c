-- One law for each return and each turn of the walks: what is found from here on. Assumes nothing.
use Prim.Native.Nat.{ℕ, zero, suc, ◌+◌, ◌-◌, ◌*◌, ◌/◌, ◌%◌, ◌≤◌, ◌<◌, min}
use mathlib.Core.Path.{◌≡◌, refl, sym, ap, ap₂, ◌∙◌}
use mathlib.Core.List.{List, [], ◌∷◌, ◌++◌}
use mathlib.Core.Bool.{Bool}
use native.Mathlib.Omega.{arith}
use native.Mathlib.Numerals.{add-one}
use native.Mathlib.Nat.{zero-mul, mul-zero, suc-mul, zero-add, mul-le-mul_left, mod-lt, div-lt_iff_lt-mul, div-add-mod'}
use lib.ListN.{length, take, drop, replicate}
use lib.Seq.{drop-nil}
use borrow.Author.Tests.{lt-ltb, le-ltb}
use Rattle.numbers.specs.Field.{when}
use Rattle.tables.specs.Tables.{list_from, sum, values_of, size_at}
use Rattle.tables.specs.Rows.{row_at, rows_of}
use Rattle.tables.specs.declared.Rows.{Rows}
use Rattle.tables.specs.declared.Row.{Row}
use Rattle.tables.specs.declared.Sizes.{Sizes}
use Rattle.tables.proofs.Lists.{list-cons, list-nil}
use Rattle.tables.proofs.Cases.{size-common}
use Rattle.seek.specs.Seek.{headed, value_of, per_chunk, spot_from, spot_of, span_of}
use Rattle.seek.specs.declared.Value.{Value}
use Rattle.seek.specs.declared.Value.TheVariants as value
use Rattle.seek.specs.declared.Spot.{Spot}
use Rattle.seek.specs.declared.Spot.TheVariants as spot
use Rattle.seek.proofs.Sums.{sum_alike, sum-run, take_past, take_in, take-least, drop_past, drop-in, length_run, sum_same}

-- ROWS

-- the values of the rows from row i on
unfoldable pub left : List ℕ → Rows → ℕ → List ℕ
left f t i = values_of (drop i (rows_of f t))

module _ (f : List ℕ) (t : Rows) (i : ℕ) where
  left-row : (e : Row) → i < t.count → e ≡ row_at f t i → left f t i ≡ replicate e.count e.value ++ left f t (i + 1)
  unfolding left
  left-row e h q =
      ap values_of (list-cons (row_at f t) t.count i h)
      ∙ sym (ap (λ (r : Row). replicate r.count r.value ++ values_of (drop (i + 1) (rows_of f t))) q)

  left-none : t.count ≤ i → left f t i ≡ []
  unfolding left
  left-none h = ap values_of (list-nil (row_at f t) t.count i h)

-- VALUES

-- a product with a number of 32 bits
pub product : (a b : ℕ) → b < 4294967296 → a * b ≤ a * 4294967295
product a b h = mul-le-mul_left a (omega arith)

-- value k of l, where n values in all and the sum s of those before l are known
unfoldable pub value_from : ℕ → ℕ → ℕ → List ℕ → Value
value_from n s k l = headed n (s + sum (take k l)) (drop k l)

value-start : (f : List ℕ) (t : Rows) (k : ℕ) → value_from (length (values_of (rows_of f t))) 0 k (left f t 0) ≡ value_of (values_of (rows_of f t)) k
unfolding value_from left
value-start f t k =
    let l = values_of (rows_of f t) in
    ap (λ (x : ℕ). headed (length l) x (drop k l)) (zero-add (sum (take k l)))

-- what a walk to value k keeps: it is value `to` of what is left, the sum of those before is s; and s is small
pub record Seeks (f : List ℕ) (t : Rows) (k i to s : ℕ) : Type 0 where
  pub found : value_from (length (values_of (rows_of f t))) s to (left f t i) ≡ value_of (values_of (rows_of f t)) k
  pub gone : to + length (values_of (rows_of f t)) ≡ k + length (left f t i)
  pub small : s + to * 4294967295 ≤ k * 4294967295

pub seeks-start : (f : List ℕ) (t : Rows) (k : ℕ) → Seeks f t k 0 k 0
unfolding left
seeks-start f t k = record { found = value-start f t k; gone = refl; small = omega arith }

module _ (n s k : ℕ) (l : List ℕ) where
  value_none : (q : ℕ) → l ≡ [] → q ≡ n → value.Few q ≡ value_from n s k l
  unfolding value_from
  value_none q e h = ap value.Few h ∙ sym (ap (λ (x : List ℕ). headed n (s + sum (take k l)) x) (ap (drop k) e ∙ drop-nil k))

  module _ (c v : ℕ) (m : List ℕ) (e : l ≡ replicate c v ++ m) where
    value-here : k < c → value.At v (s + k * v) ≡ value_from n s k l
    unfolding value_from
    value-here h =
        let a : sum (take k l) ≡ k * v = ap (λ (x : List ℕ). sum (take k x)) e ∙ ap sum (take_in v m c k (omega arith)) ∙ sum_same k v in
        let b : drop k l ≡ v ∷ drop (suc k) (replicate c v ++ m) = ap (drop k) e ∙ drop-in v m c k h in
        sym (ap₂ (λ (x : ℕ) (y : List ℕ). headed n (s + x) y) a b)

    value-past : c ≤ k → value_from n (s + c * v) (k - c) m ≡ value_from n s k l
    unfolding value_from
    value-past h =
        let a : sum (take k l) ≡ c * v + sum (take (k - c) m) = ap (λ (x : List ℕ). sum (take k x)) e ∙ ap sum (take_past v m c k h) ∙ sum-run v (take (k - c) m) c in
        let b : drop k l ≡ drop (k - c) m = ap (drop k) e ∙ drop_past v m c k h in
        let d : s + c * v + sum (take (k - c) m) ≡ s + sum (take k l) = omega arith in
        ap₂ (λ (x : ℕ) (y : List ℕ). headed n x y) d (sym b)

    length-past : length l ≡ c + length m
    length-past = ap length e ∙ length_run v m c

module _ (f : List ℕ) (t : Rows) (k i to s : ℕ) (g : Seeks f t k i to s) where
  pub seeks-none : (q : ℕ) → t.count ≤ i → q ≡ k - to → value.Few q ≡ value_of (values_of (rows_of f t)) k
  seeks-none q h e =
      let w = left-none f t i h in
      value_none _ s to (left f t i) q w (omega (arith, g.gone, ap length w)) ∙ g.found

  module _ (e : Row) (h : i < t.count) (w : e ≡ row_at f t i) where
    pub seeks-here : to < e.count → value.At e.value (s + to * e.value) ≡ value_of (values_of (rows_of f t)) k
    seeks-here x = value-here _ s to (left f t i) e.count e.value (left f t (i + 1)) (left-row f t i e h w) x ∙ g.found

    pub seeks-on : e.count ≤ to → e.value < 4294967296 → Seeks f t k (i + 1) (to - e.count) (s + e.count * e.value)
    seeks-on x b =
        let r = left-row f t i e h w in
        record {
          found = value-past _ s to (left f t i) e.count e.value (left f t (i + 1)) r x ∙ g.found;
          gone = omega (arith, g.gone, length-past 0 s to (left f t i) e.count e.value (left f t (i + 1)) r);
          small = omega (arith, g.small, product e.count e.value b);
        }

-- CHUNKS

module _ (n v : ℕ) (l : List ℕ) where
  spot_in : (m i k q r : ℕ) → k ≡ q * v + r → r < v → q < m → spot.At (i + q) r ≡ spot_from n i (replicate m v ++ l) k
  unfolding when
  spot_in zero i k q r e h g = absurd (omega arith)
  spot_in (suc m) i k zero r e h g =
      let a : k ≡ r = omega (arith, zero-mul v) in
      let b : i + 0 ≡ i = omega arith in
      ap₂ (λ (x y : ℕ). spot.At x y) b (sym a)
      ∙ sym (ap (λ (x : Bool). when x (spot.At i k) (spot_from n (suc i) (replicate m v ++ l) (k - v))) (lt-ltb k v (omega arith)))
  spot_in (suc m) i k (suc q) r e h g =
      let a : suc i + q ≡ i + suc q = omega arith in
      let b : v ≤ k = omega (arith, suc-mul q v) in
      sym (ap (λ (x : ℕ). spot.At x r) a)
      ∙ spot_in m (suc i) (k - v) q r (omega (arith, suc-mul q v)) h (omega arith)
      ∙ sym (ap (λ (x : Bool). when x (spot.At i k) (spot_from n (suc i) (replicate m v ++ l) (k - v))) (le-ltb k v b))

  spot_past : (m i k : ℕ) → m * v ≤ k → spot_from n (i + m) l (k - m * v) ≡ spot_from n i (replicate m v ++ l) k
  unfolding when
  spot_past zero i k h =
      let a : i + 0 ≡ i = omega arith in
      let b : k - 0 * v ≡ k = omega (arith, zero-mul v) in
      ap₂ (λ (x y : ℕ). spot_from n x l y) a b
  spot_past (suc m) i k h =
      let a : suc i + m ≡ i + suc m = omega arith in
      let b : k - v - m * v ≡ k - suc m * v = omega (arith, suc-mul m v) in
      let d : v ≤ k = omega (arith, suc-mul m v) in
      sym (ap₂ (λ (x y : ℕ). spot_from n x l y) a b)
      ∙ spot_past m (suc i) (k - v) (omega (arith, suc-mul m v))
      ∙ sym (ap (λ (x : Bool). when x (spot.At i k) (spot_from n (suc i) (replicate m v ++ l) (k - v))) (le-ltb k v d))

-- a number below a product: its divisor is not 0, and the quotient is below the other factor
pub divides : (k o v : ℕ) → k < o * v → 0 < v
divides k o zero h = absurd (omega (arith, mul-zero o))
divides k o (suc v) h = omega arith

pub quotient : (k o v : ℕ) → k < o * v → k / v < o
quotient k o v h = (div-lt_iff_lt-mul (divides k o v h)).1 h

-- sample k, of the chunks from chunk i on: r chunks are left, and l says how many samples each has
unfoldable pub spot_left : ℕ → ℕ → ℕ → List ℕ → ℕ → Spot
spot_left n i r l k = spot_from n i (take r l) k

take_none : (r : ℕ) → ◌≡◌ {A = List ℕ} (take r []) []
take_none zero = refl
take_none (suc r) = refl

module _ (n i r : ℕ) (l : List ℕ) (k : ℕ) where
  spot-none : (q : ℕ) → l ≡ [] → q ≡ n → spot.Few q ≡ spot_left n i r l k
  unfolding spot_left
  spot-none q e h = ap spot.Few h ∙ sym (ap (λ (x : List ℕ). spot_from n i x k) (ap (take r) e ∙ take_none r))

  module _ (c v : ℕ) (m : List ℕ) (e : l ≡ replicate c v ++ m) (o : ℕ) (eo : o ≡ min c r) where
    taken : take r l ≡ replicate o v ++ take (r - o) m
    taken = ap (take r) e ∙ take-least v m c r o eo

    spot-here : k < o * v → spot.At (i + k / v) (k % v) ≡ spot_left n i r l k
    unfolding spot_left
    spot-here h =
        spot_in n v (take (r - o) m) o i k (k / v) (k % v) (sym (div-add-mod' k v)) (mod-lt k (divides k o v h)) (quotient k o v h)
        ∙ sym (ap (λ (x : List ℕ). spot_from n i x k) taken)

    spot_on : o * v ≤ k → spot_left n (i + o) (r - o) m (k - o * v) ≡ spot_left n i r l k
    unfolding spot_left
    spot_on h = spot_past n v (take (r - o) m) o i k h ∙ sym (ap (λ (x : List ℕ). spot_from n i x k) taken)

    sum-on : sum (take r l) ≡ o * v + sum (take (r - o) m)
    sum-on = ap sum taken ∙ sum-run v (take (r - o) m) o

-- what a walk to sample k's chunk keeps: it is sample `to` of the chunks from `chunk` on
pub record Looks (f : List ℕ) (t : Rows) (k i to chunk : ℕ) : Type 0 where
  pub found : spot_left (sum (per_chunk f t)) chunk (t.chunks - chunk) (left f t i) to ≡ spot_of (per_chunk f t) k
  pub gone : to + sum (per_chunk f t) ≡ k + sum (take (t.chunks - chunk) (left f t i))
  pub few : chunk ≤ t.chunks

pub spot-start : (f : List ℕ) (t : Rows) (k : ℕ) → Looks f t k 0 k 0
unfolding spot_left left
spot-start f t k =
    let e : t.chunks - 0 ≡ t.chunks = omega arith in
    record {
      found = ap (λ (r : ℕ). spot_from (sum (per_chunk f t)) 0 (take r (values_of (rows_of f t))) k) e;
      gone = ap (λ (r : ℕ). k + sum (take r (values_of (rows_of f t)))) (sym e);
      few = omega arith;
    }

module _ (f : List ℕ) (t : Rows) (k i to chunk : ℕ) (g : Looks f t k i to chunk) where
  pub looks-none : (q : ℕ) → t.count ≤ i → q ≡ k - to → spot.Few q ≡ spot_of (per_chunk f t) k
  looks-none q h e =
      let w = left-none f t i h in
      let z : sum (take (t.chunks - chunk) (left f t i)) ≡ 0 = ap (λ (l : List ℕ). sum (take (t.chunks - chunk) l)) w ∙ ap sum (take_none (t.chunks - chunk)) in
      spot-none _ chunk (t.chunks - chunk) (left f t i) to q w (omega (arith, g.gone)) ∙ g.found

  module _ (e : Row) (h : i < t.count) (w : e ≡ row_at f t i) (o : ℕ) (eo : o ≡ min e.count (t.chunks - chunk)) where
    pub looks-here : to < o * e.value → spot.At (chunk + to / e.value) (to % e.value) ≡ spot_of (per_chunk f t) k
    looks-here x = spot-here _ chunk (t.chunks - chunk) (left f t i) to e.count e.value (left f t (i + 1)) (left-row f t i e h w) o eo x ∙ g.found

    pub looks_on : o * e.value ≤ to → Looks f t k (i + 1) (to - o * e.value) (chunk + o)
    looks_on x =
        let r = left-row f t i e h w in
        let y : t.chunks - chunk - o ≡ t.chunks - (chunk + o) = omega arith in
        let z : sum (take (t.chunks - chunk) (left f t i)) ≡ o * e.value + sum (take (t.chunks - (chunk + o)) (left f t (i + 1))) =
        sum-on 0 chunk (t.chunks - chunk) (left f t i) to e.count e.value (left f t (i + 1)) r o eo
        ∙ ap (λ (n : ℕ). o * e.value + sum (take n (left f t (i + 1)))) y in
        record {
          found =
              sym (ap (λ (n : ℕ). spot_left (sum (per_chunk f t)) (chunk + o) n (left f t (i + 1)) (to - o * e.value)) y)
              ∙ spot_on _ chunk (t.chunks - chunk) (left f t i) to e.count e.value (left f t (i + 1)) r o eo x ∙ g.found;
          gone = omega (arith, g.gone);
          few = omega (arith, g.few);
        }

-- BYTES

module _ (f : List ℕ) (t : Sizes) (i to : ℕ) where
  pub span-on : (s w z : ℕ) → s + span_of f t i to ≡ w → i < to → z ≡ size_at f t i → s + z + span_of f t (i + 1) to ≡ w
  unfolding span_of
  span-on s w z e h q =
      let a : to - i ≡ suc (to - (i + 1)) = omega arith in
      let b : span_of f t i to ≡ size_at f t i + span_of f t (i + 1) to =
      ap (λ (n : ℕ). sum (list_from (size_at f t) n i)) a ∙ ap (λ (j : ℕ). size_at f t i + sum (list_from (size_at f t) (to - (i + 1)) j)) (sym (add-one i)) in
      omega arith

  span-empty : to ≤ i → span_of f t i to ≡ 0
  unfolding span_of
  span-empty h = let a : to - i ≡ 0 = omega arith in ap (λ (n : ℕ). sum (list_from (size_at f t) n i)) a

  pub span_none : (s w : ℕ) → s + span_of f t i to ≡ w → to ≤ i → s ≡ w
  span_none s w e h = omega (arith, span-empty h)

  pub span-nothing : to ≤ i → 0 ≡ span_of f t i to
  span-nothing h = sym (span-empty h)

  pub span-common : (t.common ≡ 0 → ⊥) → (n : ℕ) → n ≡ to - i → n * t.common ≡ span_of f t i to
  unfolding span_of
  span-common h n e = ap (λ (x : ℕ). x * t.common) e ∙ sum_alike (size_at f t) t.common (λ j. size-common f t j h) (to - i) i

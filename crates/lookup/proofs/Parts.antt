-- What is left of a track's lists after so many samples; and where a sample lies. Assumes nothing.
use Prim.Native.Nat.{ℕ, zero, suc, ◌+◌, ◌-◌, ◌≤◌, ◌<◌}
use mathlib.Core.Path.{◌≡◌, refl, sym, ap, ap₂, ◌∙◌}
use mathlib.Core.List.{List, [], ◌∷◌, ◌++◌}
use mathlib.Core.Bool.{Bool, true, false}
use native.Mathlib.Omega.{arith}
use lib.ListN.{length, take, drop, length-drop}
use lib.Seq.{drop-nil, drop-drop}
use lib.Dec.{ltb}
use borrow.Author.Tests.{ltb-true, ltb-false}
use Rattle.numbers.specs.Field.{when}
use Rattle.signed.specs.Signed.{signed}
use Rattle.samples.specs.declared.Sample.{Sample}
use Rattle.samples.specs.Lists.{bytes_of}
use Rattle.tables.specs.Tables.{list_from, sum, Syncs}
use Rattle.tables.specs.Samples.{starts, place, first_or, rest, flag_of, past_of, zipped}
use Rattle.seek.specs.Seek.{headed, value_of, spot_from}
use Rattle.seek.specs.declared.Value.TheVariants as value
use Rattle.seek.specs.declared.Spot.TheVariants as spot

-- SAMPLES

-- the sync numbers that are left after k samples, n having come before
abbrev pub later : ℕ → ℕ → Syncs → Syncs
later zero n ys = ys
later (suc k) n ys = later k (n + 1) (past_of ys (n + 1))

drop-rest : (k : ℕ) (cs : List ℕ) → drop k (rest cs) ≡ drop (suc k) cs
drop-rest k [] = drop-nil k
drop-rest k (c ∷ cs) = refl

none_last : (n m : ℕ) (ss os cs : List ℕ) (ys : Syncs) → zipped n m ss [] os cs ys ≡ []
none_last n m [] os cs ys = refl
none_last n m (z ∷ ss) os cs ys = refl

none_lie : (n m : ℕ) (ss ds cs : List ℕ) (ys : Syncs) → zipped n m ss ds [] cs ys ≡ []
none_lie n m [] ds cs ys = refl
none_lie n m (z ∷ ss) [] cs ys = refl
none_lie n m (z ∷ ss) (d ∷ ds) cs ys = refl

-- the samples after the first k: of each table what comes after k, the time by the durations gone
pub after-some : (k n m : ℕ) (ss ds os cs : List ℕ) (ys : Syncs)
    → drop k (zipped n m ss ds os cs ys) ≡ zipped (n + k) (m + sum (take k ds)) (drop k ss) (drop k ds) (drop k os) (drop k cs) (later k n ys)
after-some zero n m ss ds os cs ys =
    let a : n ≡ n + 0 = omega arith in
    let b : m ≡ m + 0 = omega arith in
    ap₂ (λ (x y : ℕ). zipped x y ss ds os cs ys) a b
after-some (suc k) n m [] ds os cs ys = refl
after-some (suc k) n m (z ∷ ss) [] os cs ys = sym (none_last (n + suc k) (m + 0) (drop k ss) (drop (suc k) os) (drop (suc k) cs) (later (suc k) n ys))
after-some (suc k) n m (z ∷ ss) (d ∷ ds) [] cs ys =
    sym (none_lie (n + suc k) (m + (d + sum (take k ds))) (drop k ss) (drop k ds) (drop (suc k) cs) (later (suc k) n ys))
after-some (suc k) n m (z ∷ ss) (d ∷ ds) (o ∷ os) cs ys =
    let a : n + 1 + k ≡ n + suc k = omega arith in
    let b : m + d + sum (take k ds) ≡ m + (d + sum (take k ds)) = omega arith in
    after-some k (n + 1) (m + d) ss ds os (rest cs) (past_of ys (n + 1))
    ∙ ap (λ (x : List ℕ). zipped (n + 1 + k) (m + d + sum (take k ds)) (drop k ss) (drop k ds) (drop k os) x (later (suc k) n ys)) (drop-rest k cs)
    ∙ ap₂ (λ (x y : ℕ). zipped x y (drop k ss) (drop k ds) (drop k os) (drop (suc k) cs) (later (suc k) n ys)) a b

-- the first of them, where each table has one
pub next_one : (k n m : ℕ) (ss ds os cs : List ℕ) (ys : Syncs) (z d o : ℕ) (ss' ds' os' : List ℕ)
    → drop k ss ≡ z ∷ ss' → drop k ds ≡ d ∷ ds' → drop k os ≡ o ∷ os'
    → drop k (zipped n m ss ds os cs ys)
    ≡ record { number = n + k + 1; offset = o; size = z; time = m + sum (take k ds); duration = d; composition = signed 4 (first_or 0 (drop k cs)); sync = flag_of (later k n ys) (n + k + 1) }
    ∷ zipped (n + k + 1) (m + sum (take k ds) + d) ss' ds' os' (rest (drop k cs)) (past_of (later k n ys) (n + k + 1))
next_one k n m ss ds os cs ys z d o ss' ds' os' a b c =
    after-some k n m ss ds os cs ys
    ∙ ap₂ (λ (x y : List ℕ). zipped (n + k) (m + sum (take k ds)) x y (drop k os) (drop k cs) (later k n ys)) a b
    ∙ ap (λ (x : List ℕ). zipped (n + k) (m + sum (take k ds)) (z ∷ ss') (d ∷ ds') x (drop k cs) (later k n ys)) c

-- where there is one, it has the next number
pub record Numbered (l : List Sample) (n : ℕ) : Type 0 where
  pub head : Sample
  pub tail : List Sample
  pub is : l ≡ head ∷ tail
  pub number : head.number ≡ n

numbered : (n m : ℕ) (ss ds os cs : List ℕ) (ys : Syncs) → 0 < length (zipped n m ss ds os cs ys) → Numbered (zipped n m ss ds os cs ys) (n + 1)
numbered n m [] ds os cs ys h = absurd (omega arith)
numbered n m (z ∷ ss) [] os cs ys h = absurd (omega arith)
numbered n m (z ∷ ss) (d ∷ ds) [] cs ys h = absurd (omega arith)
numbered n m (z ∷ ss) (d ∷ ds) (o ∷ os) cs ys h =
    record {
      head = record { number = n + 1; offset = o; size = z; time = m; duration = d; composition = signed 4 (first_or 0 cs); sync = flag_of ys (n + 1) };
      tail = zipped (n + 1) (m + d) ss ds os (rest cs) (past_of ys (n + 1));
      is = refl;
      number = refl;
    }

pub numbered-at : (k n m : ℕ) (ss ds os cs : List ℕ) (ys : Syncs) → k < length (zipped n m ss ds os cs ys)
    → Numbered (drop k (zipped n m ss ds os cs ys)) (n + k + 1)
numbered-at k n m ss ds os cs ys h =
    let e = after-some k n m ss ds os cs ys in
    let r = numbered (n + k) (m + sum (take k ds)) (drop k ss) (drop k ds) (drop k os) (drop k cs) (later k n ys) (omega (arith, ap length e, length-drop k (zipped n m ss ds os cs ys))) in
    record { head = r.head; tail = r.tail; is = e ∙ r.is; number = r.number }

-- the bytes of the samples are as many sizes as there are samples
pub bytes-sizes : (n m : ℕ) (ss ds os cs : List ℕ) (ys : Syncs)
    → bytes_of (zipped n m ss ds os cs ys) ≡ sum (take (length (zipped n m ss ds os cs ys)) ss)
bytes-sizes n m [] ds os cs ys = refl
bytes-sizes n m (z ∷ ss) [] os cs ys = refl
bytes-sizes n m (z ∷ ss) (d ∷ ds) [] cs ys = refl
bytes-sizes n m (z ∷ ss) (d ∷ ds) (o ∷ os) cs ys = ap (λ (x : ℕ). z + x) (bytes-sizes (n + 1) (m + d) ss ds os (rest cs) (past_of ys (n + 1)))

-- LISTS BY NUMBER

module _ (g : ℕ → ℕ) where
  pub take-list : (w n i : ℕ) → w ≤ n → take w (list_from g n i) ≡ list_from g w i
  take-list zero n i h = refl
  take-list (suc w) zero i h = absurd (omega arith)
  take-list (suc w) (suc n) i h = ap (λ (l : List ℕ). g i ∷ l) (take-list w n (suc i) (omega arith))

  drop-list : (j n i : ℕ) → drop j (list_from g n i) ≡ list_from g (n - j) (i + j)
  drop-list zero n i =
      let a : n ≡ n - 0 = omega arith in
      let b : i ≡ i + 0 = omega arith in
      ap₂ (λ (x y : ℕ). list_from g x y) a b
  drop-list (suc j) zero i = let a : 0 ≡ 0 - suc j = omega arith in ap (λ (x : ℕ). list_from g x (i + suc j)) a
  drop-list (suc j) (suc n) i =
      let a : n - j ≡ suc n - suc j = omega arith in
      let b : suc i + j ≡ i + suc j = omega arith in
      drop-list j n (suc i) ∙ ap₂ (λ (x y : ℕ). list_from g x y) a b

  -- a part of a list by number
  pub part-list : (w j n : ℕ) → j + w ≤ n → take w (drop j (list_from g n 0)) ≡ list_from g w j
  part-list w j n h =
      let a : 0 + j ≡ j = omega arith in
      ap (take w) (drop-list j n 0) ∙ take-list w (n - j) (0 + j) (omega arith) ∙ ap (λ (x : ℕ). list_from g w x) a

-- VALUES

-- value v of l is number k, s the sum of those before it
pub record Told (l : List ℕ) (k v s : ℕ) : Type 0 where
  pub tail : List ℕ
  pub is : drop k l ≡ v ∷ tail
  pub before-it : s ≡ sum (take k l)

pub value-told : (l : List ℕ) (k v s : ℕ) → value.At v s ≡ value_of l k → Told l k v s
value-told l k v s e = cases (drop k l) refl e
  where
    cases : (x : List ℕ) → drop k l ≡ x → value.At v s ≡ headed (length l) (sum (take k l)) x → Told l k v s
    cases [] q w = let z : ◌≡◌ {A = ℕ} 0 1 = cc in absurd (omega arith)
    cases (a ∷ x) q w =
        let b : v ≡ a = cc in
        record { tail = x; is = q ∙ ap (λ (y : ℕ). y ∷ x) (sym b); before-it = cc }

pub value-few : (l : List ℕ) (k q : ℕ) → value.Few q ≡ value_of l k → (drop k l ≡ []) × (q ≡ length l)
value-few l k q e = cases (drop k l) refl e
  where
    cases : (x : List ℕ) → drop k l ≡ x → value.Few q ≡ headed (length l) (sum (take k l)) x → (drop k l ≡ []) × (q ≡ length l)
    cases [] p w = (p, cc)
    cases (a ∷ x) p w = let z : ◌≡◌ {A = ℕ} 0 1 = cc in absurd (omega arith)

-- PLACES

starts-in : (k a c : ℕ) (ss p : List ℕ) → k < a → k < length ss
    → drop k (starts c (take a ss) ++ p) ≡ (c + sum (take k ss)) ∷ drop (suc k) (starts c (take a ss) ++ p)
starts-in k zero c ss p h g = absurd (omega arith)
starts-in k (suc a) c [] p h g = absurd (omega arith)
starts-in zero (suc a) c (z ∷ ss) p h g = let e : c ≡ c + 0 = omega arith in ap (λ (x : ℕ). x ∷ (starts (c + z) (take a ss) ++ p)) e
starts-in (suc k) (suc a) c (z ∷ ss) p h g =
    let e : c + z + sum (take k ss) ≡ c + (z + sum (take k ss)) = omega arith in
    starts-in k a (c + z) ss p (omega arith) (omega arith) ∙ ap (λ (x : ℕ). x ∷ drop (suc k) (starts (c + z) (take a ss) ++ p)) e

starts-past : (k a c : ℕ) (ss p : List ℕ) → a ≤ k → a ≤ length ss → drop k (starts c (take a ss) ++ p) ≡ drop (k - a) p
starts-past k zero c ss p h g = let e : k ≡ k - 0 = omega arith in ap (λ (x : ℕ). drop x p) e
starts-past k (suc a) c [] p h g = absurd (omega arith)
starts-past zero (suc a) c (z ∷ ss) p h g = absurd (omega arith)
starts-past (suc k) (suc a) c (z ∷ ss) p h g =
    let e : k - a ≡ suc k - suc a = omega arith in
    starts-past k a (c + z) ss p (omega arith) (omega arith) ∙ ap (λ (x : ℕ). drop x p) e

-- the place of sample k: chunk i begins at g i, and w samples of it come before
pub record Lies (l : List ℕ) (g : ℕ → ℕ) (ss : List ℕ) (k i w : ℕ) : Type 0 where
  pub tail : List ℕ
  pub within : w ≤ k
  pub is : l ≡ (g i + sum (take w (drop (k - w) ss))) ∷ tail

module _ (g : ℕ → ℕ) (few : ℕ) where
  pub spot-lies : (n j : ℕ) (ns ss : List ℕ) (k i w : ℕ) → k < length ss → spot.At i w ≡ spot_from few j (take n ns) k
      → Lies (drop k (place ns (list_from g n j) ss)) g ss k i w
  unfolding when
  spot-lies zero j ns ss k i w h e = let z : ◌≡◌ {A = ℕ} 0 1 = cc in absurd (omega arith)
  spot-lies (suc n) j [] ss k i w h e = let z : ◌≡◌ {A = ℕ} 0 1 = cc in absurd (omega arith)
  spot-lies (suc n) j (a ∷ ns) ss k i w h e = cases (ltb k a) refl e (spot-lies n (suc j) ns (drop a ss) (k - a) i w)
    where
      p : List ℕ
      p = place ns (list_from g n (suc j)) (drop a ss)

      cases : (b : Bool) → ltb k a ≡ b → spot.At i w ≡ when b (spot.At j k) (spot_from few (suc j) (take n ns) (k - a))
          → (k - a < length (drop a ss) → spot.At i w ≡ spot_from few (suc j) (take n ns) (k - a) → Lies (drop (k - a) (place ns (list_from g n (suc j)) (drop a ss))) g (drop a ss) (k - a) i w)
          → Lies (drop k (starts (g j) (take a ss) ++ place ns (list_from g n (suc j)) (drop a ss))) g ss k i w
      cases true q x ih =
          let ei : i ≡ j = cc in
          let ew : w ≡ k = cc in
          let c : k - w ≡ 0 = omega arith in
          record {
            tail = drop (suc k) (starts (g j) (take a ss) ++ place ns (list_from g n (suc j)) (drop a ss));
            within = omega arith;
            is =
                starts-in k a (g j) ss (place ns (list_from g n (suc j)) (drop a ss)) (ltb-true k a q) h
                ∙ ap (λ (y : ℕ). y ∷ drop (suc k) (starts (g j) (take a ss) ++ place ns (list_from g n (suc j)) (drop a ss)))
                (ap₂ (λ (y v : ℕ). g y + sum (take v ss)) (sym ei) (sym ew) ∙ ap (λ (y : ℕ). g i + sum (take w (drop y ss))) (sym c));
          }
      cases false q x ih =
          let l : a ≤ k = ltb-false k a q in
          let r = ih (omega (arith, length-drop a ss)) x in
          let c : a + (k - a - w) ≡ k - w = omega (arith, r.within) in
          record {
            tail = r.tail;
            within = omega (arith, r.within);
            is =
                starts-past k a (g j) ss (place ns (list_from g n (suc j)) (drop a ss)) l (omega arith) ∙ r.is
                ∙ ap (λ (y : List ℕ). (g i + sum (take w y)) ∷ r.tail) (drop-drop (k - a - w) a ss ∙ ap (λ (y : ℕ). drop y ss) c);
          }

module _ (few : ℕ) where
  pub spot-few : (j : ℕ) (ns : List ℕ) (k q : ℕ) → spot.Few q ≡ spot_from few j ns k → (sum ns ≤ k) × (q ≡ few)
  unfolding when
  spot-few j [] k q e = (omega arith, cc)
  spot-few j (a ∷ ns) k q e = cases (ltb k a) refl e (spot-few (suc j) ns (k - a) q)
    where
      cases : (b : Bool) → ltb k a ≡ b → spot.Few q ≡ when b (spot.At j k) (spot_from few (suc j) ns (k - a))
          → (spot.Few q ≡ spot_from few (suc j) ns (k - a) → (sum ns ≤ k - a) × (q ≡ few)) → (a + sum ns ≤ k) × (q ≡ few)
      cases true p x ih = let z : ◌≡◌ {A = ℕ} 0 1 = cc in absurd (omega arith)
      cases false p x ih = let r = ih x in (omega (arith, r.0, ltb-false k a p), r.1)

  pub spot-many : (j : ℕ) (ns : List ℕ) (k i w : ℕ) → spot.At i w ≡ spot_from few j ns k → k < sum ns
  unfolding when
  spot-many j [] k i w e = let z : ◌≡◌ {A = ℕ} 0 1 = cc in absurd (omega arith)
  spot-many j (a ∷ ns) k i w e = cases (ltb k a) refl e (spot-many (suc j) ns (k - a) i w)
    where
      cases : (b : Bool) → ltb k a ≡ b → spot.At i w ≡ when b (spot.At j k) (spot_from few (suc j) ns (k - a))
          → (spot.At i w ≡ spot_from few (suc j) ns (k - a) → k - a < sum ns) → k < a + sum ns
      cases true p x ih = omega (arith, ltb-true k a p)
      cases false p x ih = omega (arith, ih x, ltb-false k a p)

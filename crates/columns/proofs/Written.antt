-- Numbers put one after the other are the numbers of the definition; and a builder's answers. Assumes nothing.
use Rattle.std.specs.Prelude.{Result, Ok, Err}
use Prim.Native.Nat.{ℕ, suc, ◌+◌, ◌-◌, ◌*◌, ◌/◌, ◌^◌, ◌≤◌, ◌<◌}
use mathlib.Core.Path.{◌≡◌, refl, sym, ap, ap₂, subst, ◌∙◌}
use mathlib.Core.List.{List, [], ◌∷◌, ◌++◌}
use mathlib.Core.Bool.{Bool, true, false}
use native.Mathlib.Nat.{add-zero}
use native.Mathlib.Omega.{arith}
use lib.ListN.{length}
use lib.Seq.{sets, length-sets}
use lib.Dec.{leb}
use Rattle.numbers.specs.Number.{bytes}
use Rattle.numbers.specs.Field.{when}
use Rattle.numbers.specs.declared.Refusal.TheVariants as refusal
use Rattle.numbers.proofs.Laws.{length-bytes}
use Rattle.numbers.proofs.Chain.{by-true, by-false, is_le, not-le, is_lt, not-lt}
use Rattle.put.specs.Put.{Wrote, wrote, put_of}
use Rattle.put.proofs.Stores.{sets-append}
use Rattle.put.proofs.Placed.{done}
use Rattle.columns.specs.Entries.{words_of, word_of, placed_of, built_of, Filled, emit_of, Emitted}
use Rattle.numbers.specs.declared.Refusal.{Refusal}

-- A NUMBER

module _ (o : List ℕ) (k x : ℕ) where
  pub no_room : length o / 4 ≤ k → o ≡ word_of o k x
  unfolding word_of
  no_room h = not-le _ _ o (k * 4 + 4) (length o) (omega arith) refl

  room : k * 4 + 4 ≤ length o → sets o (k * 4) (bytes 4 x) ≡ word_of o k x
  unfolding word_of
  room h = is_le _ _ _ (k * 4 + 4) (length o) h refl

  pub stored : (r : Result ℕ Refusal) (q : List ℕ) → k < length o / 4 → x < 2 ^ 32 → wrote r q ≡ put_of 4 x (k * 4) o → q ≡ word_of o k x
  stored r q h b e =
      let d : wrote (Ok (k * 4 + 4)) (sets o (k * 4) (bytes 4 x)) ≡ put_of 4 x (k * 4) o = done 4 x (k * 4) o (omega arith) b (omega arith) in
      let s : q ≡ sets o (k * 4) (bytes 4 x) = cc in
      s ∙ room (omega arith)

  pub word_keeps : length (word_of o k x) ≡ length o
  unfolding word_of when
  word_keeps = cases (leb (k * 4 + 4) (length o))
    where
      cases : (b : Bool) → length (when b (sets o (k * 4) (bytes 4 x)) o) ≡ length o
      cases true = length-sets o (k * 4) (bytes 4 x)
      cases false = refl

-- NUMBERS ONE AFTER THE OTHER

-- k of the numbers `full` are put into the buffer o, which is now p; `rest` are left
pub record Writing (full rest o p : List ℕ) (k : ℕ) : Type 0 where
  pub many : k + length rest ≡ length full
  pub same : length p ≡ length o
  pub held : length full * 4 ≤ length o → sets p (k * 4) (words_of rest) ≡ sets o 0 (words_of full)

pub begins : (full rest o : List ℕ) → rest ≡ full → Writing full rest o o 0
begins full rest o e = record { many = omega (arith, ap length e); same = refl; held = λ h. ap₂ (λ (n : ℕ) (l : List ℕ). sets o n (words_of l)) (zero-times) e }
  where
    zero-times : 0 * 4 ≡ 0
    zero-times = omega arith

pub one_word : (full rest o p : List ℕ) (k x : ℕ) → Writing full (x ∷ rest) o p k → Writing full rest o (word_of p k x) (k + 1)
one_word full rest o p k x t =
    record {
      many = omega (arith, t.many);
      same = word_keeps p k x ∙ t.same;
      held = λ h.
          let fits : k * 4 + 4 ≤ length p = omega (arith, t.many, t.same) in
          let l : length (bytes 4 x) ≡ 4 = length-bytes 4 x in
          let n : (k + 1) * 4 ≡ k * 4 + length (bytes 4 x) = omega arith in
          ap₂ (λ (q : List ℕ) (m : ℕ). sets q m (words_of rest)) (sym (room p k x fits)) n
          ∙ sets-append p (k * 4) (bytes 4 x) (words_of rest) ∙ t.held h;
    }

emits : (e full rest o p : List ℕ) (k : ℕ) → Writing full (e ++ rest) o p k → Writing full rest o (emit_of p k e) (k + length e)
emits [] full rest o p k t = subst (λ (n : ℕ). Writing full rest o p n) (sym (add-zero k)) t
emits (x ∷ e) full rest o p k t =
    let n : k + 1 + length e ≡ k + suc (length e) = omega arith in
    subst (λ (m : ℕ). Writing full rest o (emit_of (word_of p k x) (k + 1) e) m) n (emits e full rest o (word_of p k x) (k + 1) (one_word full (e ++ rest) o p k x t))

-- the numbers of a step are put
pub emitted : (e full left rest o p q : List ℕ) (k r : ℕ) → Writing full left o p k → left ≡ e ++ rest → Emitted e p k q r → Writing full rest o q r
emitted e full left rest o p q k r t s m =
    let u : Writing full (e ++ rest) o p k = subst (λ (l : List ℕ). Writing full l o p k) s t in
    let v : Writing full rest o (emit_of p k e) r = subst (λ (n : ℕ). Writing full rest o (emit_of p k e) n) (sym m.next) (emits e full rest o p k u) in
    subst (λ (l : List ℕ). Writing full rest o l r) (sym m.put) v

pub ends : (full left o p : List ℕ) (k : ℕ) → Writing full left o p k → left ≡ [] → Filled full o p k
ends full left o p k t e =
    record {
      many = omega (arith, t.many, ap length e);
      same = t.same;
      held = λ h. sym (ap (λ (l : List ℕ). sets p (k * 4) (words_of l)) e) ∙ t.held h;
    }

-- ANSWERS

module _ (ns o : List ℕ) where
  pub placed-small : (n : ℕ) → n ≡ length ns * 4 → length o < n → wrote (Err (refusal.TooSmall n)) o ≡ placed_of ns o
  unfolding placed_of
  placed-small n e h = not-le _ _ _ (length ns * 4) (length o) (omega arith) (ap (λ (m : ℕ). wrote (Err (refusal.TooSmall m)) o) e)

  pub placed-done : (r n : ℕ) (p : List ℕ) → n ≡ length ns * 4 → n ≤ length o → Filled ns o p r → wrote (Ok n) p ≡ placed_of ns o
  unfolding placed_of
  placed-done r n p e h f =
      is_le _ _ _ (length ns * 4) (length o) (omega arith) (ap₂ (λ (m : ℕ) (q : List ℕ). wrote (Ok m) q) e (f.held (omega arith)))

module _ (rs : List ℕ) (n : ℕ) (fit : Bool) (ns o : List ℕ) where
  pub built-none : length rs < n * 7 → wrote (Err (refusal.NoSample n)) o ≡ built_of rs n fit ns o
  unfolding built_of
  built-none h = not-le _ _ _ (n * 7) (length rs) h refl

  pub built-many : n * 7 ≤ length rs → 2 ^ 32 ≤ n → wrote (Err refusal.Unwritable) o ≡ built_of rs n fit ns o
  unfolding built_of
  built-many h m = is_le _ _ _ (n * 7) (length rs) h (not-lt _ _ _ n (2 ^ 32) m refl)

  pub built-unfit : n * 7 ≤ length rs → n < 2 ^ 32 → fit ≡ false → wrote (Err refusal.Unwritable) o ≡ built_of rs n fit ns o
  unfolding built_of
  built-unfit h m e = is_le _ _ _ (n * 7) (length rs) h (is_lt _ _ _ n (2 ^ 32) m (by-false _ _ _ fit e refl))

  pub built : (x : Wrote) → n * 7 ≤ length rs → n < 2 ^ 32 → fit ≡ true → x ≡ placed_of ns o → x ≡ built_of rs n fit ns o
  unfolding built_of
  built x h m e q = is_le _ _ _ (n * 7) (length rs) h (is_lt _ _ _ n (2 ^ 32) m (by-true _ _ _ fit e q))

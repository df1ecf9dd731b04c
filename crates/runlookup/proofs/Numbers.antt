-- The samples of a track are numbered from 1 through the file. Assumes nothing.
use Prim.Native.Nat.{ℕ, suc, ◌+◌, ◌-◌, ◌<◌}
use mathlib.Core.Path.{◌≡◌, refl, sym, ap, ◌∙◌}
use mathlib.Core.List.{List, [], ◌∷◌, ◌++◌}
use mathlib.Core.Bool.{Bool, true, false}
use native.Mathlib.Omega.{arith}
use lib.ListN.{length, drop, length-drop}
use lib.Seq.{drop-append-le}
use lib.Dec.{ltb}
use borrow.Author.Tests.{ltb-true, ltb-false}
use Rattle.samples.specs.declared.Sample.{Sample}
use Rattle.runs.specs.declared.Run.{Run}
use Rattle.fragments.specs.Samples.{count_of, mine, samples_after, samples_of_runs}
use Rattle.fragments.proofs.Cases.{length-mine}
use Rattle.runlookup.proofs.Stuck.{number_at}
use Rattle.runlookup.proofs.Places.{all-mine, drop_past}

-- the head of a list that has more behind it
head_of : (l k m : List Sample) (s : Sample) → 0 < length l → l ++ k ≡ s ∷ m → l ≡ s ∷ drop 1 l
head_of [] k m s h e = absurd (omega arith)
head_of (x ∷ l) k m s h e = let q : x ≡ s = cc in ap (λ (y : Sample). y ∷ l) q

module _ (f : List ℕ) (t : ℕ) where
  number-after : (n : ℕ) (rs : List Run) (j : ℕ) (s : Sample) (k : List Sample) → drop j (samples_after f t n rs) ≡ s ∷ k → s.number ≡ n + j + 1
  number-after n [] j s k e =
      let q : length (drop j (samples_after f t n [])) ≡ suc (length k) = ap (λ (x : List Sample). length x) e in
      absurd (omega (arith, q, length-drop j (samples_after f t n [])))
  number-after n (r ∷ rs) j s k e = cases (ltb j (count_of t r)) refl (number-after (n + count_of t r) rs (j - count_of t r) s k)
    where
      cases : (b : Bool) → ltb j (count_of t r) ≡ b → (drop (j - count_of t r) (samples_after f t (n + count_of t r) rs) ≡ s ∷ k → s.number ≡ n + count_of t r + (j - count_of t r) + 1) → s.number ≡ n + j + 1
      cases true d ih =
          let h = ltb-true j (count_of t r) d in
          let m = length-mine f t n r in
          let a : drop j (mine f t r n) ++ samples_after f t (n + count_of t r) rs ≡ s ∷ k = sym (drop-append-le j (mine f t r n) (samples_after f t (n + count_of t r) rs) (omega (arith, h, m))) ∙ e in
          let c = head_of (drop j (mine f t r n)) (samples_after f t (n + count_of t r) rs) k s (omega (arith, h, m, length-drop j (mine f t r n))) a in
          number_at f r n j s (drop 1 (drop j (mine f t r n))) (sym (ap (drop j) (all-mine f t r n j h)) ∙ c)
      cases false d ih =
          let h = ltb-false j (count_of t r) d in
          let a : drop (j - length (mine f t r n)) (samples_after f t (n + count_of t r) rs) ≡ s ∷ k = sym (drop_past j (mine f t r n) (samples_after f t (n + count_of t r) rs) (omega (arith, h, length-mine f t n r))) ∙ e in
          omega (arith, ih (sym (ap (λ (c : ℕ). drop (j - c) (samples_after f t (n + count_of t r) rs)) (length-mine f t n r)) ∙ a), h)

  pub numbers-from-1 : (rs : List Run) (j : ℕ) (s : Sample) (k : List Sample) → drop j (samples_of_runs f rs t) ≡ s ∷ k → s.number ≡ j + 1
  numbers-from-1 rs j s k e = omega (arith, number-after 0 rs j s k e)

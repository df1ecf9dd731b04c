-- Parts that lie one behind the other: what is read where one stands. Assumes nothing.
use mathlib.Core.Path.{◌≡◌, refl, sym, ap, ap₂, ◌∙◌}
use mathlib.Core.List.{List, ◌++◌, append_assoc}
use Prim.Native.Nat.{ℕ, ◌+◌, ◌-◌, ◌^◌, ◌≤◌, ◌<◌}
use native.Mathlib.Nat.{mod-eq_of_lt}
use native.Mathlib.Omega.{arith}
use lib.ListN.{length, take, drop, length-append}
use lib.Seq.{take-append_seam, drop-append_seam}
use Rattle.numbers.specs.Number.{be, bytes}
use Rattle.numbers.specs.Field.{field}
use Rattle.numbers.specs.declared.Refusal.{Refusal}
use Rattle.numbers.proofs.Laws.{be-bytes, length-bytes}
use Rattle.numbers.proofs.Chain.{whole}
use Rattle.descriptors.specs.Descriptors.{span}

-- x lies at `at`, between what is before it and what is behind it
abbrev pub Lies : List ℕ → List ℕ → List ℕ → List ℕ → ℕ → Type 0
Lies b pre x rest at = (b ≡ pre ++ (x ++ rest)) × (at ≡ length pre)

-- the next part lies behind this one
pub next : (b pre x y rest : List ℕ) (at n : ℕ) → Lies b pre x (y ++ rest) at → n ≡ length x → Lies b (pre ++ x) y rest (at + n)
next b pre x y rest at n h e = (h.0 ∙ sym (append_assoc pre x (y ++ rest)), omega (arith, h.1, e, length-append pre x))

-- all of it, where two parts are one
pub split : (b pre x y rest : List ℕ) (at : ℕ) → Lies b pre (x ++ y) rest at → Lies b pre x (y ++ rest) at
split b pre x y rest at h = (h.0 ∙ ap (λ l. pre ++ l) (append_assoc x y rest), h.1)

pub in-it : (b pre x rest : List ℕ) (at : ℕ) → Lies b pre x rest at → at + length x + length rest ≡ length b
in-it b pre x rest at h = omega (arith, ap length h.0, h.1, length-append pre (x ++ rest), length-append x rest)

-- a number is read there, in a reader of any answer
pub number-back : {A : Type 0} (refused : Refusal → A) (w n : ℕ) (b pre rest : List ℕ) (at : ℕ) → Lies b pre (bytes w n) rest at → n < 256 ^ w → (go : ℕ → A) → field refused w b at go ≡ go n
number-back refused w n b pre rest at h l go =
    sym (whole w b at refused go (go n) n
    (omega (arith, in-it b pre (bytes w n) rest at h, length-bytes w n))
    (sym (ap₂ (λ (l : List ℕ) (k : ℕ). be w l k) h.0 h.1 ∙ be-bytes w n pre rest ∙ mod-eq_of_lt l)) refl)

pub span-back : (b pre x rest : List ℕ) (from to : ℕ) → Lies b pre x rest from → to ≡ from + length x → span b from to ≡ x
span-back b pre x rest from to h e =
    ap (λ n. take n (drop from b)) (let z : to - from ≡ length x = omega (arith, e) in z)
    ∙ ap₂ (λ (l : List ℕ) (n : ℕ). take (length x) (drop n l)) h.0 h.1
    ∙ ap (take (length x)) (drop-append_seam pre (x ++ rest)) ∙ take-append_seam x rest

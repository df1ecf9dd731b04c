-- A quotient of two values of a format, neither of them below 0, is what their fractions give. Assumes nothing.
use mathlib.Core.Path.{◌≡◌, sym, ap, ◌∙◌, subst}
use Prim.Native.Nat.{ℕ, ◌*◌, ◌<◌}
use native.Mathlib.Nat.{mul_comm, mul-mul-mul_comm, mul-pos}
use native.Mathlib.Omega.{arith}
use mathlib.Core.Bool.{Bool, true, false, cond}
use lib.Dec.{T, eqb}
use lib.Ieee.{Float, nan, inf, fin, Format, up, down, round, div}
use lib.Ieee.Exact.{HasValue}
use lib.Ieee.Fits.{up_pos, down_pos}
use lib.Ieee.Scale.{round_same}
use lib.Ieee.Positive.{first_pos}
use borrow.Author.Tests.{ne_eqb}

-- x is a / c and y is b / d, by any such fractions
pub div-at : (f : Format) (x y : Float) (a c b d : ℕ) → 0 < c → 0 < b → 0 < d → HasValue x false a c → HasValue y false b d →
    div f x y ≡ round f false (a * d) (c * b)
unfolding div
div-at f nan y a c b d C B D h k = absurd h
div-at f (inf s) y a c b d C B D h k = absurd h
div-at f (fin true m e) y a c b d C B D h k = absurd (subst T h.0 tt)
div-at f (fin false m e) nan a c b d C B D h k = absurd k
div-at f (fin false m e) (inf t) a c b d C B D h k = absurd k
div-at f (fin false m e) (fin true n g) a c b d C B D h k = absurd (subst T k.0 tt)
div-at f (fin false m e) (fin false n g) a c b d C B D h k =
    let x = m * up e in
    let y = n * up g in
    let any : 0 < n = first_pos n (up g) (first_pos y d (subst (λ (z : ℕ). 0 < z) (sym k.1) (mul-pos B (down_pos g)))) in
    let some : n ≡ 0 → ⊥ = λ z. omega arith in
    ap (λ (z : Bool). cond z (cond (eqb m 0) nan (inf false)) (round f false (x * down g) (y * down e))) (ne_eqb n 0 some)
    ∙ round_same f false (x * down g) (y * down e) (a * d) (c * b) (mul-pos (mul-pos any (up_pos g)) (down_pos e)) (mul-pos C B)
    (mul-mul-mul_comm x (down g) c b
    ∙ ap (λ (z : ℕ). z * (down g * b)) h.1
    ∙ ap (λ (z : ℕ). a * down e * z) (mul_comm (down g) b ∙ sym k.1 ∙ mul_comm y d)
    ∙ mul-mul-mul_comm a (down e) d y
    ∙ ap (λ (z : ℕ). a * d * z) (mul_comm (down e) y))

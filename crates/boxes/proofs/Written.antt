-- Numbers written one after the other are one run of bytes. Assumes nothing.
use Rattle.std.specs.Prelude.{Result, Ok}
use mathlib.Core.Path.{◌≡◌, refl, sym, ap, ap₂, ◌∙◌}
use mathlib.Core.List.{List, [], ◌∷◌, ◌++◌}
use Prim.Native.Nat.{ℕ, zero, suc, ◌+◌, ◌*◌, ◌/◌, ◌%◌, ◌^◌, ◌≤◌, ◌<◌}
use native.Mathlib.Nat.{add-zero, zero-add, suc-add, mul_comm, mul-add-div_right, div-eq_of_lt, div-div-eq-div-mul, mul-le-mul_right, suc-mul}
use native.Mathlib.Omega.{arith}
use lib.Pow.{pow-add}
use lib.ListN.{length, set}
use lib.Seq.{sets, length-sets}
use Rattle.numbers.specs.Number.{bytes}
use Rattle.numbers.specs.Field.{when, widest}
use Rattle.numbers.proofs.Laws.{bytes-join, length-bytes}
use Rattle.numbers.proofs.Chain.{is_le, not-le, is_lt, not-lt}
use Rattle.put.specs.Put.{Wrote, wrote, placed, put_of}
use Rattle.put.proofs.Stores.{sets-append}
use Rattle.put.proofs.Placed.{done}
use Rattle.numbers.specs.declared.Refusal.{Refusal}

below : (m n a b : ℕ) → a < 256 ^ m → b < 256 ^ n → a * 256 ^ n + b < 256 ^ (m + n)
below m n a b h g =
    let k : suc a * 256 ^ n ≤ 256 ^ m * 256 ^ n = mul-le-mul_right (256 ^ n) h in
    let e : suc a * 256 ^ n ≡ a * 256 ^ n + 256 ^ n = suc-mul a (256 ^ n) in
    rw (pow-add 256 m n) (omega arith)

-- two numbers written as one
pub as_one : (m n a b at : ℕ) (buf : List ℕ) → m + n ≤ widest → a < 256 ^ m → b < 256 ^ n → put_of (m + n) (a * 256 ^ n + b) at buf ≡ placed (bytes m a ++ bytes n b) (m + n) at buf
as_one m n a b at buf l h g =
    sym (is_le _ _ _ (m + n) widest l (is_lt _ _ _ (a * 256 ^ n + b) (256 ^ (m + n)) (below m n a b h g) (ap (λ s. placed s (m + n) at buf) (sym (bytes-join m n a b g)))))

-- two numbers of 8 bytes, the second after the first
pub two : (x y at : ℕ) (buf one-after two-after : List ℕ) (r q : Result ℕ Refusal) → x < 256 ^ 8 → y < 256 ^ 8 → at + 16 ≤ length buf → wrote r one-after ≡ put_of 8 x at buf → wrote q two-after ≡ put_of 8 y (at + 8) one-after →
    wrote q two-after ≡ placed (bytes 8 x ++ bytes 8 y) 16 at buf
two x y at buf one-after two-after r q a b h e f =
    let first : one-after ≡ sets buf at (bytes 8 x) = cc (e ∙ sym (done 8 x at buf (omega arith) a (omega arith))) in
    let long : length one-after ≡ length buf = ap length first ∙ length-sets buf at (bytes 8 x) in
    let second : two-after ≡ sets one-after (at + 8) (bytes 8 y) = cc (f ∙ sym (done 8 y (at + 8) one-after (omega arith) b (omega arith))) in
    let both : two-after ≡ sets buf at (bytes 8 x ++ bytes 8 y) =
    second ∙ ap (λ s. sets s (at + 8) (bytes 8 y)) first ∙ ap (λ k. sets (sets buf at (bytes 8 x)) (at + k) (bytes 8 y)) (sym (length-bytes 8 x)) ∙ sets-append buf at (bytes 8 x) (bytes 8 y) in
    let told : q ≡ Ok (at + 8 + 8) = cc (f ∙ sym (done 8 y (at + 8) one-after (omega arith) b (omega arith))) in
    let there : at + 8 + 8 ≡ at + 16 = omega arith in
    is_le _ _ _ (at + 16) (length buf) h (ap₂ (λ (r : Result ℕ Refusal) (l : List ℕ). wrote r l) (told ∙ ap Ok there) both)

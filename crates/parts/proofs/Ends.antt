-- What is asked for behind the last byte is not there. Assumes nothing.
use mathlib.Core.Path.{◌≡◌, sym, ap, ◌∙◌}
use mathlib.Core.List.{List, [], ◌∷◌}
use Prim.Native.Nat.{ℕ, zero, suc, ◌-◌, ◌≤◌}
use native.Mathlib.Omega.{arith}
use lib.ListN.{length, take, drop, length-drop}
use lib.Seq.{take_all, take-nil, drop-nil}

drop-out : (s : List ℕ) (n : ℕ) → length s ≤ n → drop n s ≡ []
drop-out [] n h = drop-nil n
drop-out (x ∷ s) zero h = absurd (omega arith)
drop-out (x ∷ s) (suc n) h = drop-out s n (omega arith)

pub none-there : (s : List ℕ) (start size : ℕ) → length s ≤ start → [] ≡ take size (drop start s)
none-there s start size h = sym (ap (take size) (drop-out s start h) ∙ take-nil size)

pub rest-there : (s : List ℕ) (start size : ℕ) → length s - start ≤ size → take (length s - start) (drop start s) ≡ take size (drop start s)
rest-there s start size h =
    take_all (length s - start) (drop start s) (omega (arith, length-drop start s))
    ∙ sym (take_all size (drop start s) (omega (arith, length-drop start s)))

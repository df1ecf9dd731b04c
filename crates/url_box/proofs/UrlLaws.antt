-- url: what is written reads back the same, and a canonical box gives its own bytes. Assumes nothing.
use Rattle.std.specs.Prelude.{Ok}
use mathlib.Core.Path.{◌≡◌, refl}
use mathlib.Core.List.{List, ◌++◌}
use Prim.Native.Nat.{ℕ, ◌≤◌}
use native.Mathlib.Omega.{arith}
use lib.ListN.{length, take, drop}
use Rattle.numbers.specs.Field.{when}
use Rattle.put.specs.Put.{wrote}
use Rattle.layout.specs.Rule.{rule_of}
use Rattle.layout.specs.Canonical.{slots, firsts, Canonical}
use Rattle.rounds.proofs.TailBoxes.{tail-back, tail-own}
use Rattle.url_box.specs.Url.{kind, fields, from, to, url_of, location_of, url_in}
use Rattle.url_box.specs.declared.Url.{Url}

pub url-back : (m : Url) (location buf : List ℕ) (n : ℕ) (out : List ℕ) → url_in m location buf ≡ wrote (Ok n) out → (url_of (take n out) ≡ Ok m) × (location_of (take n out) ≡ location)
unfolding slots firsts rule_of when
url-back = tail-back from to kind fields (omega arith) (λ m. refl)

pub url-own : (b : List ℕ) (k : ℕ) → Canonical kind fields k b → (m : Url) → url_of b ≡ Ok m → (buf : List ℕ) → length b ≤ length buf →
    url_in m (location_of b) buf ≡ wrote (Ok (length b)) (b ++ drop (length b) buf)
unfolding slots firsts rule_of when
url-own = tail-own from to kind fields (λ v. refl) (omega arith)

-- A box around its children: what is written gives the same children back, and a canonical box gives its own bytes.
-- Assumes nothing.
use Rattle.std.specs.Prelude.{Ok}
use mathlib.Core.Path.{◌≡◌, refl}
use mathlib.Core.List.{List, ◌++◌}
use Prim.Native.Nat.{ℕ, ◌≤◌, ◌<◌}
use native.Mathlib.Omega.{arith}
use lib.ListN.{length, take, drop}
use Rattle.numbers.specs.Field.{when}
use Rattle.put.specs.Put.{wrote}
use Rattle.layout.specs.Rule.{rule_of}
use Rattle.layout.specs.Read.{zeros}
use Rattle.layout.specs.Canonical.{slots, firsts, Canonical}
use Rattle.rounds.proofs.Boxes.{fields_in, own_read}
use Rattle.rounds.proofs.TailBoxes.{rest_back, rest-own}
use Rattle.children.specs.Children.{fields, content_of, container_in}

pub content-back : (kind : ℕ) → kind < 4294967296 → (children buf : List ℕ) (n : ℕ) (out : List ℕ) → container_in kind children buf ≡ wrote (Ok n) out → content_of kind (take n out) ≡ children
content-back kind h = rest_back kind fields h (zeros 24)

pub content-own : (kind : ℕ) (b : List ℕ) (k : ℕ) → Canonical kind fields k b → (buf : List ℕ) → length b ≤ length buf → container_in kind (content_of kind b) buf ≡ wrote (Ok (length b)) (b ++ drop (length b) buf)
unfolding slots firsts rule_of when
content-own kind b k c buf h = rest-own kind fields (omega arith) b k c (fields_in (length b) c.end c.values) (own_read kind fields k b c) (zeros 24) buf refl h

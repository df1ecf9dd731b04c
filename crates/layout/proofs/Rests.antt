-- What lies behind the fields of a box. Assumes nothing.
use Rattle.std.specs.Prelude.{Result, Ok, Err}
use mathlib.Core.Path.{◌≡◌, sym, ap}
use mathlib.Core.List.{List, []}
use mathlib.Core.Bool.{Bool, true, false}
use Prim.Native.Nat.{ℕ, ◌-◌, ◌≤◌}
use native.Mathlib.Omega.{arith}
use lib.ListN.{length, length-take, take, drop}
use mathlib.Core.Logic.{⊎_elim}
use lib.Dec.{eqb}
use Rattle.numbers.specs.Field.{when}
use Rattle.numbers.proofs.Chain.{way}
use Rattle.boxes.specs.Header.{header_of}
use Rattle.layout.specs.Read.{Got, got, fault, decode, fields_of, headed, read_of, rest_of, zeros}
use Rattle.layout.specs.declared.Field.{Field}
use Rattle.layout.specs.declared.read.Fields.{Fields}
use Rattle.boxes.specs.declared.header.Header.{Header}
use Rattle.numbers.specs.declared.Refusal.{Refusal}

-- a box that is read ends in the part that is lent
pub end-in : (kind : ℕ) (fs : List Field) (b : List ℕ) (f : Fields) → read_of kind fs b ≡ Ok f → f.end ≤ length b
end-in kind fs b f e = by (header_of b 0 true) e
  where
    got-end : (s : List ℕ) (g : Got) → length s ≤ length b → fields_of (length s) (zeros 24) 0 g ≡ Ok f → f.end ≤ length b
    got-end s (got vs p) h q = let z : f.end ≡ length s = cc q in omega (arith, h, z)
    got-end s (fault r) h q = let z : ◌≡◌ {A = ℕ} 0 1 = cc q in absurd (omega arith)

    by : (h : Result Header Refusal) → headed kind fs b h ≡ Ok f → f.end ≤ length b
    by (Ok h) q =
        ⊎_elim (λ y. got-end (take h.size b) (decode fs (take h.size b) h.length 0 0) (omega (arith, length-take h.size b)) y.1)
        (λ y. let z : ◌≡◌ {A = ℕ} 0 1 = cc y.1 in absurd (omega arith))
        (way (eqb h.kind kind) _ _ _ q)
    by (Err r) q = let z : ◌≡◌ {A = ℕ} 0 1 = cc q in absurd (omega arith)

-- a box that ends before its fields do has no bytes behind them
pub no-rest : (f : Fields) (b : List ℕ) → f.end ≤ f.place → [] ≡ rest_of (Ok f) b
no-rest f b h = sym (ap (λ n. take n (drop f.place b)) (let z : f.end - f.place ≡ 0 = omega (arith, h) in z))

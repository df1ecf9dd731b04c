-- A sample's values, one after the other: where one is refused, and where all are there. Assumes nothing.
use Rattle.std.specs.Prelude.{Result, Ok, Err}
use mathlib.Core.Path.{◌≡◌, refl, ap, ap₂, ◌∙◌}
use mathlib.Core.List.{List}
use mathlib.Core.Bool.{Bool, true, false}
use Prim.Native.Nat.{ℕ, ◌+◌, ◌*◌}
use native.Mathlib.Omega.{arith}
use lib.IntN.{ℤ}
use Rattle.numbers.specs.Field.{field, when}
use Rattle.numbers.specs.declared.Refusal.{Refusal}
use Rattle.numbers.proofs.Chain.{by-result, has, has-not}
use Rattle.layout.specs.Rule.{is_set}
use Rattle.trun.specs.Trun.{present, optional, composition_of, sample_at, duration_bit, size_bit, flags_bit, composition_bit}

-- what was read of a value at p, where it lies at `at`
module _ (flags bit : ℕ) (s : List ℕ) (p at : ℕ) (lies : p ≡ at) (r : Result ℕ Refusal) (e : r ≡ optional Err flags bit s p Ok) where
  value-is : {A : Type 0} (away : Refusal → A) (go : ℕ → A) (x : A) (n : ℕ) → r ≡ Ok n → x ≡ go n → x ≡ optional away flags bit s at go
  unfolding optional when
  value-is away go x n f q = by (is_set flags bit) e ∙ ap (λ k. optional away flags bit s k go) lies
    where
      by : (t : Bool) → r ≡ when t (field Err 4 s p Ok) (Ok 0) → x ≡ when t (field away 4 s p go) (go 0)
      by true d = has by-result 4 s p r d away go x n f q
      by false d = let z : n ≡ 0 = cc (d, f) in q ∙ ap go z

  value-not : {A : Type 0} (away : Refusal → A) (go : ℕ → A) (q : Refusal) → r ≡ Err q → away q ≡ optional away flags bit s at go
  unfolding optional when
  value-not away go q f = by (is_set flags bit) e ∙ ap (λ k. optional away flags bit s k go) lies
    where
      by : (t : Bool) → r ≡ when t (field Err 4 s p Ok) (Ok 0) → away q ≡ when t (field away 4 s p go) (go 0)
      by true d = has-not by-result 4 s p r d away go (away q) q f refl
      by false d = let z : ◌≡◌ {A = ℕ} 0 1 = cc (d, f) in absurd (omega arith)

-- r is what was read of a flag's value at p
abbrev pub Read : ℕ → ℕ → List ℕ → ℕ → Result ℕ Refusal → Type 0
Read flags bit s p r = r ≡ optional Err flags bit s p Ok

module _ (version flags : ℕ) (s : List ℕ) (at p : ℕ) (lies : p ≡ at) (r : Result ℕ Refusal) (read : Read flags duration_bit s p r) where
  pub no-duration : (q : Refusal) → r ≡ Err q → Err q ≡ sample_at version flags s at
  no-duration q f = value-not flags duration_bit s p at lies r read _ _ q f

  module _ (d : ℕ) (was : r ≡ Ok d) (w : ℕ) (wide : w ≡ present flags duration_bit)
      (r' : Result ℕ Refusal) (read' : Read flags size_bit s (p + w * 4) r') where
    lies' : p + w * 4 ≡ at + present flags duration_bit * 4
    lies' = ap₂ (λ (a b : ℕ). a + b * 4) lies wide

    pub no_size : (q : Refusal) → r' ≡ Err q → Err q ≡ sample_at version flags s at
    no_size q f =
        value-is flags duration_bit s p at lies r read _ _ _ d was
        (value-not flags size_bit s _ _ lies' r' read' _ _ q f)

    module _ (z : ℕ) (was' : r' ≡ Ok z) (w' : ℕ) (wide' : w' ≡ present flags size_bit)
        (r'' : Result ℕ Refusal) (read'' : Read flags flags_bit s (p + w * 4 + w' * 4) r'') where
      lies'' : p + w * 4 + w' * 4 ≡ at + present flags duration_bit * 4 + present flags size_bit * 4
      lies'' = ap₂ (λ (a b : ℕ). a + b * 4) lies' wide'

      pub no-flags : (q : Refusal) → r'' ≡ Err q → Err q ≡ sample_at version flags s at
      no-flags q f =
          value-is flags duration_bit s p at lies r read _ _ _ d was
          (value-is flags size_bit s _ _ lies' r' read' _ _ _ z was'
          (value-not flags flags_bit s _ _ lies'' r'' read'' _ _ q f))

      module _ (f : ℕ) (was'' : r'' ≡ Ok f) (w'' : ℕ) (wide'' : w'' ≡ present flags flags_bit)
          (r''' : Result ℕ Refusal) (read''' : Read flags composition_bit s (p + w * 4 + w' * 4 + w'' * 4) r''') where
        lies''' : p + w * 4 + w' * 4 + w'' * 4 ≡ at + present flags duration_bit * 4 + present flags size_bit * 4 + present flags flags_bit * 4
        lies''' = ap₂ (λ (a b : ℕ). a + b * 4) lies'' wide''

        pub no-composition : (q : Refusal) → r''' ≡ Err q → Err q ≡ sample_at version flags s at
        no-composition q g =
            value-is flags duration_bit s p at lies r read _ _ _ d was
            (value-is flags size_bit s _ _ lies' r' read' _ _ _ z was'
            (value-is flags flags_bit s _ _ lies'' r'' read'' _ _ _ f was''
            (value-not flags composition_bit s _ _ lies''' r''' read''' _ _ q g)))

        pub is-sample : (o : ℕ) → r''' ≡ Ok o → (c : ℤ) → c ≡ composition_of version o →
            Ok (record { duration = d; size = z; flags = f; composition_offset = c }) ≡ sample_at version flags s at
        is-sample o was''' c e =
            value-is flags duration_bit s p at lies r read _ _ _ d was
            (value-is flags size_bit s _ _ lies' r' read' _ _ _ z was'
            (value-is flags flags_bit s _ _ lies'' r'' read'' _ _ _ f was''
            (value-is flags composition_bit s _ _ lies''' r''' read''' _ _ _ o was'''
            (ap (λ k. Ok (record { duration = d; size = z; flags = f; composition_offset = k })) e))))

-- Each promise fixes one answer, and the record with it: two that meet it are equal. Stated on the promise itself, but for
-- `add`, whose record is lent: there on the equation that it ensures. Assumes nothing.
use Rattle.std.specs.Prelude.{Result}
use mathlib.Core.Path.{◌≡◌, sym, ◌∙◌}
use Prim.Native.Nat.{ℕ}
use Rattle.record.specs.Growth.{outcome, outcome_of}
use Rattle.record.specs.declared.Track.{Track}
use Rattle.record.proofs.added.Reads as added
use Rattle.record.proofs.all.Reads as all
use Rattle.numbers.specs.declared.Refusal.{Refusal}

added-fixed : (κs : _) (a : _) (r q : _) (s t : _) → added.Post κs a r s → added.Post κs a q t → r ≡ q
added-fixed κs a r q s t p o = p ∙ sym o

all-fixed : (κs : _) (a : _) (r q : _) (s t : _) → all.Post κs a r s → all.Post κs a q t → r ≡ q
all-fixed κs a r q s t p o = p ∙ sym o

add-fixed : (t : Track) (size duration : ℕ) (r q : Result (Unit {0}) Refusal) (x y : Track) → outcome r x ≡ outcome_of t size duration → outcome q y ≡ outcome_of t size duration → (r ≡ q) × (x ≡ y)
add-fixed t size duration r q x y p o =
    let e : outcome r x ≡ outcome q y = p ∙ sym o in
    (cc, cc)

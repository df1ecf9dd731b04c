-- The moofs of fragments: their runs as the trafs that they are of. Assumes nothing.
use Rattle.std.specs.Prelude.{ℕ, List, [], ◌∷◌}
use Rattle.moofs.specs.Moofs.{Fragment}
use Rattle.verdicts.specs.Fragments.{Moof}
use Rattle.follows.specs.Follows.{as_trafs}

abbrev pub moofs_of : List ℕ → List Fragment → List Moof
moofs_of f [] = []
moofs_of f (x ∷ xs) = record { start = x.start; number = x.number; trafs = as_trafs f x.runs } ∷ moofs_of f xs

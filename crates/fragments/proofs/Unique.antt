-- Each promise fixes what is told: a lane that begins is one lane; an answer of `next` is fixed in its sample and in
-- what the lane after it has left. Stated on the promises themselves. Assumes nothing.
use Prim.Native.Nat.{ℕ}
use mathlib.Core.Path.{◌≡◌, sym, ap, ◌∙◌}
use mathlib.Core.List.{List}
use Rattle.samples.specs.declared.Sample.{Sample}
use Rattle.samples.specs.Lists.{view}
use Rattle.runs.specs.declared.Run.{Run}
use Rattle.runtable.specs.Table.{rows_of}
use Rattle.fragments.specs.Lane.{left, shows}
use Rattle.fragments.specs.declared.Lane.{Lane}
use Rattle.fragments.specs.declared.Taken.{Taken}
use Rattle.fragments.specs.declared.Taken.TheVariants as taken
use Rattle.fragments.proofs.start.Reads as fragments-start
use Rattle.fragments.proofs.next.Reads as fragments-next

start-fixed : (κs : _) (a : _) (r q : _) (s t : _) → fragments-start.Post κs a r s → fragments-start.Post κs a q t → r ≡ q
start-fixed κs a r q s t p o = p ∙ sym o

next-fixed : (κs : _) (a : _) (r q : _) (s t : _) → fragments-next.Post κs a r s → fragments-next.Post κs a q t
    → shows a.0.now (rows_of a.1.0.now a.1.1.0) a.1.1.1.0 r ≡ shows a.0.now (rows_of a.1.0.now a.1.1.0) a.1.1.1.0 q
next-fixed κs a r q s t p o = p ∙ sym o

-- nor do answers tell two lanes apart that have the same left
next-alike : (f : List ℕ) (rs : List Run) (t : ℕ) (l k : Lane) (r q : Taken) → left f rs t l ≡ left f rs t k → shows f rs t r ≡ view (left f rs t l) → shows f rs t q ≡ view (left f rs t k) → shows f rs t r ≡ shows f rs t q
next-alike f rs t l k r q e p o = p ∙ ap view e ∙ sym o

-- what that says of two answers with a sample: the samples are equal, and so is what is left
one-fixed : (f : List ℕ) (rs : List Run) (t : ℕ) (s q : Sample) (l k : Lane) → shows f rs t (taken.One s l) ≡ shows f rs t (taken.One q k) → (s ≡ q) × (left f rs t l ≡ left f rs t k)
one-fixed f rs t s q l k e = (cc, cc)

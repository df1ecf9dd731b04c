-- Each promise fixes what is told: a lane that begins is one lane; an answer of `next` is fixed in its sample and in
-- what the lane after it has left. Stated on the promises themselves. Assumes nothing.
use mathlib.Core.Path.{◌≡◌, sym, ap, ◌∙◌}
use mathlib.Core.List.{List}
use native.Mathlib.Omega.{arith}
use Prim.Native.Nat.{ℕ}
use Rattle.samples.specs.Lists.{view}
use Rattle.lanes.specs.Lane.{left, shows}
use Rattle.tables.specs.declared.Track.{Track}
use Rattle.samples.specs.declared.Sample.{Sample}
use Rattle.lanes.specs.declared.Lane.{Lane}
use Rattle.lanes.specs.declared.Taken.{Taken}
use Rattle.lanes.specs.declared.Taken.TheVariants as taken
use Rattle.lanes.proofs.start.Reads as lanes_start
use Rattle.lanes.proofs.next.Reads as lanes_next
use Rattle.lanes.specs.Site as site
use Rattle.lanes.specs.declared.site.Site.{Site}
use Rattle.lanes.specs.declared.site.Stood.TheVariants as stood
use Rattle.lanes.proofs.site.start.Reads as site-start
use Rattle.lanes.proofs.site.next.Reads as site-next

start-fixed : (κs : _) (a : _) (r q : _) (s t : _) → lanes_start.Post κs a r s → lanes_start.Post κs a q t → r ≡ q
start-fixed κs a r q s t p o = p ∙ sym o

next-fixed : (κs : _) (a : _) (r q : _) (s t : _) → lanes_next.Post κs a r s → lanes_next.Post κs a q t → shows a.0.now a.1.0 r ≡ shows a.0.now a.1.0 q
next-fixed κs a r q s t p o = p ∙ sym o

-- nor do answers tell two lanes apart that have the same left
next-alike : (f : List ℕ) (t : Track) (l k : Lane) (r q : Taken) → left f t l ≡ left f t k → shows f t r ≡ view (left f t l) → shows f t q ≡ view (left f t k) → shows f t r ≡ shows f t q
next-alike f t l k r q e p o = p ∙ ap view e ∙ sym o

-- what that says of two answers with a sample: the samples are equal, and so is what is left
one-fixed : (f : List ℕ) (t : Track) (s q : Sample) (l k : Lane) → shows f t (taken.One s l) ≡ shows f t (taken.One q k) → (s ≡ q) × (left f t l ≡ left f t k)
one-fixed f t s q l k e = (cc, cc)

-- and a sample is no end, an end no sample that is not held
one-no-end : (f : List ℕ) (t : Track) (s : Sample) (l : Lane) → shows f t (taken.One s l) ≡ shows f t taken.End → ⊥
one-no-end f t s l e = let z : ◌≡◌ {A = ℕ} 0 1 = cc in omega arith

one-no-over : (f : List ℕ) (t : Track) (s : Sample) (l : Lane) → shows f t (taken.One s l) ≡ shows f t taken.Over → ⊥
one-no-over f t s l e = let z : ◌≡◌ {A = ℕ} 0 1 = cc in omega arith

end-no-over : (f : List ℕ) (t : Track) → shows f t taken.End ≡ shows f t taken.Over → ⊥
end-no-over f t e = let z : ◌≡◌ {A = ℕ} 0 1 = cc in omega arith

-- the same of the cursor of places

site-start-fixed : (κs : _) (a : _) (r q : _) (s t : _) → site-start.Post κs a r s → site-start.Post κs a q t → r ≡ q
site-start-fixed κs a r q s t p o = p ∙ sym o

site-next-fixed : (κs : _) (a : _) (r q : _) (s t : _) → site-next.Post κs a r s → site-next.Post κs a q t → site.shows a.0.now a.1.0 r ≡ site.shows a.0.now a.1.0 q
site-next-fixed κs a r q s t p o = p ∙ sym o

site-one-fixed : (f : List ℕ) (t : Track) (n o z m p y : ℕ) (l k : Site) → site.shows f t (stood.One n o z l) ≡ site.shows f t (stood.One m p y k)
    → (site.sample n o z ≡ site.sample m p y) × (site.left f t l ≡ site.left f t k)
site-one-fixed f t n o z m p y l k e = (cc, cc)

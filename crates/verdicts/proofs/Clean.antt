-- What clean means, in both directions: the audit of payloads that lie in the order of the file is clean exactly where
-- the plain statements of specs/Meaning.antt hold. And what follows from it. Assumes nothing.
use Prim.Native.Nat.{ℕ, ◌+◌, ◌<◌}
use mathlib.Core.Path.{◌≡◌, refl, sym, ◌∙◌, ap}
use mathlib.Core.Logic.{◌↔◌}
use mathlib.Core.List.{List, [], ◌∷◌, ◌++◌}
use native.Mathlib.Omega.{arith}
use lib.ListN.{length}
use Rattle.samples.specs.declared.Sample.{Sample}
use Rattle.verdicts.specs.Findings.{Track, samples_of, Span, Answer, passes, found, first_found}
use Rattle.verdicts.specs.declared.Finding.{Finding}
use Rattle.verdicts.specs.Sweep.{total, bytes, sweep}
use Rattle.verdicts.specs.Fragments.{Moof, follow}
use Rattle.verdicts.specs.Audit.{agreements, passed, questions, verdict, audit_of}
use Rattle.verdicts.specs.Meaning.{All, Neighbours, NeighboursIn, Good, Lasts, Next, Later, InOrder, CleanFile, sizes_of}
use Rattle.verdicts.specs.declared.Verdict.TheVariants.{Clean, Found}
use Rattle.verdicts.proofs.Laws.{all-map₂, alls-map, all_join, all_split}
use Rattle.verdicts.proofs.Sound.{sweep_sound}
use Rattle.verdicts.proofs.Complete.{sweep-complete}
use Rattle.verdicts.proofs.Passing.{Passing, all_pass, pass_all, agree-sound, agree-complete, pass-sound, pass-complete}
use Rattle.verdicts.proofs.Following.{follow-sound, follow-complete}
use Rattle.verdicts.proofs.Sizes.{covered-bytes}

not-clean : (f : Finding) (a b c : ℕ) → Found f ≡ Clean a b c → ⊥
not-clean f a b c e = let z : ◌≡◌ {A = ℕ} 0 1 = cc in omega arith

module _ (ts : List Track) (m : List Span) (fs : List Moof) where
  clean-passes : (a b c : ℕ) (x : Answer) → verdict ts m x ≡ Clean a b c → x ≡ passes
  clean-passes a b c passes e = refl
  clean-passes a b c (found f) e = absurd (not-clean f a b c e)

  sound : InOrder m → All Passing (questions ts m fs) → CleanFile ts m fs
  unfolding questions
  sound o h =
      let j = all_split Passing (agreements ts) (passed ts ++ (sweep m ts ∷ follow ts fs)) h in
      let i = all_split Passing (passed ts) (sweep m ts ∷ follow ts fs) j.1 in
      let p = pass-sound ts i.0 in
      let f = follow-sound ts fs i.1.1 in
      record {
        agree = agree-sound ts j.0;
        media = sweep_sound m ts o p.0 i.1.0;
        lasting = p.1;
        numbers = f.0;
        times = f.1;
      }

  complete : InOrder m → CleanFile ts m fs → All Passing (questions ts m fs)
  unfolding questions
  complete o h =
      all_join Passing (agreements ts) (passed ts ++ (sweep m ts ∷ follow ts fs)) (agree-complete ts h.agree)
      (all_join Passing (passed ts) (sweep m ts ∷ follow ts fs)
      (pass-complete ts (alls-map (Good m) (λ s. 0 < s.size) (λ s g. g.0) ts h.media.whole) h.lasting)
      (sweep-complete m ts o h.media, follow-complete ts fs h.numbers h.times))

  -- whatever numbers it tells
  pub audit-sound : (a b c : ℕ) → InOrder m → audit_of ts m fs ≡ Clean a b c → CleanFile ts m fs
  unfolding audit_of
  audit-sound a b c o e = sound o (all_pass (questions ts m fs) (clean-passes a b c (first_found (questions ts m fs)) e))

  pub audit-complete : InOrder m → CleanFile ts m fs → audit_of ts m fs ≡ Clean (length ts) (total ts) (bytes m)
  unfolding audit_of
  audit-complete o h = ap (verdict ts m) (pass_all (questions ts m fs) (complete o h))

  pub audit-clean : InOrder m → (audit_of ts m fs ≡ Clean (length ts) (total ts) (bytes m)) ↔ CleanFile ts m fs
  audit-clean o = (audit-sound (length ts) (total ts) (bytes m) o, audit-complete o)

  -- the numbers that clean tells are the tracks, the samples and the media bytes
  pub audit-numbers : (a b c : ℕ) → audit_of ts m fs ≡ Clean a b c → Clean a b c ≡ Clean (length ts) (total ts) (bytes m)
  unfolding audit_of
  audit-numbers a b c e = sym e ∙ ap (verdict ts m) (clean-passes a b c (first_found (questions ts m fs)) e)

  -- and the sizes of all samples add up to the media bytes
  pub audit-bytes : (a b c : ℕ) → InOrder m → audit_of ts m fs ≡ Clean a b c → sizes_of ts ≡ bytes m
  audit-bytes a b c o e = covered-bytes m ts o (audit-sound a b c o e).media

-- DECODE TIMES: where each sample comes when the one before it is over, no duration before the last is 0 exactly where
-- times strictly rise

rising : (l : List Sample) → Neighbours Next l → Neighbours Lasts l → Neighbours Later l
rising [] t h = tt
rising (s ∷ []) t h = (tt, tt)
rising (s ∷ u ∷ l) t h = (omega (arith, t.0, h.0), rising (u ∷ l) t.1 h.1)

moving : (l : List Sample) → Neighbours Next l → Neighbours Later l → Neighbours Lasts l
moving [] t h = tt
moving (s ∷ []) t h = (tt, tt)
moving (s ∷ u ∷ l) t h = (omega (arith, t.0, h.0), moving (u ∷ l) t.1 h.1)

abbrev Of : (Sample → Sample → Type 0) → Track → Type 0
Of R t = Neighbours R (samples_of t)

pub lasting-rises : (ts : List Track) → NeighboursIn Next ts → NeighboursIn Lasts ts ↔ NeighboursIn Later ts
lasting-rises ts n = (
  all-map₂ (Of Next) (Of Lasts) (Of Later) (λ t. rising (samples_of t)) ts n,
  all-map₂ (Of Next) (Of Later) (Of Lasts) (λ t. moving (samples_of t)) ts n,
)

-- decode times of a clean file strictly rise
pub audit-rises : (ts : List Track) (m : List Span) (fs : List Moof) (a b c : ℕ) → InOrder m → NeighboursIn Next ts → audit_of ts m fs ≡ Clean a b c
    → NeighboursIn Later ts
audit-rises ts m fs a b c o n e = (lasting-rises ts n).0 (audit-sound ts m fs a b c o e).lasting

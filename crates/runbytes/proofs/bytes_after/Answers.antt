use Prim.Native.Nat.{◌+◌}
use mathlib.Core.Path.{refl, sym, ap, ◌∙◌}
use Rattle.runlookup.proofs.Counts.{nothing-added}
use Rattle.runlookup.specs.Lookup.{bytes_of_run}
use Rattle.runs.specs.Samples.{end_by}
use Rattle.numbers.proofs.Chain.{is_eq}
use Rattle.runbytes.proofs.bytes_after.Goals as goal

pub returns-then-track-run : goal.returns-then-track-run
unfolding bytes_of_run
returns-then-track-run c =
    c.reach.ensures ∙ ap (λ k. end_by (c.args.from + k)) (is_eq _ _ _ _ _ (sym c.if-track-run.true) refl)

pub returns : goal.returns
returns c =
    nothing-added c.args.file.now c.args.track c.args.from c.args.run (λ e. c.if-track-run.false (sym e)) c.ranges.from.fits

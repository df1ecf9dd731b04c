use mathlib.Core.Path.{sym, ◌∙◌}
use borrow.Author.Tests.{leb-true, leb-false}
use Rattle.tables.specs.Samples.{samples_of}
use Rattle.lookup.proofs.Cases.{zero-absent, past-absent, no_size, no-time, no_place, some-before, looked-up}
use Rattle.locate.proofs.sample.Goals as goal

pub returns-then-number-eq0 : goal.returns-then-number-eq0
returns-then-number-eq0 c =
    zero-absent (samples_of c.args.file.now c.args.track) _ c.if-number-eq0.true

pub returns-then-uncounted : goal.returns-then-uncounted
returns-then-uncounted c =
    past-absent (samples_of c.args.file.now c.args.track) _ c.if-number-eq0.false (no_size c.args.file.now c.args.track _ c.if-number-eq0.false (leb-true _ _ (sym c.uncounted.ensures ∙ c.if-uncounted.true)))

pub returns-in_default : goal.returns-in_default
returns-in_default c =
    past-absent (samples_of c.args.file.now c.args.track) _ c.if-number-eq0.false (no-time c.args.file.now c.args.track _ c.if-number-eq0.false _ c.pairs.ensures _ c.value_at.ensures _ c.in_default.is)

pub returns-in_default-chunk_at : goal.returns-in_default-chunk_at
returns-in_default-chunk_at c =
    past-absent (samples_of c.args.file.now c.args.track) _ c.if-number-eq0.false (no_place c.args.file.now c.args.track _ c.if-number-eq0.false _ c.pairs.ensures _ c.value_at.ensures _ _ c.in-At.is _ c.groups.ensures _ c.chunk_at.ensures _ c.in_default-chunk_at.is)

pub overflow_sub-k-2 : goal.overflow_sub-k-2
overflow_sub-k-2 c =
    some-before c.args.file.now c.args.track _ c.if-number-eq0.false _ c.pairs.ensures _ c.value_at.ensures _ _ c.in-At.is _ c.groups.ensures _ c.chunk_at.ensures (leb-false _ _ (sym c.uncounted.ensures ∙ c.if-uncounted.false)) _ _ c.in-At-chunk_at.is

pub returns : goal.returns
returns c =
    looked-up c.args.file.now c.args.track _ c.if-number-eq0.false _ c.pairs.ensures _ c.value_at.ensures _ _ c.in-At.is _ c.groups.ensures _ c.chunk_at.ensures (leb-false _ _ (sym c.uncounted.ensures ∙ c.if-uncounted.false)) _ _ c.in-At-chunk_at.is _ _ _ _ c.size_at-size.ensures c.offset_at-first.ensures c.span-gone.ensures c.told.ensures

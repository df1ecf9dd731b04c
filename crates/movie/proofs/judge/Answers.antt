use Rattle.std.specs.Prelude.{Option}
use mathlib.Core.Path.{refl, ap, ap₂, ◌∙◌}
use native.Mathlib.Omega.{arith}
use lib.ListN.{take}
use Rattle.kin.specs.Kin.{boxes}
use Rattle.payloads.specs.Payloads.{payloads_from}
use Rattle.runtable.specs.Table.{rows_of}
use Rattle.mooftable.specs.Table as moof-rows
use Rattle.follows.specs.Follows.{followed_of}
use Rattle.movie.specs.Inside.{or_asked, told_of}
use Rattle.movie.proofs.Judging.{over-9, breaks-9, media-9, mixed-10, ends, first-numbers}
use Rattle.movie.proofs.Small.{same_length, take-length}
use Rattle.movie.proofs.judge.Goals as goal
use Rattle.verdicts.specs.declared.Finding.{Finding}

pub returns-then-is_over : goal.returns-then-is_over
returns-then-is_over c =
    over-9 c.args.file.now (payloads_from c.args.file.now (boxes c.args.starts.now c.args.sizes.now c.args.kinds.now c.args.parents.now c.args.placed.now) c.args.n 0) (take c.args.count c.args.numbers) (take c.args.count c.args.tracks) (rows_of c.args.runs.now c.args.rows) (moof-rows.rows_of c.args.moofs.now c.args.many) _ c.is_fragmented-fragmented.ensures _ c.pass_all-passed.ensures _ c.is_over.ensures c.if-is_over.true _ refl

pub returns-then-breaks : goal.returns-then-breaks
returns-then-breaks c =
    breaks-9 c.args.file.now (payloads_from c.args.file.now (boxes c.args.starts.now c.args.sizes.now c.args.kinds.now c.args.parents.now c.args.placed.now) c.args.n 0) (take c.args.count c.args.numbers) (take c.args.count c.args.tracks) (rows_of c.args.runs.now c.args.rows) (moof-rows.rows_of c.args.moofs.now c.args.many) _ c.is_fragmented-fragmented.ensures _ c.pass_all-passed.ensures _ c.is_over.ensures c.if-is_over.false _ (c.follow-followed.ensures ∙ ap (followed_of c.args.file.now (rows_of c.args.runs.now c.args.rows) (moof-rows.rows_of c.args.moofs.now c.args.many)) (first-numbers c.args.numbers c.args.count (omega (arith, c.well_formed.1.1.1.1.1.1.1.0)))) _ c.breaks.ensures c.if-breaks.true _ refl

pub returns-in_default : goal.returns-in_default
returns-in_default c =
    media-9 c.args.file.now (payloads_from c.args.file.now (boxes c.args.starts.now c.args.sizes.now c.args.kinds.now c.args.parents.now c.args.placed.now) c.args.n 0) (take c.args.count c.args.numbers) (take c.args.count c.args.tracks) (rows_of c.args.runs.now c.args.rows) (moof-rows.rows_of c.args.moofs.now c.args.many) _ c.is_fragmented-fragmented.ensures _ c.pass_all-passed.ensures _ c.is_over.ensures c.if-is_over.false _ (c.follow-followed.ensures ∙ ap (followed_of c.args.file.now (rows_of c.args.runs.now c.args.rows) (moof-rows.rows_of c.args.moofs.now c.args.many)) (first-numbers c.args.numbers c.args.count (omega (arith, c.well_formed.1.1.1.1.1.1.1.0)))) _ c.breaks.ensures c.if-breaks.false _ c.media.ensures c.in_default.is _ refl

pub returns-then-mixed : goal.returns-then-mixed
returns-then-mixed c =
    mixed-10 c.args.file.now (payloads_from c.args.file.now (boxes c.args.starts.now c.args.sizes.now c.args.kinds.now c.args.parents.now c.args.placed.now) c.args.n 0) (take c.args.count c.args.numbers) (take c.args.count c.args.tracks) (rows_of c.args.runs.now c.args.rows) (moof-rows.rows_of c.args.moofs.now c.args.many) _ c.is_fragmented-fragmented.ensures _ c.pass_all-passed.ensures _ c.is_over.ensures c.if-is_over.false _ (c.follow-followed.ensures ∙ ap (followed_of c.args.file.now (rows_of c.args.runs.now c.args.rows) (moof-rows.rows_of c.args.moofs.now c.args.many)) (first-numbers c.args.numbers c.args.count (omega (arith, c.well_formed.1.1.1.1.1.1.1.0)))) _ c.breaks.ensures c.if-breaks.false _ c.media.ensures _ c.in-Some.is _ c.has_samples.ensures c.if-mixed.true _ refl

pub returns : goal.returns
returns c =
    ends c.args.file.now (payloads_from c.args.file.now (boxes c.args.starts.now c.args.sizes.now c.args.kinds.now c.args.parents.now c.args.placed.now) c.args.n 0) (take c.args.count c.args.numbers) (take c.args.count c.args.tracks) (rows_of c.args.runs.now c.args.rows) (moof-rows.rows_of c.args.moofs.now c.args.many) _ c.is_fragmented-fragmented.ensures _ c.pass_all-passed.ensures _ c.is_over.ensures c.if-is_over.false _ (c.follow-followed.ensures ∙ ap (followed_of c.args.file.now (rows_of c.args.runs.now c.args.rows) (moof-rows.rows_of c.args.moofs.now c.args.many)) (first-numbers c.args.numbers c.args.count (omega (arith, c.well_formed.1.1.1.1.1.1.1.0)))) _ c.breaks.ensures c.if-breaks.false _ c.media.ensures _ c.in-Some.is _ c.has_samples.ensures c.if-mixed.false (same_length c.args.numbers c.args.tracks c.args.count (omega (arith, c.well_formed.1.1.1.1.1.1.1.0)) (omega (arith, c.well_formed.1.1.1.1.1.1.1.1.0))) c.agreements.result c.sweep-swept.result c.agreements.ensures c.sweep-swept.ensures c.few.result c.samples_in.result (c.few.ensures ∙ take-length c.args.numbers c.args.tracks c.args.count (omega (arith, c.well_formed.1.1.1.1.1.1.1.0))) c.samples_in.ensures _ (c.told.ensures ∙ ap (λ (x : Option Finding). told_of x c.few.result c.samples_in.result c.in-Some.bytes) (c.or_else.ensures ∙ ap₂ or_asked (c.or_else-early.ensures ∙ ap (or_asked c.agreements.result) c.first_of.ensures) (c.or_else-late.ensures ∙ ap (or_asked c.sweep-swept.result) c.last_of.ensures)))

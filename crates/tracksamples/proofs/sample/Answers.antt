use Rattle.std.specs.Prelude.{Err}
use Rattle.std.proofs.lemmas.Result.{err_from_is_err_and}
use mathlib.Core.Path.{ap, ◌∙◌}
use Rattle.runtable.specs.Table.{rows_of}
use Rattle.samples.specs.Records.{output}
use Rattle.tracksamples.specs.TrackSamples.{samples_from}
use Rattle.tracksamples.proofs.Numbers.{from-1}
use Rattle.tracksamples.proofs.One.{one-refused, one_told, one-put}
use Rattle.tracksamples.proofs.sample.Goals as goal

pub returns-in_err-place : goal.returns-in_err-place
returns-in_err-place c =
    let p = err_from_is_err_and c.from_residual.result c.from_residual.ensures.1 in
    ap (λ r. output r c.args.out.now) (p.1 ∙ ap Err p.2) ∙ one-refused (samples_from c.args.file.now c.args.source (rows_of c.args.runs.now c.args.rows)) c.args.out.now c.args.number _ c.in_err-place.ensures

pub returns-in_err-sync : goal.returns-in_err-sync
returns-in_err-sync c =
    absurd (one_told (samples_from c.args.file.now c.args.source (rows_of c.args.runs.now c.args.rows)) c.args.out.now c.args.number _ _ c.in_ok-place.ensures c.in_err-sync.ensures)

pub returns : goal.returns
returns c =
    c.put_one.ensures ∙ one-put (samples_from c.args.file.now c.args.source (rows_of c.args.runs.now c.args.rows)) c.args.out.now (from-1 c.args.file.now c.args.source (rows_of c.args.runs.now c.args.rows)) c.args.number _ _ c.in_ok-place.ensures c.in_ok-sync.ensures

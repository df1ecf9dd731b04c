use mathlib.Core.Path.{ap, ◌∙◌}
use Rattle.std.specs.Prelude.{Err}
use Rattle.std.proofs.lemmas.Result.{err_from_is_err_and}
use Rattle.samples.specs.Records.{output}
use Rattle.opened.proofs.Told.{file-refused, file-fine}
use Rattle.opened.proofs.tell.Goals as goal

pub returns-in_err-refusal : goal.returns-in_err-refusal
returns-in_err-refusal c =
    let p = err_from_is_err_and c.from_residual.result c.from_residual.ensures.1 in
    file-refused c.args.file.now _ _ _ _ _ _ _ c.scan-scanned.ensures c.args.place _ _ _ _ c.refusal.ensures _ c.in_err-refusal.was (ap (λ r. output r c.args.out.now) (p.1 ∙ ap Err p.2))

pub returns : goal.returns
returns c =
    file-fine c.args.file.now _ _ _ _ _ _ _ c.scan-scanned.ensures c.args.place _ _ _ _ c.refusal.ensures c.in_ok-refusal.was _ c.count_in.ensures c.by_fragments.ensures

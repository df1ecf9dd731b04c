use mathlib.Core.Path.{sym, ap, ◌∙◌}
use Rattle.boxes.proofs.Within.{header-within}
use Rattle.places.specs.Visit.{admitted, seen}
use Rattle.places.proofs.Visits.{admitted-is}
use Rattle.places.proofs.visit.Goals as goal

pub look-requires : goal.look-requires
look-requires c =
    let p = admitted-is _ _ _ _ _ (sym (c.admit.ensures ∙ ap (admitted c.args.at c.args.left c.args.count) c.read.ensures) ∙ c.in_ok-h.was) in
    let w = header-within _ _ _ _ p.same in
    (w.inside, w.whole, p.room)

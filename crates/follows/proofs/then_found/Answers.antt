use Rattle.follows.proofs.Steps.{found-over, found-passes, found_first}
use Rattle.follows.proofs.then_found.Goals as goal

pub returns-in-Over : goal.returns-in-Over
returns-in-Over c =
    found-over c.args.told c.args.found c.in-Over.is

pub returns-in-Passes : goal.returns-in-Passes
returns-in-Passes c =
    found-passes c.args.told c.args.found c.in-Passes.is

pub returns-in-Found : goal.returns-in-Found
returns-in-Found c =
    found_first c.args.told c.args.found _ c.in-Found.is

use Rattle.opened.proofs.Told.{numbered, listed, one, summed}
use mathlib.Core.Path.{refl}
use Rattle.opened.proofs.answer.Goals as goal

pub returns-in-Number : goal.returns-in-Number
returns-in-Number c =
    numbered _ _ _ _ _ _ c.in-Number.is refl

pub returns-in-List : goal.returns-in-List
returns-in-List c =
    listed _ _ _ _ _ _ c.in-List.is c.list.ensures

pub returns-in-Sample : goal.returns-in-Sample
returns-in-Sample c =
    one _ _ _ _ _ _ _ c.in-Sample.is c.sample.ensures

pub returns-in-Summary : goal.returns-in-Summary
returns-in-Summary c =
    summed _ _ _ _ _ _ c.in-Summary.is c.summary.ensures

use native.Mathlib.Omega.{arith}
use Rattle.trun.proofs.Counts.{one-or-none}
use Rattle.trun.proofs.per_sample.Goals as goal

pub overflow_add-result : goal.overflow_add-result
overflow_add-result c =
    omega (arith, one-or-none _ _ c.present_of-duration.ensures, one-or-none _ _ c.present_of-size.ensures, one-or-none _ _ c.present_of-own.ensures, one-or-none _ _ c.present_of-composition.ensures)

pub overflow_add-result-2 : goal.overflow_add-result-2
overflow_add-result-2 c =
    omega (arith, one-or-none _ _ c.present_of-duration.ensures, one-or-none _ _ c.present_of-size.ensures, one-or-none _ _ c.present_of-own.ensures, one-or-none _ _ c.present_of-composition.ensures)

pub overflow_add-result-3 : goal.overflow_add-result-3
overflow_add-result-3 c =
    omega (arith, one-or-none _ _ c.present_of-duration.ensures, one-or-none _ _ c.present_of-size.ensures, one-or-none _ _ c.present_of-own.ensures, one-or-none _ _ c.present_of-composition.ensures)

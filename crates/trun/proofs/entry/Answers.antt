use Prim.Native.Nat.{◌*◌}
use mathlib.Core.Path.{refl, ap, ◌∙◌}
use native.Mathlib.Omega.{arith}
use Rattle.std.specs.Prelude.{Err}
use Rattle.std.proofs.lemmas.Result.{err_from_is_err_and}
use mir.Facts.{to_z-of_z}
use Rattle.trun.proofs.Counts.{one-or-none, cells-most}
use Rattle.trun.proofs.Samples.{no-duration, no_size, no-flags, no-composition, is-sample}
use Rattle.trun.proofs.entry.Goals as goal

pub overflow_mul-first : goal.overflow_mul-first
overflow_mul-first c =
    omega (arith, c.cells_of-first.ensures, cells-most c.args.trun.flags c.args.i, c.ranges.i.fits)

pub returns-in_err-duration : goal.returns-in_err-duration
returns-in_err-duration c =
    let p = err_from_is_err_and c.from_residual.result c.from_residual.ensures.1 in
    p.1 ∙ ap Err p.2 ∙ no-duration c.args.trun.version c.args.trun.flags c.args.entries.now _ _ (ap (λ k. k * 4) c.cells_of-first.ensures) _ c.in_err-duration.ensures _ refl

pub overflow_mul-second : goal.overflow_mul-second
overflow_mul-second c =
    omega (arith, one-or-none _ _ c.present_of.ensures)

pub overflow_add-second : goal.overflow_add-second
overflow_add-second c =
    omega (arith, c.cells_of-first.ensures, cells-most c.args.trun.flags c.args.i, c.ranges.i.fits, one-or-none _ _ c.present_of.ensures)

pub returns-in_err-size : goal.returns-in_err-size
returns-in_err-size c =
    let p = err_from_is_err_and c.from_residual-in_err-size.result c.from_residual-in_err-size.ensures.1 in
    p.1 ∙ ap Err p.2 ∙ no_size c.args.trun.version c.args.trun.flags c.args.entries.now _ _ (ap (λ k. k * 4) c.cells_of-first.ensures) _ c.in_ok-duration.ensures _ refl _ c.present_of.ensures _ c.in_err-size.ensures _ refl

pub overflow_mul-third : goal.overflow_mul-third
overflow_mul-third c =
    omega (arith, one-or-none _ _ c.present_of-2.ensures)

pub overflow_add-third : goal.overflow_add-third
overflow_add-third c =
    omega (arith, c.cells_of-first.ensures, cells-most c.args.trun.flags c.args.i, c.ranges.i.fits, one-or-none _ _ c.present_of.ensures, one-or-none _ _ c.present_of-2.ensures)

pub returns-in_err-own : goal.returns-in_err-own
returns-in_err-own c =
    let p = err_from_is_err_and c.from_residual-in_err-own.result c.from_residual-in_err-own.ensures.1 in
    p.1 ∙ ap Err p.2 ∙ no-flags c.args.trun.version c.args.trun.flags c.args.entries.now _ _ (ap (λ k. k * 4) c.cells_of-first.ensures) _ c.in_ok-duration.ensures _ refl _ c.present_of.ensures _ c.in_ok-size.ensures _ refl _ c.present_of-2.ensures _ c.in_err-own.ensures _ refl

pub overflow_mul-fourth : goal.overflow_mul-fourth
overflow_mul-fourth c =
    omega (arith, one-or-none _ _ c.present_of-3.ensures)

pub overflow_add-fourth : goal.overflow_add-fourth
overflow_add-fourth c =
    omega (arith, c.cells_of-first.ensures, cells-most c.args.trun.flags c.args.i, c.ranges.i.fits, one-or-none _ _ c.present_of.ensures, one-or-none _ _ c.present_of-2.ensures, one-or-none _ _ c.present_of-3.ensures)

pub returns-in_err-offset : goal.returns-in_err-offset
returns-in_err-offset c =
    let p = err_from_is_err_and c.from_residual-in_err-offset.result c.from_residual-in_err-offset.ensures.1 in
    p.1 ∙ ap Err p.2 ∙ no-composition c.args.trun.version c.args.trun.flags c.args.entries.now _ _ (ap (λ k. k * 4) c.cells_of-first.ensures) _ c.in_ok-duration.ensures _ refl _ c.present_of.ensures _ c.in_ok-size.ensures _ refl _ c.present_of-2.ensures _ c.in_ok-own.ensures _ refl _ c.present_of-3.ensures _ c.in_err-offset.ensures _ refl

pub returns : goal.returns
returns c =
    is-sample c.args.trun.version c.args.trun.flags c.args.entries.now _ _ (ap (λ k. k * 4) c.cells_of-first.ensures) _ c.in_ok-duration.ensures _ refl _ c.present_of.ensures _ c.in_ok-size.ensures _ refl _ c.present_of-2.ensures _ c.in_ok-own.ensures _ refl _ c.present_of-3.ensures _ c.in_ok-offset.ensures _ refl _ (to_z-of_z {w = mir.Syntax.w64} (record { sfits = c.composition_of.type_inv }) ∙ c.composition_of.ensures)

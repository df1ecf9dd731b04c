use Rattle.std.specs.Prelude.{Ok}
use mathlib.Core.Path.{sym, ap, ◌∙◌}
use Prim.Native.Nat.{◌≤◌}
use lib.ListN.{length}
use native.Mathlib.Omega.{arith}
use Rattle.decoderconfig.proofs.Configs.{found_in}
use Rattle.decoderconfig.proofs.info_at.Goals as goal

pub slice_bounds-is_whole-count : goal.slice_bounds-is_whole-count
slice_bounds-is_whole-count c =
    let d = c.in-Some.field-0 in
    (found_in c.args.s.now c.args.at 5 5 d.tag d.at d.from d.to (sym c.in_ok-from.ensures ∙ ap Ok c.in-Some.is)).0

pub slice_bounds-is_whole-start : goal.slice_bounds-is_whole-start
slice_bounds-is_whole-start c =
    let d = c.in-Some.field-0 in
    let w = found_in c.args.s.now c.args.at 5 5 d.tag d.at d.from d.to (sym c.in_ok-from.ensures ∙ ap Ok c.in-Some.is) in
    omega (arith, w.0, w.1)

pub slice_bounds-is_whole-end : goal.slice_bounds-is_whole-end
slice_bounds-is_whole-end c =
    let d = c.in-Some.field-0 in
    let w = found_in c.args.s.now c.args.at 5 5 d.tag d.at d.from d.to (sym c.in_ok-from.ensures ∙ ap Ok c.in-Some.is) in
    omega (arith, w.0, w.1)

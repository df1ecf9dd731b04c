use mathlib.Core.Path.{◌≡◌, sym, ap}
use Prim.Native.Nat.{◌+◌, ◌-◌}
use native.Mathlib.Omega.{arith}
use borrow.Author.Tests.{lt-ltb, le-ltb}
use Rattle.kin.specs.Before.{sum}
use Rattle.kin.specs.Kin.{boxes}
use Rattle.contents.specs.Held.{sample_limit, run_of}
use Rattle.kin.proofs.Befores.{sum-none, sum-next}
use Rattle.contents.proofs.Helds.{sum-grows}
use Rattle.contents.proofs.held.pass.Goals as goal

pub loop-j-init : goal.loop-j-init
loop-j-init c =
    (omega arith, omega arith, omega (arith, sum-none (run_of c.args.s.now (boxes c.args.starts.now c.args.sizes.now c.args.kinds.now c.args.parents.now c.args.placed.now) c.args.n c.args.track)))

pub returns-then-all-more : goal.returns-then-all-more
returns-then-all-more c =
    sym (lt-ltb sample_limit (sum (run_of c.args.s.now (boxes c.args.starts.now c.args.sizes.now c.args.kinds.now c.args.parents.now c.args.placed.now) c.args.n c.args.track) c.args.i + c.args.count) (omega (arith, sum-grows (run_of c.args.s.now (boxes c.args.starts.now c.args.sizes.now c.args.kinds.now c.args.parents.now c.args.placed.now) c.args.n c.args.track) c.args.i c.loop-j.j c.loop-j-test.true, c.run_of-more.ensures, c.loop-j.invariant.2)))

pub loop-j-preserved : goal.loop-j-preserved
loop-j-preserved c =
    (omega arith, omega arith, omega (arith, sum-next (run_of c.args.s.now (boxes c.args.starts.now c.args.sizes.now c.args.kinds.now c.args.parents.now c.args.placed.now) c.args.n c.args.track) c.loop-j.j, c.run_of-more.ensures, c.loop-j.invariant.2))

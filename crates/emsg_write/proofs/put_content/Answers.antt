use native.Mathlib.Omega.{arith}
use Rattle.emsg.proofs.Puts.{length-laid-0, length-laid-1, early-time, late-time, early-put, late-put}
use Rattle.emsg_write.proofs.put_content.Goals as goal

pub put_numbers-numbers-requires : goal.put_numbers-numbers-requires
put_numbers-numbers-requires c =
    (omega (arith, length-laid-0 c.args.emsg c.args.scheme.now c.args.value.now c.args.message.now c.if-emsg-eq0.true, c.requires.0, c.put_strings-strings.ensures.1), omega arith, early-time c.args.emsg c.if-emsg-eq0.true c.requires.1)

pub returns-then-emsg-eq0 : goal.returns-then-emsg-eq0
returns-then-emsg-eq0 c =
    early-put c.args.emsg c.args.scheme.now c.args.value.now c.args.message.now c.args.out.now _ _ _ _ _ _ c.requires.0 c.if-emsg-eq0.true c.put_strings-strings.ensures.0 c.put_strings-strings.ensures.1 c.put_numbers-numbers.ensures.0 c.put_numbers-numbers.ensures.1 c.part.ensures

pub put_numbers-numbers-requires-2 : goal.put_numbers-numbers-requires-2
put_numbers-numbers-requires-2 c =
    (omega (arith, length-laid-1 c.args.emsg c.args.scheme.now c.args.value.now c.args.message.now c.if-emsg-eq0.false, c.requires.0), omega arith, late-time c.args.emsg c.if-emsg-eq0.false c.requires.1)

pub put_strings-strings-requires-2 : goal.put_strings-strings-requires-2
put_strings-strings-requires-2 c =
    omega (arith, length-laid-1 c.args.emsg c.args.scheme.now c.args.value.now c.args.message.now c.if-emsg-eq0.false, c.requires.0, c.put_numbers-numbers-2.ensures.1)

pub returns : goal.returns
returns c =
    late-put c.args.emsg c.args.scheme.now c.args.value.now c.args.message.now c.args.out.now _ _ _ _ _ _ c.requires.0 c.if-emsg-eq0.false c.put_numbers-numbers-2.ensures.0 c.put_numbers-numbers-2.ensures.1 c.put_strings-strings-2.ensures.0 c.put_strings-strings-2.ensures.1 c.part-2.ensures

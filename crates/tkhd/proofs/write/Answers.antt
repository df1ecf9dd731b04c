use native.Mathlib.Omega.{arith}
use Rattle.tkhd.proofs.write.Goals as goal

pub overflow_cast-v-7 : goal.overflow_cast-v-7
overflow_cast-v-7 c =
    omega (arith, c.struct_known-7-1.given)

pub overflow_cast-v-8 : goal.overflow_cast-v-8
overflow_cast-v-8 c =
    omega (arith, c.struct_known-8-1.given)

pub overflow_cast-v-9 : goal.overflow_cast-v-9
overflow_cast-v-9 c =
    omega (arith, c.struct_known-9-1.given)

pub overflow_cast-v-10 : goal.overflow_cast-v-10
overflow_cast-v-10 c =
    omega (arith, c.struct_known-10-1.given)

pub overflow_cast-v-11 : goal.overflow_cast-v-11
overflow_cast-v-11 c =
    omega (arith, c.struct_known-11-1.given)

pub overflow_cast-v-12 : goal.overflow_cast-v-12
overflow_cast-v-12 c =
    omega (arith, c.struct_known-12-1.given)

pub overflow_cast-v-13 : goal.overflow_cast-v-13
overflow_cast-v-13 c =
    omega (arith, c.struct_known-13-1.given)

pub overflow_cast-v-14 : goal.overflow_cast-v-14
overflow_cast-v-14 c =
    omega (arith, c.struct_known-14-1.given)

pub overflow_cast-v-15 : goal.overflow_cast-v-15
overflow_cast-v-15 c =
    omega (arith, c.struct_known-15-1.given)

pub overflow_cast-v-16 : goal.overflow_cast-v-16
overflow_cast-v-16 c =
    omega (arith, c.struct_known-16-1.given)

pub overflow_cast-v-17 : goal.overflow_cast-v-17
overflow_cast-v-17 c =
    omega (arith, c.struct_known-17-1.given)

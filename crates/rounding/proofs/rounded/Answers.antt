-- `rounding::rounded` is `rounded_of`: the rest is below, above or at a half as it is to what it lacks of b. Assumes nothing.
use Prim.Native.Nat.{◌*◌}
use native.Mathlib.Omega.{arith}
use borrow.Author.Tests.{lt-ltb, le-ltb}
use Rattle.rounding.specs.Round.{rounded_of}
use Rattle.rounding.proofs.NearestLaws.{tie_small}
use Rattle.rounding.proofs.rounded.Goals as goal

pub returns-then-rest-lacking : goal.returns-then-rest-lacking
unfolding rounded_of
returns-then-rest-lacking c =
    let s = c.args in
    simp (lt-ltb (2 * s.rest) s.b (omega arith))

pub returns-then-lacking-rest : goal.returns-then-lacking-rest
unfolding rounded_of
returns-then-lacking-rest c =
    let s = c.args in
    simp (le-ltb (2 * s.rest) s.b (omega arith), lt-ltb s.b (2 * s.rest) (omega arith))

pub overflow_add-result-2 : goal.overflow_add-result-2
overflow_add-result-2 c =
    omega (arith, tie_small c.args.whole)

pub returns : goal.returns
unfolding rounded_of
returns c =
    let s = c.args in
    simp (le-ltb (2 * s.rest) s.b (omega arith), le-ltb s.b (2 * s.rest) (omega arith), c.tie.ensures)

-- `rounding::share` is the nearest whole number of 100000 × part / whole: the two steps are a long division. Assumes nothing.
use mathlib.Core.Path.{◌∙◌, sym}
use Prim.Native.Nat.{◌*◌}
use native.Mathlib.Omega.{arith}
use Rattle.rounding.proofs.LongDivision.{Steps, steps}
use Rattle.rounding.proofs.NearestLaws.{nearest_of_lem, nearest_part}
use Rattle.rounding.proofs.share.Goals as goal

pub returns : goal.returns
returns c =
    let divided : Steps c.args.part c.args.whole = steps c.args.part c.args.whole (omega arith) (omega arith) in
    let s = c.args in
    let g = divided in
    let e = c.rounded.ensures ∙ sym (nearest_of_lem (100000 * s.part) _ _ s.whole g.together g.rest_small) in
    (e, omega (arith, e, nearest_part 100000 s.part s.whole (omega arith) (omega arith)))

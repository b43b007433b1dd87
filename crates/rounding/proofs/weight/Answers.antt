-- `rounding::weight` is `weight_or0`: once both can be weighed, their sizes are they. Assumes nothing.
use mathlib.Core.Path.{◌∙◌, sym, ap}
use native.Mathlib.Omega.{arith}
use lib.IntN.{pos}
use mir.Syntax.{w64}
use mir.Facts.{to_z_pos}
use Rattle.ints.specs.Machine.{size_read, tested}
use Rattle.rounding.proofs.Weights.{Weighed, not_secondary, not_primary, weighed_small, weight_none, weight_some}
use Rattle.rounding.specs.Weight.{weighable}
use Rattle.rounding.proofs.weight.Goals as goal
use Rattle.rounding.proofs.weight.Goals.{After-size}

pub returns-then-not-in_range : goal.returns-then-not-in_range
unfolding weighable
returns-then-not-in_range c =
    let s = c in
    sym (not_secondary s.args.secondary s.args.primary (tested weighable s.ranges.secondary c.in_range.ensures c.if-not-in_range.true))

pub returns-then-not-in_range-2 : goal.returns-then-not-in_range-2
unfolding weighable
returns-then-not-in_range-2 c =
    let s = c in
    sym
    (not_primary s.args.secondary s.args.primary (tested weighable s.ranges.secondary c.in_range.ensures c.if-not-in_range.false)
    (tested weighable s.ranges.primary c.in_range-2.ensures c.if-not-in_range-2.true))

weighed : (c : After-size) → Weighed c.args.secondary c.args.primary c.size-part.result c.size.result
unfolding weighable
weighed c =
    let s = c in
    record {
      secondary = tested weighable s.ranges.secondary c.in_range.ensures c.if-not-in_range.false;
      primary = tested weighable s.ranges.primary c.in_range-2.ensures c.if-not-in_range-2.false;
      part = size_read s.ranges.secondary c.size-part.ensures;
      other = size_read s.ranges.primary c.size.ensures;
    }

pub overflow_add-whole : goal.overflow_add-whole
overflow_add-whole c = omega (arith, weighed_small (weighed (goal.at.overflow_add-whole c).After-size))

pub returns-then-whole-eq0 : goal.returns-then-whole-eq0
returns-then-whole-eq0 c = sym (weight_none (weighed (goal.at.returns-then-whole-eq0 c).After-size) c.if-whole-eq0.true)

pub share-requires : goal.share-requires
share-requires c = omega (arith, weighed_small (weighed (goal.at.share-requires c).After-size))

pub returns : goal.returns
returns c =
    to_z_pos w64 (omega arith) ∙ ap pos c.share.ensures.0 ∙ sym (weight_some (weighed (goal.at.returns c).After-size) (omega arith))

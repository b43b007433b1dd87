-- `Year::determinants` is the rules': the adjustment is added where the test of the oldest quarter has it so. Assumes nothing.
use Rattle.std.specs.Prelude.{◌≡◌, cond, pos, ◌+ℤ◌, length}
use Rattle.std.proofs.Common.{rules, sym, ◌∙◌}
use mir.Syntax.{w64}
use mir.Val.{to_z, of_z}
use Rattle.ints.specs.Bound.{bounds, fits64}
use Rattle.ints.specs.Exact.{exacts, exact}
use Rattle.ints.specs.Ring.{solve, ◌:+◌, ◌:=◌, #}
use Rattle.ints.specs.Range.{Within, between_same}
use Rattle.steam_rules.specs.Book.{mmbtu, same_mmbtu}
use Rattle.steam_rules.specs.Settlement.{sold_in, three_newest, determinants_of}
use Rattle.steam_rules.specs.Fours.{four_of}
use Rattle.steam_rules.specs.Quarters.{year_within}
use Rattle.steam_settlement.proofs.year.Year.determinants.Goals as goal
use Rattle.steam_settlement.proofs.year.Year.determinants.Goals.{After-sold-sold}

sold_small : (c : After-sold-sold) → Within 400000000 c.sold-sold.result.0
sold_small c =
    let s = c.args.self in
    let four : length s.quarters ≡ 4 = search rules in
    between_same (λ i. (c.sold-sold.ensures i).0) (year_within s.sales.0 s.quarters s.sales_within (four_of (mmbtu (pos 0)) s.quarters four s.quarters_within))

pub overflow_add-result : goal.overflow_add-result
overflow_add-result c =
    let sold = sold_small (goal.at.overflow_add-result c).After-sold-sold in
    let b = c.args.self.adjustment_within in
    fits64 (search (bounds, sold, b) depth 30) tt

pub returns-then-off_by_five : goal.returns-then-off_by_five
unfolding determinants_of
returns-then-off_by_five c =
    let s = c.args.self in
    let sold = sold_small (goal.at.returns-then-off_by_five c).After-sold-sold in
    let b = s.adjustment_within in
    let e : to_z w64 (of_z w64 (to_z w64 (of_z w64 c.sold-sold.result.0) +ℤ to_z w64 (of_z w64 s.adjustment.0))) ≡ c.sold-sold.result.0 +ℤ s.adjustment.0 = exact (search (exacts, sold, b) depth 30) tt in
    let off = sym c.off_by_five.ensures ∙ c.if-off_by_five.true in
    same_mmbtu (e ∙ (λ i. (c.sold-sold.ensures i).0 +ℤ cond (sym off i) s.adjustment.0 (pos 0)))

pub returns : goal.returns
unfolding determinants_of
returns c =
    let s = c.args.self in
    let off = sym c.off_by_five.ensures ∙ c.if-off_by_five.false in
    c.sold-sold.ensures
    ∙ same_mmbtu
    (solve 1 (λ x. x := x :+ # 0) tt (s.sales.0 +ℤ sold_in (three_newest s.quarters))
    ∙ (λ i. s.sales.0 +ℤ sold_in (three_newest s.quarters) +ℤ cond (sym off i) s.adjustment.0 (pos 0)))

-- `Year::off_by_five` compares in whole numbers, 100 times the sales with 105 and 95 times the oldest. Assumes nothing.
use Rattle.std.specs.Prelude.{◌≡◌, ◌||◌, pos, ◌*ℤ◌}
use lib.Signed.{lt_z}
use mir.Syntax.{w64}
use mir.Val.{to_z, of_z}
use Rattle.ints.specs.Exact.{exacts, exact}
use Rattle.steam_rules.specs.Settlement.{oldest, off_by_five}
use Rattle.steam_settlement.proofs.year.Year.off_by_five.Goals as goal

pub returns : goal.returns
unfolding off_by_five
returns c =
    let s = c.args.self in
    let v = s.sales_within in
    let w = s.quarters_within.0 in
    let most : to_z w64 (of_z w64 (pos 105 *ℤ to_z w64 (of_z w64 (oldest s.quarters)))) ≡ pos 105 *ℤ oldest s.quarters = exact (search (exacts, w) depth 30) tt in
    let sold : to_z w64 (of_z w64 (pos 100 *ℤ to_z w64 (of_z w64 s.sales.0))) ≡ pos 100 *ℤ s.sales.0 = exact (search (exacts, v) depth 30) tt in
    let least : to_z w64 (of_z w64 (pos 95 *ℤ to_z w64 (of_z w64 (oldest s.quarters)))) ≡ pos 95 *ℤ oldest s.quarters = exact (search (exacts, w) depth 30) tt in
    λ i. lt_z (most i) (sold i) || lt_z (sold i) (least i)

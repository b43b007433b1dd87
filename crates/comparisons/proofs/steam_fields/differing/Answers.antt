-- An array of quarters or of dues is counted place by place, as its four fields are.
use Rattle.std.specs.Prelude.{pos}
use Rattle.std.proofs.Common.{arith, rules}
use Rattle.amounts.specs.Amounts.{cents}
use Rattle.steam_rules.specs.Book.{mmbtu}
use Rattle.amounts.specs.declared.Cents.{Cents}
use Rattle.steam_rules.specs.declared.Mmbtu.{Mmbtu}
use Rattle.comparisons.proofs.Comparing.{one_flag, one_number, four_places}
use Rattle.comparisons.proofs.steam_fields.differing.Goals as goal

pub returns : goal.returns
returns c =
    let one = c.args.one in
    let other = c.args.other in
    let quarters = four_places (λ (quarter : Mmbtu). quarter.0) (mmbtu (pos 0)) one.quarters other.quarters (search rules) (search rules) in
    let dues = four_places (λ (due : Cents). due.0) (cents (pos 0)) one.dues other.dues (search rules) (search rules) in
    let settled = one_flag one.settled other.settled in
    let carried = one_number one.carried.0 other.carried.0 in
    omega (arith, c.in_period.ensures)

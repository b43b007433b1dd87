-- `Year::sold` adds the open quarter's sales and those of the three newest past quarters. Assumes nothing.
use Rattle.std.specs.Prelude.{◌≡◌, ℤ, ◌+ℤ◌, length}
use Rattle.std.proofs.Common.{rules, ap, ◌∙◌}
use Rattle.ints.specs.Exact.{exacts, exact}
use Rattle.steam_rules.specs.Book.{same_mmbtu}
use Rattle.steam_rules.specs.Quarters.{sold_three}
use Rattle.steam_settlement.proofs.year.Year.sold.Goals as goal

pub returns : goal.returns
returns c =
    let s = c.args.self in
    let q = s.quarters_within in
    let w = s.sales_within in
    let four : length s.quarters ≡ 4 = search rules in
    same_mmbtu (exact (search (exacts, q.1, q.2, q.3, w) depth 30) tt ∙ ap (λ (z : ℤ). s.sales.0 +ℤ z) (sold_three s.quarters four))

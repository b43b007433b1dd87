-- `adjusted` is kWh with losses. Assumes nothing.
use Rattle.std.proofs.Common.{◌≡◌, to_z, of_z, w64}
use Rattle.ints.specs.Exact.{exacts, e_eq, exact}
use Rattle.rounding.proofs.RoundLaws.{rounds}
use Rattle.electric_rules.specs.Book.{kwh}
use Rattle.sheet.specs.Figures.{adjusted}
use Rattle.sheet.proofs.filing.adjusted.Goals as goal

pub returns : goal.returns
unfolding adjusted
returns c =
    let e : to_z w64 (of_z w64 c.round_div.result) ≡ adjusted c.args.sold.0 c.args.loss = exact (search (exacts, rounds, e_eq, c.round_div.ensures, c.requires) depth 30) tt in
    λ i. kwh (e i)

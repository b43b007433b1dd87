-- `bills::due_less` takes the part between two lines away. Assumes nothing.
use Rattle.ints.specs.Exact.{exacts, exact}
use Rattle.amounts.specs.Amounts.{same_cents}
use Rattle.steam.proofs.bills.due_less.Goals as goal

pub returns : goal.returns
returns c =
    same_cents (exact (search exacts depth 30) tt)

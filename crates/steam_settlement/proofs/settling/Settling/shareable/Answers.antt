-- `Settling::shareable` is what the quarter is to share. Assumes nothing.
use Rattle.ints.specs.Bound.{bounds, fits64}
use Rattle.ints.specs.Exact.{exacts, exact}
use Rattle.steam_rules.specs.Book.{same_remainder}
use Rattle.steam_rules.specs.Settlement.{variance_of, shareable_of}
use Rattle.steam_settlement.proofs.settling.Settling.shareable.Goals as goal

pub overflow_add-result : goal.overflow_add-result
overflow_add-result c =
    let w = c.args.self.period_within in
    fits64 (search (bounds, w) depth 30) tt

pub returns : goal.returns
unfolding shareable_of variance_of
returns c =
    let w = c.args.self.period_within in
    same_remainder (exact (search (exacts, w) depth 30) tt)

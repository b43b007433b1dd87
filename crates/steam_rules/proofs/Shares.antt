-- What settlements keep in the tally: shares and remainder together are the customers' 80% of the variances, to the last ten-thousandth of a
-- cent. Assumes nothing.
use native.Mathlib.Omega.{arith}
use lib.IntN.{pos}
use Rattle.steam_rules.specs.Settlement.{variance_of, shareable_of, share_of, remainder_after}
use Rattle.steam_rules.specs.Tally.{Tally, settle_counted}
use Rattle.riders.specs.Sharing as sharing

abbrev pub Shared : Tally → Type 0
Shared t = sharing.Shared 5000 (pos 80) t.shares t.period.remainder.0 t.variances

pub settled_shared : (t : Tally) → Shared t → Shared (settle_counted t)
unfolding settle_counted remainder_after share_of shareable_of
settled_shared t k = sharing.more_shared 5000 (pos 80) k (variance_of t.period) (omega arith)

-- What settlements keep in the tally: both levels' shares make the period's, so shares and remainder together are the customers' percentage
-- of the variances, to the last hundred-thousandth of a cent. Assumes nothing.
use mathlib.Core.Path.{subst}
use native.Mathlib.Omega.{arith}
use lib.IntN.{ℤ, ◌+ℤ◌}
use Rattle.ints.specs.Ring.{solve, ◌:+◌, ◌:-◌, ◌:=◌}
use Rattle.electric_rules.specs.declared.Rates.{Rates}
use Rattle.electric_rules.specs.Settlement.{variance_of, shareable_of, share_of, remainder_after, secondary_share, primary_share}
use Rattle.electric_rules.specs.Tally.{Tally, share_counted, settle_counted}
use Rattle.riders.specs.Sharing as sharing

-- of the shares of both levels
abbrev pub Shared : Rates → Tally → Type 0
Shared rates t = sharing.Shared 50000 rates.percentage (t.secondary.shares +ℤ t.primary.shares) t.period.remainder.0 t.variances

pub settled_shared : (rates : Rates) (t : Tally) → Shared rates t → Shared rates (settle_counted rates t)
unfolding settle_counted share_counted primary_share remainder_after share_of shareable_of
settled_shared rates t k =
    subst (λ (shares : ℤ). sharing.Shared 50000 rates.percentage shares (remainder_after rates t.period) (t.variances +ℤ variance_of rates t.period))
    (solve 4 (λ s t share first. s :+ t :+ share := s :+ first :+ (t :+ (share :- first))) tt
    t.secondary.shares t.primary.shares (share_of rates t.period) (secondary_share rates t.period))
    (sharing.more_shared 50000 rates.percentage k (variance_of rates t.period) (omega arith))

-- What settlements keep, for any percentage and any even number of parts that make a cent: a period's share is rounded to cents, and what
-- rounding leaves is carried into the next one, so shares and remainder together are the percentage of the variances, to the last part of
-- a cent. Assumes nothing.
use Rattle.std.specs.Prelude.{◌≡◌, ℕ, ◌*◌, ◌<◌, ℤ, pos, ◌+ℤ◌, ◌-ℤ◌, ◌*ℤ◌}
use Rattle.ints.specs.Range.{Within}
use Rattle.ints.specs.Order.{signed, sum, diff, minus}
use Rattle.ints.specs.Ring.{solve, eq_by, ◌:+◌, ◌:-◌, ◌:*◌, ◌:=◌, #}
use Rattle.rounding.specs.Round.{round}
use Rattle.rounding.proofs.RoundLaws.{round_leaves}

-- half of the parts of a cent, and the customers' percentage
module _ (half : ℕ) (percentage : ℤ) where
  -- shares in cents, remainder in parts of a cent: together they are the percentage of the variances, and the remainder is small
  pub record Shared (shares remainder variances : ℤ) : Type 0 where
    pub whole : pos (2 * half) *ℤ shares +ℤ remainder ≡ percentage *ℤ variances
    pub small : Within half remainder

  pub none_shared : Shared (pos 0) (pos 0) (pos 0)
  none_shared = record { whole = solve 2 (λ parts n. parts :* # 0 :+ # 0 := n :* # 0) tt (pos (2 * half)) percentage; small = omega (signed, minus (pos half)) }

  module _ {shares remainder variances : ℤ} (k : Shared shares remainder variances) where
    -- a period's variance joins the variances, and its share the shares
    pub more_shared :
        (variance : ℤ) → 0 < half →
        let shareable = percentage *ℤ variance +ℤ remainder in
        let share = round shareable (pos (2 * half)) in
        Shared (shares +ℤ share) (shareable -ℤ pos (2 * half) *ℤ share) (variances +ℤ variance)
    more_shared variance h =
        record {
          whole =
              eq_by _ _ (pos 1) _ _
              (solve 7 (λ parts n s v rem more share.
              parts :* (s :+ share) :+ (n :* more :+ rem :- parts :* share) :- n :* (v :+ more)
              := # 1 :* (parts :* s :+ rem :- n :* v)) tt
              (pos (2 * half)) percentage shares variances remainder variance (round (percentage *ℤ variance +ℤ remainder) (pos (2 * half))))
              k.whole;
          small = round_leaves half (percentage *ℤ variance +ℤ remainder) h;
        }

    -- so shares and variances are no further apart than the remainder is from 0
    pub shared_near : Within half (pos (2 * half) *ℤ shares -ℤ percentage *ℤ variances)
    shared_near =
        let cents = pos (2 * half) *ℤ shares in
        omega (signed, k.whole, k.small, sum cents remainder, diff cents (percentage *ℤ variances), minus (pos half))

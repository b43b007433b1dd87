-- Laws of the weight. Assumes nothing.
use Rattle.std.specs.Prelude.{◌≡◌, true, ℕ, zero, suc, ◌+◌, ◌*◌, ◌≤◌, ℤ, pos, negsuc, ◌≤ℤ◌}
use Rattle.std.proofs.Common.{arith}
use Rattle.ints.specs.Order.{signed, of_le}
use Rattle.ints.specs.Range.{Between, in_range_true}
use Rattle.rounding.specs.Round.{round}
use Rattle.rounding.proofs.NearestLaws.{nearest_part}
use Rattle.rounding.proofs.RoundLaws.{round_below, round_by}
use Rattle.rounding.specs.Weight.{most_weighed, weighable, weight_of, weight_or0}

-- ---- laws

pub weighable_true : (w : ℤ) → weighable w ≡ true → Between (pos 0) (pos most_weighed) w
unfolding weighable
weighable_true w e = in_range_true (pos 0) (pos most_weighed) w e

-- within the limits, what the call gives is the formula
pub weight_or0_is : (s p : ℤ) → weighable s ≡ true → weighable p ≡ true → weight_or0 s p ≡ weight_of s p
unfolding weight_or0
weight_or0_is s p e f = simp (e, f)

-- a weight is a part of 100000
pub weight_between : (s p : ℤ) → pos 0 ≤ℤ s → pos 0 ≤ℤ p → Between (pos 0) (pos 100000) (weight_of s p)
unfolding weight_of
weight_between (pos s) (pos p) h k = go (s + p) (omega arith)
  where
    go : (whole : ℕ) → s ≤ whole → Between (pos 0) (pos 100000) (round (pos (100000 * s)) (pos whole))
    go zero l = rw (round_below (pos (100000 * s)) (pos 0) (omega signed)) (omega signed)
    go (suc n) l =
        rw (round_by (pos (100000 * s)) (pos (suc n)) (omega signed)) (omega (signed, nearest_part 100000 s (suc n) l (omega arith)))
weight_between (pos s) (negsuc p) h k = absurd (omega (signed, of_le k))
weight_between (negsuc s) p h k = absurd (omega (signed, of_le h))

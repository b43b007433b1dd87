-- The billing determinants for every pair of amounts and every four quarters: document 01's D where all are within their limits, else 0.
-- Law: within the limits it is D. Assumes nothing.
use Rattle.std.specs.Prelude.{◌≡◌, Bool, cond, ◌&&◌, List, ℤ, pos, neg_ℤ}
use Rattle.ints.specs.Range.{in_range, in_range_yes}
use Rattle.steam_rules.specs.declared.Mmbtu.{Mmbtu}
use Rattle.steam_rules.specs.Settlement.{determinants_of}
use Rattle.steam_rules.specs.Limits.{mmbtu_in_limits, quarters_in_limits}
use Rattle.steam_rules.specs.Fours.{Four}
use Rattle.steam_rules.specs.Quarters.{AdjustmentWithin}
use Rattle.steam_rules.specs.Ranges.{MmbtuWithin, mmbtu_yes, quarters_yes}

-- the range of b (01, Posting records), which is not the limit of stored B
unfoldable pub adjustment_in_range : ℤ → Bool
adjustment_in_range b = in_range (neg_ℤ (pos 100000000)) (pos 100000000) b

unfoldable pub determinants_or0 : Mmbtu → List Mmbtu → ℤ → ℤ
determinants_or0 sales quarters b =
    cond (mmbtu_in_limits sales && (quarters_in_limits quarters && adjustment_in_range b)) (determinants_of sales.0 quarters b) (pos 0)

pub determinants_or0_is : (sales : Mmbtu) (quarters : List Mmbtu) (b : ℤ) → MmbtuWithin sales → Four MmbtuWithin quarters → AdjustmentWithin b → determinants_or0 sales quarters b ≡ determinants_of sales.0 quarters b
unfolding determinants_or0 adjustment_in_range
determinants_or0_is sales quarters b s qs h = simp (mmbtu_yes sales s, quarters_yes quarters qs, in_range_yes (neg_ℤ (pos 100000000)) (pos 100000000) b h)

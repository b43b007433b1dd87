-- The weight of the secondary level in a settlement (01, Electric book, Settle). Each W is kWh times loss factor. Its laws stand in
-- proofs/WeightLaws.antt.
use Rattle.std.specs.Prelude.{Bool, cond, ◌&&◌, ℕ, ℤ, pos, ◌+ℤ◌, ◌*ℤ◌}
use Rattle.ints.specs.Range.{in_range}
use Rattle.rounding.specs.Round.{round}

-- w = round(100000 × Ws / (Ws + Wp))
unfoldable pub weight_of : ℤ → ℤ → ℤ
weight_of secondary primary = round (pos 100000 *ℤ secondary) (secondary +ℤ primary)

-- the most that is weighed: 10^10 kWh at a loss factor of 2, in hundred-thousandths
abbrev pub most_weighed : ℕ
most_weighed = 2000000000000000

unfoldable pub weighable : ℤ → Bool
weighable w = in_range (pos 0) (pos most_weighed) w

-- the weight of two that can be weighed, and 0 of any others
unfoldable pub weight_or0 : ℤ → ℤ → ℤ
weight_or0 secondary primary = cond (weighable secondary && weighable primary) (weight_of secondary primary) (pos 0)

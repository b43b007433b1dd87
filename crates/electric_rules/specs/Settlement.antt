-- What a settlement works out from a period (01, Electric book, Settle; sheet 125): variance, customers' share, remainder, weight and the
-- levels' shares; and what it would give before it (02, b). Single letters are the paper's.
use Rattle.std.specs.Prelude.{Bool, cond, ◌||◌, ℤ, pos, ◌+ℤ◌, ◌-ℤ◌, ◌*ℤ◌}
use Rattle.ints.specs.Machine.{eq_z}
use Rattle.rounding.specs.Round.{round}
use Rattle.rounding.specs.Weight.{weight_of}
use Rattle.electric_rules.specs.declared.Rates.{Rates}
use Rattle.electric_rules.specs.declared.Period.{Period}

-- V = 1000K − base × (Ss + Sp), in hundred-thousandths of a dollar
unfoldable pub variance_of : Rates → Period → ℤ
variance_of r p = pos 1000 *ℤ p.cost.0 -ℤ r.base *ℤ (p.sales.secondary.0 +ℤ p.sales.primary.0)

-- 95V + rem, in hundred-thousandths of a cent
unfoldable pub shareable_of : Rates → Period → ℤ
shareable_of r p = r.percentage *ℤ variance_of r p +ℤ p.remainder.0

-- R = round((95V + rem) / 100000)
unfoldable pub share_of : Rates → Period → ℤ
share_of r p = round (shareable_of r p) (pos 100000)

-- rem becomes 95V + rem − 100000R
unfoldable pub remainder_after : Rates → Period → ℤ
remainder_after r p = shareable_of r p -ℤ pos 100000 *ℤ share_of r p

-- w = round(100000 × Ws / (Ws + Wp)), W being kWh times loss factor
unfoldable pub weight_by : Rates → Period → ℤ
weight_by r p = weight_of (p.sales.secondary.0 *ℤ r.secondary) (p.sales.primary.0 *ℤ r.primary)

-- round(R × w / 100000)
unfoldable pub secondary_share : Rates → Period → ℤ
secondary_share r p = round (share_of r p *ℤ weight_by r p) (pos 100000)

-- R less that
unfoldable pub primary_share : Rates → Period → ℤ
primary_share r p = share_of r p -ℤ secondary_share r p

-- ---- before the settlement

-- no kWh: Ss + Sp = 0
abbrev pub no_kwh : Period → Bool
no_kwh p = eq_z (p.sales.secondary.0 +ℤ p.sales.primary.0) (pos 0)

-- the provisional share, document 02's term: what settling today would give a level, which is named by its share there. With no kWh yet, or in a
-- settled month, it is 0
unfoldable pub provisional_share : (Rates → Period → ℤ) → Rates → Bool → Period → ℤ
provisional_share share rates settled p = cond (settled || no_kwh p) (pos 0) (share rates p)

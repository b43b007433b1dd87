-- A settlement (01, Steam book, Settle; sheet 6.1): variance, customers' share, remainder, and the billing determinants over which the share
-- is spread. Single letters are the paper's.
use Rattle.std.specs.Prelude.{Bool, cond, ◌||◌, List, [], ◌∷◌, ◌++◌, ℤ, pos, ◌+ℤ◌, ◌-ℤ◌, ◌*ℤ◌, get_or, drop}
use Rattle.std.specs.Int.Signed.{lt_z}
use Rattle.rounding.specs.Round.{round}
use Rattle.steam_rules.specs.declared.Mmbtu.{Mmbtu}
use Rattle.steam_rules.specs.declared.Period.{Period}
use Rattle.steam_rules.specs.Book.{mmbtu}

-- ---- the customers' share

-- V = 100K − 30050B, in hundredths of a cent
unfoldable pub variance_of : Period → ℤ
variance_of p = pos 100 *ℤ p.cost.0 -ℤ pos 30050 *ℤ p.sales.0

-- 80V + rem, in ten-thousandths of a cent
unfoldable pub shareable_of : Period → ℤ
shareable_of p = pos 80 *ℤ variance_of p +ℤ p.remainder.0

-- R = round((80V + rem) / 10000)
unfoldable pub share_of : Period → ℤ
share_of p = round (shareable_of p) (pos 10000)

-- rem becomes 80V + rem − 10000R
unfoldable pub remainder_after : Period → ℤ
remainder_after p = shareable_of p -ℤ pos 10000 *ℤ share_of p

-- ---- the past quarters, oldest first

-- H
abbrev pub oldest : List Mmbtu → ℤ
oldest quarters = (get_or quarters 0 (mmbtu (pos 0))).0

abbrev pub three_newest : List Mmbtu → List Mmbtu
three_newest quarters = drop 1 quarters

-- the oldest quarter leaves, B enters as newest
unfoldable pub shifted : List Mmbtu → Mmbtu → List Mmbtu
shifted quarters newest = three_newest quarters ++ (newest ∷ [])

-- sales of quarters together
abbrev pub sold_in : List Mmbtu → ℤ
sold_in [] = pos 0
sold_in (quarter ∷ quarters) = quarter.0 +ℤ sold_in quarters

-- ---- the billing determinants

-- B more than 5% off H: 100B > 105H or 100B < 95H
unfoldable pub off_by_five : ℤ → ℤ → Bool
off_by_five B H = lt_z (pos 105 *ℤ H) (pos 100 *ℤ B) || lt_z (pos 100 *ℤ B) (pos 95 *ℤ H)

-- D = B + the three newest past quarters, plus b only if B is that far off
unfoldable pub determinants_of : ℤ → List Mmbtu → ℤ → ℤ
determinants_of B quarters b = B +ℤ sold_in (three_newest quarters) +ℤ cond (off_by_five B (oldest quarters)) b (pos 0)

-- Amounts (01, Amounts and rounding), and what a book may store of them (01, Posting records): cents in ±10^12, factors in ±99,999.
use Rattle.std.specs.Prelude.{◌≡◌, Bool, true, ℤ, pos, neg_ℤ}
use Rattle.ints.specs.Range.{in_range, Within, in_range_true}
use Rattle.amounts.specs.declared.Cents.{Cents}
use Rattle.amounts.specs.declared.Points.{Points}

abbrev pub cents : ℤ → Cents
cents z = record { 0 = z }

abbrev pub points : ℤ → Points
points z = record { 0 = z }

unfoldable pub cents_in_limits : Cents → Bool
cents_in_limits amount = in_range (neg_ℤ (pos 1000000000000)) (pos 1000000000000) amount.0

unfoldable pub points_in_limits : Points → Bool
points_in_limits amount = in_range (neg_ℤ (pos 99999)) (pos 99999) amount.0

-- ---- what the limits tell

pub cents_within : (amount : Cents) → cents_in_limits amount ≡ true → Within 1000000000000 amount.0
unfolding cents_in_limits
cents_within amount e = in_range_true (neg_ℤ (pos 1000000000000)) (pos 1000000000000) amount.0 e

pub points_within : (amount : Points) → points_in_limits amount ≡ true → Within 99999 amount.0
unfolding points_in_limits
points_within amount e = in_range_true (neg_ℤ (pos 99999)) (pos 99999) amount.0 e

-- ---- an amount is the same where its number is

pub same_cents : {a b : ℤ} → a ≡ b → cents a ≡ cents b
same_cents e = λ i. cents (e i)

-- The provisional shares of a book are what settling it today would give, and a month's end bears interest on them. Assumes nothing.
use mathlib.Core.Path.{◌≡◌, refl, sym, ap}
use mathlib.Core.Bool.{Bool, true, false}
use lib.IntN.{ℤ, pos, ◌+ℤ◌}
use Rattle.electric_rules.specs.declared.Rates.{Rates}
use Rattle.electric_rules.specs.declared.Period.{Period}
use Rattle.electric_rules.specs.Settlement.{no_kwh, secondary_share, primary_share, provisional_share}
use Rattle.electric_rules.specs.Levels.{owed_by, interest_on}
use Rattle.electric_rules.specs.Next.{provisional_of}
use Rattle.electric_rules.proofs.Held.{bearing_held}
use Rattle.electric_rules.specs.Claim.{ProvisionalShares}

-- where there is one, and where there is none
module _ (share : Rates → Period → ℤ) (rates : Rates) (p : Period) where
  given : (settled : Bool) → settled ≡ false → no_kwh p ≡ false → provisional_share share rates settled p ≡ share rates p
  unfolding provisional_share
  given settled e f = simp (e, f)

  none_settled : (settled : Bool) → settled ≡ true → provisional_share share rates settled p ≡ pos 0
  unfolding provisional_share
  none_settled settled e = simp e

  pub none_unsold : (settled : Bool) → no_kwh p ≡ true → provisional_share share rates settled p ≡ pos 0
  unfolding provisional_share
  none_unsold true e = refl
  none_unsold false e = simp e

pub provisional_shares : ProvisionalShares
unfolding ProvisionalShares owed_by
provisional_shares b p =
    record {
      secondary = λ e f. ap (λ (s : ℤ). s +ℤ b.secondary.carried.0 +ℤ b.secondary.interest.0) (sym (given _ _ b.period b.settled e f));
      primary = λ e f. ap (λ (s : ℤ). s +ℤ b.primary.carried.0 +ℤ b.primary.interest.0) (sym (given _ _ b.period b.settled e f));
      settled = λ e share. none_settled share _ b.period b.settled e;
      unsold = λ e share. none_unsold share _ b.period b.settled e;
      secondary_bears = ap (interest_on p.first) (bearing_held b.secondary (provisional_of secondary_share b));
      primary_bears = ap (interest_on p.first) (bearing_held b.primary (provisional_of primary_share b));
      left_alone = refl;
    }

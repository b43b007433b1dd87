-- How large the amounts of a settlement can be, for books in limits and for any rates that a sheet may state. Assumes nothing.
use Rattle.std.specs.Prelude.{◌≡◌, refl, Bool, true, false, cond, ℕ, eqb, ℤ, pos, negsuc, ◌*ℤ◌, ◌≤ℤ◌}
use Rattle.ints.specs.Flags.{both}
use Rattle.ints.specs.Order.{signed, of_le}
use Rattle.ints.specs.Range.{in_range, Between, Within, in_range_true, in_range_yes}
use Rattle.ints.specs.Bound.{bounds, within_by}
use Rattle.rounding.proofs.RoundLaws.{rounds}
use Rattle.rounding.specs.Weight.{most_weighed, weighable}
use Rattle.rounding.proofs.WeightLaws.{weighable_true, weight_between}
use Rattle.electric_rules.specs.declared.Rates.{Rates}
use Rattle.electric_rules.specs.declared.Period.{Period}
use Rattle.electric_rules.specs.Rates.{rates_lp, rates_mps, rates_of, rates_in_range}
use Rattle.electric_rules.specs.Settlement.{variance_of, shareable_of, share_of, weight_by, secondary_share, primary_share}
use Rattle.electric_rules.specs.Ranges.{PeriodWithin}

pub record RatesWithin (r : Rates) : Type 0 where
  pub percentage : Between (pos 1) (pos 100) r.percentage
  pub base : Between (pos 0) (pos 99999) r.base
  pub secondary : Between (pos 100000) (pos 199999) r.secondary
  pub primary : Between (pos 100000) (pos 199999) r.primary

pub rates_within : (r : Rates) → rates_in_range r ≡ true → RatesWithin r
rates_within r e =
    let p = both (in_range (pos 1) (pos 100) r.percentage) _ e in
    let b = both (in_range (pos 0) (pos 99999) r.base) _ p.1 in
    let l = both (in_range (pos 100000) (pos 199999) r.secondary) _ b.1 in
    record {
      percentage = in_range_true _ _ _ p.0;
      base = in_range_true _ _ _ b.0;
      secondary = in_range_true _ _ _ l.0;
      primary = in_range_true _ _ _ l.1;
    }

pub rates_yes : (r : Rates) → RatesWithin r → rates_in_range r ≡ true
rates_yes r h = simp (in_range_yes _ _ _ h.percentage, in_range_yes _ _ _ h.base, in_range_yes _ _ _ h.secondary, in_range_yes _ _ _ h.primary)

-- those of a division are such
pub division_rates : (division : ℕ) → rates_in_range (rates_of division) ≡ true
unfolding in_range
division_rates division = go (eqb division 0)
  where
    go : (t : Bool) → rates_in_range (cond t rates_lp rates_mps) ≡ true
    go true = refl
    go false = refl

-- kWh times loss factor can be weighed
not_below : (x y : ℤ) → pos 0 ≤ℤ x → pos 0 ≤ℤ y → pos 0 ≤ℤ (x *ℤ y)
not_below (pos x) (pos y) h k = omega signed
not_below (pos x) (negsuc y) h k = absurd (omega (signed, of_le k))
not_below (negsuc x) y h k = absurd (omega (signed, of_le h))

pub can_be_weighed : (sold loss : ℤ) → Between (pos 0) (pos 10000000000) sold → Between (pos 100000) (pos 199999) loss → weighable (sold *ℤ loss) ≡ true
unfolding weighable
can_be_weighed sold loss h k =
    let w : Within most_weighed (sold *ℤ loss) = within_by (search bounds depth 30) tt in
    let n : pos 0 ≤ℤ (sold *ℤ loss) = not_below sold loss h.above (omega signed) in
    in_range_yes (pos 0) (pos most_weighed) (sold *ℤ loss) (record { above = n; below = w.below })

module _ (r : Rates) (p : Period) (rs : RatesWithin r) (ps : PeriodWithin p) where
  pub shareable_within : Within 400000000000000000 (shareable_of r p)
  unfolding shareable_of variance_of
  shareable_within = within_by (search bounds depth 30) tt

  pub share_within : Within 4100000000000 (share_of r p)
  unfolding share_of
  share_within = let s = shareable_within in within_by (search (bounds, rounds) depth 30) tt

  pub weighable_secondary : weighable (p.sales.secondary.0 *ℤ r.secondary) ≡ true
  weighable_secondary = can_be_weighed p.sales.secondary.0 r.secondary ps.secondary rs.secondary

  pub weighable_primary : weighable (p.sales.primary.0 *ℤ r.primary) ≡ true
  weighable_primary = can_be_weighed p.sales.primary.0 r.primary ps.primary rs.primary

  pub weight_within : Between (pos 0) (pos 100000) (weight_by r p)
  unfolding weight_by
  weight_within =
      weight_between (p.sales.secondary.0 *ℤ r.secondary) (p.sales.primary.0 *ℤ r.primary)
      (weighable_true _ weighable_secondary).above (weighable_true _ weighable_primary).above

  pub secondary_within : Within 4200000000000 (secondary_share r p)
  unfolding secondary_share
  secondary_within = let s = share_within in let w = weight_within in within_by (search (bounds, rounds) depth 30) tt

  pub primary_within : Within 9000000000000 (primary_share r p)
  unfolding primary_share
  primary_within = let s = share_within in let w = secondary_within in within_by (search bounds depth 30) tt

-- A bill's line and its two parts, as the code works them out, with their sizes and that of a month's interest. Assumes nothing.
use mathlib.Core.Path.{◌≡◌, sym, ◌∙◌, ap}
use mathlib.Core.List.{[], ◌∷◌}
use lib.IntN.{ℤ, pos, neg_ℤ, ◌+ℤ◌, ◌-ℤ◌, ◌*ℤ◌}
use Rattle.ints.specs.Ring.{solve, ◌:+◌, ◌:-◌, ◌:*◌, ◌:=◌, #}
use mir.Syntax.{w32}
use mir.Val.{to_z, of_z}
use Rattle.ints.specs.Exact.{exacts, exact}
use Rattle.ints.specs.Range.{Between, Within, between_same}
use Rattle.ints.specs.Bound.{bounds, within_by}
use Rattle.rounding.specs.Round.{round}
use Rattle.rounding.proofs.RoundLaws.{rounds}
use Rattle.riders.specs.Lines.{line_of, part_of, no_line}
use Rattle.electric_rules.specs.declared.Level.{Level}
use Rattle.electric_rules.specs.Levels.{factors_of, level_line, bearing_of, interest_on}
use Rattle.electric_rules.specs.Ranges.{LevelWithin}

-- a factor as it is read for a product
pub factor_read : {z f : ℤ} → z ≡ to_z w32 (of_z w32 f) → Within 99999 f → Within 99999 z
factor_read {z} {f} e h =
    let same : to_z w32 (of_z w32 f) ≡ f = exact (search (exacts, h) depth 30) tt in
    between_same (e ∙ same) h

module _ (u : ℤ) (l : Level) where
  pub line_is : round (u *ℤ (l.first.factor.0 +ℤ l.second.factor.0)) (pos 100) ≡ level_line u l
  unfolding level_line line_of
  line_is = ap (λ (z : ℤ). round z (pos 100)) (solve 3 (λ u f g. u :* (f :+ g) := u :* (f :+ (g :+ # 0))) tt u l.first.factor.0 l.second.factor.0)

  pub first_is : round (u *ℤ l.first.factor.0) (pos 100) ≡ part_of u (factors_of l) 0
  unfolding part_of line_of
  first_is =
      solve 1 (λ x. x := x :- # 0) tt (round (u *ℤ l.first.factor.0) (pos 100))
      ∙ (λ i. round (alone i) (pos 100) -ℤ sym (no_line u) i)
    where
      alone : u *ℤ l.first.factor.0 ≡ u *ℤ (l.first.factor.0 +ℤ pos 0)
      alone = solve 2 (λ u f. u :* f := u :* (f :+ # 0)) tt u l.first.factor.0

  pub second_is : level_line u l -ℤ part_of u (factors_of l) 0 ≡ part_of u (factors_of l) 1
  unfolding level_line part_of
  second_is =
      ap (λ (z : ℤ). line_of u (factors_of l) -ℤ (line_of u (l.first.factor ∷ []) -ℤ z)) (no_line u)
      ∙ solve 2 (λ x y. x :- (y :- # 0) := x :- y) tt (line_of u (factors_of l)) (line_of u (l.first.factor ∷ []))

  module _ (us : Between (neg_ℤ (pos 1000000000)) (pos 1000000000) u) (ls : LevelWithin l) where
    pub line_within : Within 5000000000000 (level_line u l)
    unfolding level_line line_of
    line_within = within_by (search (bounds, rounds) depth 30) tt

    pub first_within : Within 5000000000000 (part_of u (factors_of l) 0)
    unfolding part_of line_of
    first_within = within_by (search (bounds, rounds) depth 30) tt

    pub second_within : Within 5000000000000 (part_of u (factors_of l) 1)
    unfolding part_of line_of
    second_within = within_by (search (bounds, rounds) depth 30) tt

-- the balance that bears interest, and a month's interest on it
bearing_within : (provisional : ℤ) (l : Level) → Within 9000000000000 provisional → LevelWithin l → Within 14000000000000 (bearing_of provisional l)
unfolding bearing_of
bearing_within provisional l ps ls = within_by (search bounds depth 30) tt

pub interest_within :
    (rate provisional : ℤ) (l : Level) → Between (pos 0) (pos 200000) rate → Within 9000000000000 provisional → LevelWithin l →
    Within 300000000000 (interest_on rate (bearing_of provisional l))
unfolding interest_on
interest_within rate provisional l rs ps ls = let balance = bearing_within provisional l ps ls in within_by (search (bounds, rounds) depth 30) tt

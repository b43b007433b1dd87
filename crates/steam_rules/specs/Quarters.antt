-- The past quarters as an array of four: the three newest together, the shift, and how large the billing determinants can be. Assumes nothing.
use Rattle.std.specs.Prelude.{◌≡◌, Bool, ℕ, ℤ, pos, ◌+ℤ◌, length, get_or}
use Rattle.std.proofs.Common.{sym, ◌∙◌}
use Rattle.std.proofs.Math.Path.{ap}
use Rattle.std.proofs.Math.Bool.{true, false, cond}
use mathlib.Core.List.{List, [], ◌∷◌}
use Rattle.ints.specs.Ring.{solve, ◌:+◌, ◌:=◌, #}
use Rattle.ints.specs.Range.{Between, Within, between_same}
use Rattle.ints.specs.Bound.{b_between, b_pos, b_add, within_by}
use Rattle.steam_rules.specs.declared.Mmbtu.{Mmbtu}
use Rattle.steam_rules.specs.Book.{mmbtu}
use Rattle.steam_rules.specs.Settlement.{oldest, three_newest, shifted, sold_in, off_by_five, determinants_of}
use Rattle.steam_rules.specs.Fours.{Four, as_four, one_by_one}
use Rattle.steam_rules.specs.Ranges.{MmbtuWithin}

-- b of a settlement, which has a range of its own (01, Posting records)
abbrev pub AdjustmentWithin : ℤ → Type 0
AdjustmentWithin b = Within 100000000 b

abbrev pub quarter_at : List Mmbtu → ℕ → Mmbtu
quarter_at quarters i = get_or quarters i (mmbtu (pos 0))

-- each of the four, one by one
abbrev pub QuartersWithin : List Mmbtu → Type 0
QuartersWithin quarters = MmbtuWithin (quarter_at quarters 0) × MmbtuWithin (quarter_at quarters 1) × MmbtuWithin (quarter_at quarters 2) × MmbtuWithin (quarter_at quarters 3)

module _ (quarters : List Mmbtu) (count : length quarters ≡ 4) where
  pub sold_three : (quarter_at quarters 1).0 +ℤ ((quarter_at quarters 2).0 +ℤ (quarter_at quarters 3).0) ≡ sold_in (three_newest quarters)
  sold_three =
      solve 3 (λ x y z. x :+ (y :+ z) := x :+ (y :+ (z :+ # 0))) tt (quarter_at quarters 1).0 (quarter_at quarters 2).0 (quarter_at quarters 3).0
      ∙ ap (λ (qs : List Mmbtu). sold_in (three_newest qs)) (sym (as_four (mmbtu (pos 0)) quarters count))

  pub shifted_four : (newest : Mmbtu) → quarter_at quarters 1 ∷ quarter_at quarters 2 ∷ quarter_at quarters 3 ∷ newest ∷ [] ≡ shifted quarters newest
  unfolding shifted
  shifted_four newest = ap (λ (qs : List Mmbtu). shifted qs newest) (sym (as_four (mmbtu (pos 0)) quarters count))

module _ (B : ℤ) (quarters : List Mmbtu) (sold : Between (pos 0) (pos 100000000) B) (qs : Four MmbtuWithin quarters) where
  -- the sales of a year
  pub year_within : Within 400000000 (B +ℤ sold_in (three_newest quarters))
  year_within =
      let w = one_by_one (mmbtu (pos 0)) qs in
      between_same (ap (λ (z : ℤ). B +ℤ z) (sym (sold_three quarters qs.count))) (within_by (b_add (b_between sold) (b_add (b_between w.1) (b_add (b_between w.2) (b_between w.3)))) tt)

  pub determinants_within : (b : ℤ) → AdjustmentWithin b → Within 500000000 (determinants_of B quarters b)
  unfolding determinants_of
  determinants_within b h = go (off_by_five B (oldest quarters))
    where
      go : (t : Bool) → Within 500000000 (B +ℤ sold_in (three_newest quarters) +ℤ cond t b (pos 0))
      go true = within_by (b_add (b_between year_within) (b_between h)) tt
      go false = within_by (b_add (b_between year_within) (b_pos 0)) tt

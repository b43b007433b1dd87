-- How large the amounts of a settlement can be, for books in limits. Assumes nothing.
use Rattle.ints.specs.Range.{Within}
use Rattle.ints.specs.Bound.{bounds, within_by}
use Rattle.rounding.proofs.RoundLaws.{rounds}
use Rattle.steam_rules.specs.declared.Period.{Period}
use Rattle.steam_rules.specs.Settlement.{variance_of, shareable_of, share_of}
use Rattle.steam_rules.specs.Ranges.{PeriodWithin}

module _ (p : Period) (ps : PeriodWithin p) where
  pub shareable_within : Within 9000000000000000 (shareable_of p)
  unfolding shareable_of variance_of
  shareable_within = within_by (search bounds depth 30) tt

  pub share_within : Within 1000000000000 (share_of p)
  unfolding share_of
  share_within = let s = shareable_within in within_by (search (bounds, rounds) depth 30) tt

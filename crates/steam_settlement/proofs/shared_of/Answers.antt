-- `steam_settlement::shared_of` settles a quarter that it has found within its limits. Assumes nothing.
use Rattle.std.proofs.Common.{sym, ◌∙◌}
use Rattle.steam_rules.specs.Ranges.{period_within}
use Rattle.steam_settlement.proofs.shared_of.Goals as goal

pub invariant_of-shared : goal.invariant_of-shared
invariant_of-shared c = record { period_within = period_within _ (sym c.in_limits.ensures ∙ c.if-not-in_limits.false) }

-- Every figure of the list holds: each is computed from the definitions. Assumes nothing.
use mathlib.Core.Path.{refl}
use Rattle.ints.specs.Range.{in_range}
use Rattle.ints.specs.Digits.{digits}
use Rattle.rounding.specs.Round.{tie_of, rounded_of, nearest_of, round}
use Rattle.rounding.specs.Weight.{weight_of}
use Rattle.refusals.specs.Rows.{number_of, refusal_by, by_table}
use Rattle.amounts.specs.Amounts.{cents_in_limits, points_in_limits}
use Rattle.amounts.specs.Text.{cents_text, text_of, sign_of, decimal, width_of, width_in}
use Rattle.postings.specs.Kinds.{kind_of, unknown_kind, fields_of, stands_beyond, stray_number, out_of_range}
use Rattle.riders.specs.Runs.{factor_for, run_in_limits}
use Rattle.riders.specs.Rules.{given_of}
use Rattle.riders.specs.Months.{month_in_limits}
use Rattle.electric_rules.specs.Settlement.{variance_of, shareable_of, share_of, remainder_after, weight_by, secondary_share, primary_share}
use Rattle.electric_rules.specs.Levels.{owed_by, interest_on}
use Rattle.figures.specs.Figures.{FiguresHold}
use Rattle.steam_rules.specs.Calendar as steam_calendar
use Rattle.steam_rules.specs.Settlement as steam_settlement
use Rattle.steam_rules.specs.Limits as steam_limits
use Rattle.steam_rules.specs.Next as steam_next

pub figures_hold : FiguresHold
unfolding round nearest_of rounded_of tie_of cents_text text_of sign_of decimal width_of width_in digits in_range weight_of refusal_by by_table cents_in_limits points_in_limits kind_of unknown_kind fields_of stands_beyond stray_number out_of_range variance_of shareable_of share_of remainder_after weight_by secondary_share primary_share owed_by factor_for interest_on run_in_limits month_in_limits steam_calendar.settles steam_settlement.variance_of steam_settlement.shareable_of steam_settlement.share_of steam_settlement.off_by_five steam_settlement.determinants_of steam_settlement.shifted steam_settlement.remainder_after steam_limits.mmbtu_in_limits steam_limits.remainder_in_limits steam_limits.period_in_limits steam_limits.quarters_in_limits steam_limits.factors_in_limits steam_limits.dues_in_limits steam_limits.reconciliation_in_limits steam_limits.runs_in_limits steam_limits.in_limits steam_next.filed_factor steam_next.settle_posted steam_next.adjust_posted steam_next.next_at steam_next.answer_at given_of number_of
figures_hold = refl

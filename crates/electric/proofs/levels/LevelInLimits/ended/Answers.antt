-- `LevelInLimits::ended` is the month's interest and the level at the month's end, or refuses it where a book may not store what is carried or
-- accrued. Assumes nothing.
use Rattle.std.specs.Prelude.{◌≡◌, Bool, false, ◌&&◌, Result, Ok, Err}
use Rattle.std.proofs.Common.{rules, ap, sym, ◌∙◌}
use Rattle.ints.specs.Flags.{and_false}
use Rattle.ints.specs.Range.{between_same}
use Rattle.refusals.specs.Rows.{stored_or_12}
use Rattle.refusals.specs.declared.Refusal.{Refusal}
use Rattle.refusals.specs.declared.Refusal.TheVariants.{NextOutOfLimits}
use Rattle.refusals.proofs.TableLaws.{stored_within, refused_within}
use Rattle.amounts.specs.declared.Cents.{Cents}
use Rattle.amounts.specs.Amounts.{cents_in_limits}
use Rattle.electric_rules.specs.declared.Level.{Level}
use Rattle.electric_rules.proofs.Changed.{ended_decides}
use Rattle.electric_rules.specs.Levels.{bearing_of, interest_on, accrued_level, handed_over}
use Rattle.electric_rules.specs.Limits.{level_in_limits}
use Rattle.electric.specs.Taken.{ended_at}
use Rattle.electric.proofs.Bills.{interest_within}
use Rattle.electric.proofs.levels.LevelInLimits.ended.Goals as goal
use Rattle.electric.proofs.levels.LevelInLimits.ended.Goals.{After-after-next}

-- the level after the interest that was found
module _ (c : After-after-next) where
  abbrev next : Level
  next = handed_over c.args.month_end.entering (accrued_level c.interest-interest.result.0 c.args.self.level)

  decides : level_in_limits next ≡ cents_in_limits next.carried && cents_in_limits next.interest
  decides = ended_decides c.args.self.level c.args.self.in_limits c.args.month_end.entering c.interest-interest.result.0

  abbrev ended : Bool → Result (Cents × Level) Refusal
  ended within = stored_or_12 within (c.interest-interest.result, next)

  -- by the rules' interest
  by_rules : ended (level_in_limits next) ≡ ended_at c.args.month_end.entering (interest_on c.args.month_end.posting.first (bearing_of c.args.provisional_share.0 c.args.self.level)) c.args.self.level
  by_rules = ap (λ (interest : Cents). ended_at c.args.month_end.entering interest.0 c.args.self.level) c.interest-interest.ensures

  refused : level_in_limits next ≡ false → {refusal : Refusal} → refusal ≡ NextOutOfLimits → Err refusal ≡ ended (level_in_limits next)
  refused e r = ap Err r ∙ sym (ap ended e)

pub after-next-requires : goal.after-next-requires
after-next-requires c =
    let l = c.args.self in
    between_same (λ i. (c.interest-interest.ensures i).0) (interest_within c.args.month_end.posting.first c.args.provisional_share.0 l.level c.args.month_end.ranged.0 c.requires l.within)

pub returns-in_err-stored : goal.returns-in_err-stored
returns-in_err-stored c =
    let k = (goal.at.returns-in_err-stored c).After-after-next in
    let refusal : c.from_residual.result ≡ Err c.in_err-stored.field-0.0 = search rules in
    let out = refused_within _ _ c.in_err-stored.ensures in
    let carried = (λ i. cents_in_limits (sym c.after-next.ensures i).carried) ∙ out.0 in
    refusal ∙ refused k (decides k ∙ (λ i. carried i && cents_in_limits (next k).interest)) out.1 ∙ by_rules k

pub returns-in_err-stored-2 : goal.returns-in_err-stored-2
returns-in_err-stored-2 c =
    let k = (goal.at.returns-in_err-stored-2 c).After-after-next in
    let refusal : c.from_residual-in_err-stored-2.result ≡ Err c.in_err-stored-2.field-0.0 = search rules in
    let out = refused_within _ _ c.in_err-stored-2.ensures in
    let interest = (λ i. cents_in_limits (sym c.after-next.ensures i).interest) ∙ out.0 in
    refusal ∙ refused k (decides k ∙ (λ i. cents_in_limits (next k).carried && interest i) ∙ and_false _) out.1 ∙ by_rules k

pub returns : goal.returns
returns c =
    let k = (goal.at.returns c).After-after-next in
    let carried = (λ i. cents_in_limits (sym c.after-next.ensures i).carried) ∙ (stored_within _ _ c.in_ok-stored.ensures).0 in
    let accrued = (λ i. cents_in_limits (sym c.after-next.ensures i).interest) ∙ (stored_within _ _ c.in_ok-stored-2.ensures).0 in
    (λ i. Ok (c.interest-interest.result, c.after-next.ensures i))
    ∙ sym (ap (ended k) (decides k ∙ (λ i. carried i && accrued i)))
    ∙ by_rules k

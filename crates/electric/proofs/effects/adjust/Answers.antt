-- `effects::adjust` tests what the level that is adjusted carries, and stores the level. Assumes nothing.
use Rattle.std.specs.Prelude.{◌≡◌, true}
use Rattle.std.proofs.Common.{rules, ap, refl, sym, ◌∙◌}
use Rattle.refusals.specs.Rows.{stored_or_12}
use Rattle.refusals.proofs.TableLaws.{stored_within}
use Rattle.amounts.specs.Amounts.{cents_in_limits}
use Rattle.amounts.specs.declared.Cents.{Cents}
use Rattle.postings.specs.declared.Posting.{Posting}
use Rattle.riders.specs.Posts.{refused, stored}
use Rattle.electric_rules.specs.declared.Level.{Level}
use Rattle.electric_rules.specs.declared.ElectricBook.{ElectricBook}
use Rattle.electric_rules.proofs.Changed.{named_in_limits, level_decides, carried_decides}
use Rattle.electric_rules.specs.Levels.{adjusted_level}
use Rattle.electric_rules.specs.Limits.{in_limits}
use Rattle.electric_rules.specs.Next.{level_at, with_level_at, adjust_posted}
use Rattle.electric_rules.specs.Ranges.{level_within}
use Rattle.electric.proofs.Parts.{name_read, level_is, level_kept}
use Rattle.electric.proofs.effects.adjust.Goals as goal
use Rattle.electric.proofs.effects.adjust.Goals.{After-stored}

-- the adjustment of the level that is named
module _ (b : ElectricBook) (p : Posting) where
  abbrev adjusted : Level
  adjusted = adjusted_level p.second (level_at p.first b)

  decides : in_limits b ≡ true → in_limits (adjust_posted b p) ≡ cents_in_limits adjusted.carried
  decides within = level_decides b within p.first adjusted ∙ carried_decides (level_at p.first b) (named_in_limits b within p.first) _

-- what is tested is what the rules test
carried_is : (c : After-stored) → let carried = (adjusted c.args.book.now c.args.posting).carried in c.stored.result ≡ stored_or_12 (cents_in_limits carried) carried
carried_is c =
    let is = c.adjusted-adjusted.ensures ∙ ap (adjusted_level c.args.posting.second) (level_is c.args.book.now c.args.posting.first c.requires.1.0 c.level.ensures) in
    c.stored.ensures ∙ ap (λ (carried : Cents). stored_or_12 (cents_in_limits carried) carried) (λ i. (is i).carried)

pub invariant_of-level : goal.invariant_of-level
invariant_of-level c =
    let within = level_kept c.args.book.now c.args.posting.first c.requires.1.0 c.level.ensures c.requires.0 in
    record { in_limits = within; within = level_within _ within }

pub returns-in_err-stored : goal.returns-in_err-stored
returns-in_err-stored c =
    let tested = carried_is (goal.at.returns-in_err-stored c).After-stored in
    refused (decides c.args.book.now c.args.posting c.requires.0) _ _ _ _ (sym c.in_err-stored.was ∙ tested) (search rules)

pub returns : goal.returns
returns c =
    let b = c.args.book.now in
    let p = c.args.posting in
    let carried = stored_within _ _ (sym c.in_ok-stored.was ∙ carried_is (goal.at.returns c).After-stored) in
    let is = c.adjusted-adjusted.ensures ∙ ap (adjusted_level p.second) (level_is c.args.book.now c.args.posting.first c.requires.1.0 c.level.ensures) in
    stored (decides b p c.requires.0) _ _ _ carried.0 refl
    (c.with_level.ensures ∙ (λ i. with_level_at (name_read b p.first c.requires.1.0 i) b (is i)))

-- `levels::bill` tests and stores what is due under either run after the bill. Assumes nothing.
use Rattle.std.specs.Prelude.{◌≡◌}
use Rattle.std.proofs.Common.{rules, ap, sym, ◌∙◌}
use Rattle.refusals.specs.Rows.{stored_or_12}
use Rattle.refusals.proofs.TableLaws.{stored_within}
use Rattle.amounts.specs.Amounts.{cents_in_limits}
use Rattle.amounts.specs.declared.Cents.{Cents}
use Rattle.postings.specs.declared.Answer.TheVariants.{Line}
use Rattle.riders.specs.Posts.{first_refuses, second_refuses, refused, stored}
use Rattle.electric_rules.proofs.Changed.{dues_decide}
use Rattle.electric_rules.specs.Levels.{billed_level}
use Rattle.electric_rules.specs.Ranges.{level_within}
use Rattle.electric.proofs.levels.bill.Goals as goal
use Rattle.electric.proofs.levels.bill.Goals.{After-stored, After-stored-2}

-- what is tested is what the rules test
first_is : (c : After-stored) → let due = (billed_level c.args.posting.second c.args.level.now).first.due in c.stored.result ≡ stored_or_12 (cents_in_limits due) due
first_is c = c.stored.ensures ∙ ap (λ (due : Cents). stored_or_12 (cents_in_limits due) due) (λ i. (c.billed.ensures i).1.first.due)

second_is : (c : After-stored-2) → let due = (billed_level c.args.posting.second c.args.level.now).second.due in c.stored-2.result ≡ stored_or_12 (cents_in_limits due) due
second_is c = c.stored-2.ensures ∙ ap (λ (due : Cents). stored_or_12 (cents_in_limits due) due) (λ i. (c.billed.ensures i).1.second.due)

pub invariant_of-found : goal.invariant_of-found
invariant_of-found c = record { in_limits = c.requires.0; within = level_within _ c.requires.0 }

pub returns-in_err-first : goal.returns-in_err-first
returns-in_err-first c =
    let tested = first_is (goal.at.returns-in_err-first c).After-stored in
    refused (dues_decide c.args.level.now c.requires.0 _ _) _ _ _ _ (first_refuses _ _ _ (sym c.in_err-first.was ∙ tested)) (search rules)

pub returns-in_err-second : goal.returns-in_err-second
returns-in_err-second c =
    let first = stored_within _ _ (sym c.in_ok-first.was ∙ first_is (goal.at.returns-in_err-second c).After-stored) in
    let tested = second_is (goal.at.returns-in_err-second c).After-stored-2 in
    refused (dues_decide c.args.level.now c.requires.0 _ _) _ _ _ _ (second_refuses _ _ _ first.0 (sym c.in_err-second.was ∙ tested)) (search rules)

pub returns : goal.returns
returns c =
    let l = c.args.level.now in
    let first = stored_within _ _ (sym c.in_ok-first.was ∙ first_is (goal.at.returns c).After-stored) in
    let second = stored_within _ _ (sym c.in_ok-second.was ∙ second_is (goal.at.returns c).After-stored-2) in
    stored (dues_decide l c.requires.0 _ _) _ _ _ (simp (first.0, second.0)) (λ i. Line (c.billed.ensures i).0)
    (λ i. record { carried = l.carried; interest = l.interest; pending = l.pending; first = record { factor = l.first.factor; due = first.1 i }; second = record { factor = l.second.factor; due = second.1 i } })

-- `effects::month_end` tests and stores either level at the month's end. Assumes nothing.
use Rattle.std.specs.Prelude.{◌≡◌, ℤ, Option, Result}
use Rattle.std.proofs.Common.{rules, sym, ◌∙◌}
use Rattle.ints.specs.Range.{between_same}
use Rattle.refusals.specs.declared.Refusal.{Refusal}
use Rattle.refusals.proofs.TableLaws.{stored_within}
use Rattle.amounts.specs.declared.Cents.{Cents}
use Rattle.postings.specs.declared.Answer.TheVariants.{Interest}
use Rattle.riders.specs.Posts.{first_refuses, second_refuses, refused, stored}
use Rattle.electric_rules.specs.declared.Level.{Level}
use Rattle.electric_rules.specs.declared.EnteringRun.{EnteringRun}
use Rattle.electric_rules.specs.Calendar.{entering}
use Rattle.electric_rules.proofs.Changed.{levels, month_end_decides}
use Rattle.electric_rules.specs.Levels.{bearing_of, interest_on}
use Rattle.electric_rules.specs.Next.{ended_with, secondary_interest, primary_interest}
use Rattle.electric_rules.specs.Ranges.{book_within, level_within}
use Rattle.electric.specs.Taken.{ended_at}
use Rattle.electric.proofs.Shared.{provisional_small}
use Rattle.electric.proofs.effects.month_end.Goals as goal
use Rattle.electric.proofs.effects.month_end.Goals.{After-ended, After-ended-2}

-- what is tested is what the rules test
abbrev ended_by : Option EnteringRun → ℤ → Cents → Level → Result (Cents × Level) Refusal
ended_by run rate provisional l = ended_at run (interest_on rate (bearing_of provisional.0 l)) l

secondary_is : (c : After-ended) → c.ended.result ≡ ended_at (entering c.args.book.now.month) (secondary_interest c.args.book.now c.args.posting) c.args.book.now.secondary
secondary_is c = c.ended.ensures ∙ (λ i. ended_by (c.entering.ensures i) c.args.posting.first (c.provisional_shares.ensures i).0 c.args.book.now.secondary)

primary_is : (c : After-ended-2) → c.ended-2.result ≡ ended_at (entering c.args.book.now.month) (primary_interest c.args.book.now c.args.posting) c.args.book.now.primary
primary_is c = c.ended-2.ensures ∙ (λ i. ended_by (c.entering.ensures i) c.args.posting.first (c.provisional_shares.ensures i).1 c.args.book.now.primary)

pub ended-requires : goal.ended-requires
ended-requires c = between_same (λ i. (c.provisional_shares.ensures i).0.0) (provisional_small c.args.book.now (book_within c.args.book.now c.requires.0)).0

pub ended-requires-2 : goal.ended-requires-2
ended-requires-2 c = between_same (λ i. (c.provisional_shares.ensures i).1.0) (provisional_small c.args.book.now (book_within c.args.book.now c.requires.0)).1

pub invariant_of-on_secondary : goal.invariant_of-on_secondary
invariant_of-on_secondary c =
    let within = (levels c.args.book.now c.requires.0).0 in
    record { in_limits = within; within = level_within _ within }

pub invariant_of-on_primary : goal.invariant_of-on_primary
invariant_of-on_primary c =
    let within = (levels c.args.book.now c.requires.0).1 in
    record { in_limits = within; within = level_within _ within }

pub returns-in_err-secondary_interest : goal.returns-in_err-secondary_interest
returns-in_err-secondary_interest c =
    let secondary = secondary_is (goal.at.returns-in_err-secondary_interest c).After-ended in
    refused (month_end_decides c.args.book.now c.requires.0 c.args.posting) _ _ _ _ (first_refuses _ _ _ (sym c.in_err-secondary_interest.was ∙ secondary)) (search rules)

pub returns-in_err-primary_interest : goal.returns-in_err-primary_interest
returns-in_err-primary_interest c =
    let secondary = stored_within _ _ (sym c.in_ok-secondary_interest.was ∙ secondary_is (goal.at.returns-in_err-primary_interest c).After-ended) in
    let primary = primary_is (goal.at.returns-in_err-primary_interest c).After-ended-2 in
    refused (month_end_decides c.args.book.now c.requires.0 c.args.posting) _ _ _ _ (second_refuses _ _ _ secondary.0 (sym c.in_err-primary_interest.was ∙ primary)) (search rules)

pub returns : goal.returns
returns c =
    let b = c.args.book.now in
    let secondary = stored_within _ _ (sym c.in_ok-secondary_interest.was ∙ secondary_is (goal.at.returns c).After-ended) in
    let primary = stored_within _ _ (sym c.in_ok-primary_interest.was ∙ primary_is (goal.at.returns c).After-ended-2) in
    stored (month_end_decides b c.requires.0 c.args.posting) _ _ _ (simp (secondary.0, primary.0)) (λ i. Interest (secondary.1 i).0 (primary.1 i).0) (λ i. ended_with b (c.month_after-book.ensures i) (secondary.1 i).1 (primary.1 i).1)

-- `effects::settle` files what either level owes, by the rates of the division, and stores the settled book. Assumes nothing.
use Rattle.std.specs.Prelude.{◌≡◌}
use Rattle.std.proofs.Common.{rules, ap, sym, ◌∙◌}
use mir.Syntax.{w64}
use mir.Val.{SFits}
use mir.Facts.{to_z-of_z}
use Rattle.ints.specs.Range.{between_same}
use Rattle.ints.specs.Bound.{b_between, fits64}
use Rattle.refusals.specs.Rows.{stored_or_12}
use Rattle.refusals.proofs.TableLaws.{stored_within}
use Rattle.postings.specs.declared.Answer.TheVariants.{FiledLevels}
use Rattle.riders.specs.declared.Run.{Run}
use Rattle.riders.specs.Runs.{run_in_limits, filed_run}
use Rattle.riders.specs.Posts.{first_refuses, second_refuses, refused, stored}
use Rattle.electric_rules.proofs.Changed.{levels, settlement_decides}
use Rattle.electric_rules.specs.Rates.{rates_of}
use Rattle.electric_rules.specs.Levels.{owed_by, filed_level}
use Rattle.electric_rules.specs.Next.{settled_with}
use Rattle.electric_rules.specs.Ranges.{book_within, level_within}
use Rattle.electric_rules.specs.Settlement.{secondary_share, primary_share}
use Rattle.electric.proofs.Shared.{shares_small}
use Rattle.electric.proofs.effects.settle.Goals as goal
use Rattle.electric.proofs.effects.settle.Goals.{After-filing_of, After-filing_of-2}

-- what is filed is what the rules file
secondary_is : (c : After-filing_of) → let b = c.args.book.now in let filed = filed_run (owed_by (secondary_share (rates_of b.division) b.period) b.secondary) c.args.posting.first in c.filing_of.result ≡ stored_or_12 (run_in_limits filed) filed
secondary_is c =
    let b = c.args.book.now in
    let shares = c.shares_of-shares.ensures in
    let f : SFits w64 c.args.posting.first = fits64 (b_between c.requires.1.0) tt in
    c.filing_of.ensures ∙ ap (λ (r : Run). stored_or_12 (run_in_limits r) r) (λ i. filed_run (owed_by (shares i).secondary.0 b.secondary) (to_z-of_z f i))

primary_is : (c : After-filing_of-2) → let b = c.args.book.now in let filed = filed_run (owed_by (primary_share (rates_of b.division) b.period) b.primary) c.args.posting.second in c.filing_of-2.result ≡ stored_or_12 (run_in_limits filed) filed
primary_is c =
    let b = c.args.book.now in
    let shares = c.shares_of-shares.ensures in
    let f : SFits w64 c.args.posting.second = fits64 (b_between c.requires.1.1.0) tt in
    c.filing_of-2.ensures ∙ ap (λ (r : Run). stored_or_12 (run_in_limits r) r) (λ i. filed_run (owed_by (shares i).primary.0 b.primary) (to_z-of_z f i))

pub invariant_of-on_secondary : goal.invariant_of-on_secondary
invariant_of-on_secondary c =
    let within = (levels c.args.book.now c.requires.0).0 in
    record { in_limits = within; within = level_within _ within }

pub invariant_of-on_primary : goal.invariant_of-on_primary
invariant_of-on_primary c =
    let within = (levels c.args.book.now c.requires.0).1 in
    record { in_limits = within; within = level_within _ within }

pub filing_of-requires : goal.filing_of-requires
filing_of-requires c = between_same (λ i. (c.shares_of-shares.ensures i).secondary.0) (shares_small c.args.book.now (book_within c.args.book.now c.requires.0)).0

pub filing_of-requires-2 : goal.filing_of-requires-2
filing_of-requires-2 c = between_same (λ i. (c.shares_of-shares.ensures i).primary.0) (shares_small c.args.book.now (book_within c.args.book.now c.requires.0)).1

pub returns-in_err-secondary : goal.returns-in_err-secondary
returns-in_err-secondary c =
    let b = c.args.book.now in
    let secondary = secondary_is (goal.at.returns-in_err-secondary c).After-filing_of in
    refused (settlement_decides b c.requires.0 c.requires.2 (rates_of b.division) _ _) _ _ _ _ (first_refuses _ _ _ (sym c.in_err-secondary.was ∙ secondary)) (search rules)

pub returns-in_err-primary : goal.returns-in_err-primary
returns-in_err-primary c =
    let b = c.args.book.now in
    let secondary = stored_within _ _ (sym c.in_ok-secondary.was ∙ secondary_is (goal.at.returns-in_err-primary c).After-filing_of) in
    let primary = primary_is (goal.at.returns-in_err-primary c).After-filing_of-2 in
    refused (settlement_decides b c.requires.0 c.requires.2 (rates_of b.division) _ _) _ _ _ _ (second_refuses _ _ _ secondary.0 (sym c.in_err-primary.was ∙ primary)) (search rules)

pub returns : goal.returns
returns c =
    let b = c.args.book.now in
    let shares = c.shares_of-shares.ensures in
    let secondary = stored_within _ _ (sym c.in_ok-secondary.was ∙ secondary_is (goal.at.returns c).After-filing_of) in
    let primary = stored_within _ _ (sym c.in_ok-primary.was ∙ primary_is (goal.at.returns c).After-filing_of-2) in
    let on_secondary = c.filed-book.ensures ∙ ap (λ (r : Run). filed_level r b.secondary) secondary.1 in
    let on_primary = c.filed-book-2.ensures ∙ ap (λ (r : Run). filed_level r b.primary) primary.1 in
    stored (settlement_decides b c.requires.0 c.requires.2 (rates_of b.division) _ _) _ _ _ (simp (secondary.0, primary.0)) (λ i. FiledLevels (secondary.1 i).factor (primary.1 i).factor) (λ i. settled_with b (shares i).remainder (on_secondary i) (on_primary i))

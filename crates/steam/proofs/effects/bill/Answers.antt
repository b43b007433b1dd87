-- `effects::bill` tests what is due under each run after the bill, and stores it. Assumes nothing.
use Rattle.std.specs.Prelude.{◌≡◌}
use Rattle.std.proofs.Common.{rules, ap, sym, ◌∙◌}
use mathlib.Core.List.{List}
use Rattle.refusals.specs.Rows.{stored_or_12}
use Rattle.refusals.proofs.TableLaws.{stored_within}
use Rattle.amounts.specs.declared.Cents.{Cents}
use Rattle.postings.specs.declared.Answer.TheVariants.{Line}
use Rattle.steam_rules.specs.declared.Reconciliation.{Reconciliation}
use Rattle.steam_rules.specs.Limits.{dues_in_limits, reconciliation_in_limits}
use Rattle.steam_rules.specs.Next.{with_dues, bill_line, bill_posted, next_at, answer_at}
use Rattle.steam_rules.specs.Ranges.{book_within}
use Rattle.steam_rules.proofs.Changed.{bill_decides}
use Rattle.riders.specs.Posts.{first_refuses, second_refuses, refused, stored}
use Rattle.steam.proofs.effects.bill.Goals as goal
use Rattle.steam.proofs.effects.bill.Goals.{After-four_stored, After-stored}

-- what is tested is what the rules test
dues_are : (c : After-four_stored) → c.four_stored.result ≡ stored_or_12 (dues_in_limits (bill_posted c.args.book.now c.args.posting).dues) (bill_posted c.args.book.now c.args.posting).dues
unfolding bill_posted dues_in_limits
dues_are c = c.four_stored.ensures ∙ ap (λ (dues : List Cents). stored_or_12 (dues_in_limits dues) dues) c.dues-dues.ensures

reconciliation_is : (c : After-stored) → c.stored.result ≡ stored_or_12 (reconciliation_in_limits (bill_posted c.args.book.now c.args.posting).reconciliation) (bill_posted c.args.book.now c.args.posting).reconciliation
unfolding bill_posted
reconciliation_is c = c.stored.ensures ∙ ap (λ (r : Reconciliation). stored_or_12 (reconciliation_in_limits r) r) c.reconciliation-reconciliation.ensures

pub invariant_of-bill : goal.invariant_of-bill
invariant_of-bill c = record { book_within = book_within c.args.book.now c.requires.0; ranged = c.requires.1 }

pub returns-in_err-four_stored : goal.returns-in_err-four_stored
unfolding next_at bill_posted
returns-in_err-four_stored c =
    let dues = dues_are (goal.at.returns-in_err-four_stored c).After-four_stored in
    refused (bill_decides c.args.book.now c.requires.0 _ _) _ _ _ _ (first_refuses _ _ _ (sym c.in_err-four_stored.was ∙ dues)) (search rules)

pub returns-in_err-stored : goal.returns-in_err-stored
unfolding next_at bill_posted
returns-in_err-stored c =
    let dues = stored_within _ _ (sym c.in_ok-four_stored.was ∙ dues_are (goal.at.returns-in_err-stored c).After-four_stored) in
    let reconciliation = reconciliation_is (goal.at.returns-in_err-stored c).After-stored in
    refused (bill_decides c.args.book.now c.requires.0 _ _) _ _ _ _ (second_refuses _ _ _ dues.0 (sym c.in_err-stored.was ∙ reconciliation)) (search rules)

pub returns : goal.returns
unfolding next_at answer_at bill_posted bill_line
returns c =
    let b = c.args.book.now in
    let dues = stored_within _ _ (sym c.in_ok-four_stored.was ∙ dues_are (goal.at.returns c).After-four_stored) in
    let reconciliation = stored_within _ _ (sym c.in_ok-stored.was ∙ reconciliation_is (goal.at.returns c).After-stored) in
    stored (bill_decides b c.requires.0 _ _) _ _ _ (simp (dues.0, reconciliation.0)) (λ i. Line (c.lines-lines.ensures i).all) (λ i. with_dues b (c.dues-dues.ensures i) (c.reconciliation-reconciliation.ensures i))

-- `effects::adjust` tests and stores what is carried with the amount. Assumes nothing.
use Rattle.std.specs.Prelude.{◌≡◌, ◌+ℤ◌}
use Rattle.std.proofs.Common.{rules, ap, refl, sym, ◌∙◌}
use Rattle.ints.specs.Bound.{bounds, fits64}
use Rattle.ints.specs.Exact.{exacts, exact}
use Rattle.refusals.specs.Rows.{stored_or_12}
use Rattle.refusals.proofs.TableLaws.{stored_within}
use Rattle.amounts.specs.Amounts.{cents, same_cents, cents_in_limits}
use Rattle.amounts.specs.declared.Cents.{Cents}
use Rattle.steam_rules.specs.Next.{with_account, adjust_posted, next_at, answer_at}
use Rattle.steam_rules.specs.Ranges.{book_within}
use Rattle.steam_rules.proofs.Changed.{carried_decides}
use Rattle.riders.specs.Posts.{refused, stored}
use Rattle.steam.proofs.effects.adjust.Goals as goal
use Rattle.steam.proofs.effects.adjust.Goals.{After-stored}

-- what is tested is the account that the rules test
tested_is : (c : After-stored) → c.stored.result ≡ stored_or_12 (cents_in_limits (cents (c.args.book.now.carried.0 +ℤ c.args.posting.first))) (cents (c.args.book.now.carried.0 +ℤ c.args.posting.first))
tested_is c =
    let k = (book_within c.args.book.now c.requires.0).carried in
    let n = c.requires.1.0 in
    c.stored.ensures ∙ ap (λ (amount : Cents). stored_or_12 (cents_in_limits amount) amount) (same_cents (exact (search (exacts, k, n) depth 30) tt))

pub overflow_add-carried : goal.overflow_add-carried
overflow_add-carried c =
    let k = (book_within c.args.book.now c.requires.0).carried in
    let n = c.requires.1.0 in
    fits64 (search (bounds, k, n) depth 30) tt

pub returns-in_err-book : goal.returns-in_err-book
unfolding next_at adjust_posted
returns-in_err-book c =
    let b = c.args.book.now in
    let tested = tested_is (goal.at.returns-in_err-book c).After-stored in
    refused (carried_decides b c.requires.0 _) _ _ _ _ (sym c.in_err-book.was ∙ tested) (search rules)

pub returns : goal.returns
unfolding next_at answer_at adjust_posted
returns c =
    let b = c.args.book.now in
    let carried = stored_within _ _ (sym c.in_ok-book.was ∙ tested_is (goal.at.returns c).After-stored) in
    stored (carried_decides b c.requires.0 _) _ _ _ carried.0 refl (λ i. with_account b (carried.1 i) b.reconciliation)

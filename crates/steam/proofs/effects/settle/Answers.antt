-- `effects::settle` files the share over the determinants, and stores the settled quarter with it. Assumes nothing.
use Rattle.std.specs.Prelude.{◌≡◌}
use Rattle.std.proofs.Common.{rules, sym, ◌∙◌}
use mir.Syntax.{w64}
use mir.Val.{to_z, of_z}
use mir.Facts.{to_z-of_z}
use Rattle.ints.specs.Bound.{b_between, fits64}
use Rattle.refusals.specs.Rows.{stored_or_12}
use Rattle.refusals.proofs.TableLaws.{stored_within}
use Rattle.postings.specs.declared.Answer.TheVariants.{Filed}
use Rattle.riders.specs.Runs.{run_in_limits, filed_run}
use Rattle.steam_rules.specs.Book.{mmbtu, same_mmbtu}
use Rattle.steam_rules.specs.Next.{settled_with, filed_factor, settle_posted, next_at, answer_at}
use Rattle.steam_rules.specs.Settlement.{determinants_of}
use Rattle.steam_rules.specs.Quarters.{determinants_within}
use Rattle.steam_rules.specs.Ranges.{book_within}
use Rattle.steam_rules.proofs.Changed.{settle_decides}
use Rattle.steam_settlement.specs.Determinants.{determinants_or0, determinants_or0_is}
use Rattle.steam_settlement.specs.Shares.{shared_or0_is}
use Rattle.riders.specs.Posts.{refused, stored}
use Rattle.steam.proofs.effects.settle.Goals as goal
use Rattle.steam.proofs.effects.settle.Goals.{After-filed}

-- the determinants, as they are read back from their bits
determined : (c : After-filed) → to_z w64 (of_z w64 c.determinants_of-determinants.result.0) ≡ determinants_of c.args.book.now.period.sales.0 c.args.book.now.quarters c.args.posting.first
determined c =
    let b = c.args.book.now in
    let w = book_within b c.requires.0 in
    let adjustment = c.requires.1.0 in
    let given =
    c.determinants_of-determinants.ensures
    ∙ (λ i. mmbtu (determinants_or0 b.period.sales b.quarters (to_z-of_z (fits64 (b_between adjustment) tt) i)))
    ∙ same_mmbtu (determinants_or0_is b.period.sales b.quarters c.args.posting.first w.period.sales w.quarters adjustment) in
    let within = determinants_within b.period.sales.0 b.quarters w.period.sales w.quarters c.args.posting.first adjustment in
    (λ i. to_z w64 (of_z w64 (given i).0)) ∙ to_z-of_z (fits64 (b_between within) tt)

-- what is filed is what the rules test
filed_is : (c : After-filed) → c.filed.result ≡ stored_or_12 (run_in_limits (settle_posted c.args.book.now c.args.posting).pending) (settle_posted c.args.book.now c.args.posting).pending
unfolding settle_posted filed_factor
filed_is c =
    let b = c.args.book.now in
    let shared = c.shared_of-shared.ensures ∙ shared_or0_is b.period (book_within b c.requires.0).period in
    let read = determined c in
    c.filed.ensures ∙ (λ i. stored_or_12 (run_in_limits (filed_run (shared i).share.0 (read i))) (filed_run (shared i).share.0 (read i)))

pub returns-in_err-filed : goal.returns-in_err-filed
unfolding next_at settle_posted
returns-in_err-filed c =
    let b = c.args.book.now in
    refused (settle_decides b c.requires.0 _ c.requires.2) _ _ _ _ (sym c.in_err-filed.was ∙ filed_is (goal.at.returns-in_err-filed c).After-filed) (search rules)

pub returns : goal.returns
unfolding next_at answer_at settle_posted
returns c =
    let b = c.args.book.now in
    let shared = c.shared_of-shared.ensures ∙ shared_or0_is b.period (book_within b c.requires.0).period in
    let filed = stored_within _ _ (sym c.in_ok-filed.was ∙ filed_is (goal.at.returns c).After-filed) in
    stored (settle_decides b c.requires.0 _ c.requires.2) _ _ _ filed.0 (λ i. Filed (filed.1 i).factor) (λ i. settled_with b (shared i).period (c.shifted-book.ensures i) (filed.1 i))

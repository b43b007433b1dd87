-- `effects::reconcile` files the account, and stores it as the reconciliation. Assumes nothing.
use Rattle.std.specs.Prelude.{◌≡◌, ◌⊎◌, ℤ, pos, nat_abs}
use Rattle.std.proofs.Common.{rules, ap, refl, sym, inl, inr, ◌∙◌}
use mir.Syntax.{w64}
use mir.Val.{SFits, to_z, of_z}
use mir.Facts.{to_z-of_z}
use Rattle.ints.specs.Bound.{b_between, fits64}
use Rattle.refusals.specs.Rows.{stored_or_12}
use Rattle.refusals.proofs.TableLaws.{stored_within}
use Rattle.amounts.specs.Amounts.{cents}
use Rattle.riders.specs.Runs.{run_in_limits, filed_run}
use Rattle.steam_rules.specs.Book.{reconciliation_of}
use Rattle.steam_rules.specs.Next.{with_account, reconcile_posted, next_at, answer_at}
use Rattle.steam_rules.proofs.Changed.{reconcile_decides}
use Rattle.riders.specs.Posts.{refused, stored}
use Rattle.steam.proofs.effects.reconcile.Goals as goal
use Rattle.steam.proofs.effects.reconcile.Goals.{After-filed}

-- 12 or 24 months in a byte
months_read : (z : ℤ) → (z ≡ pos 12) ⊎ (z ≡ pos 24) → nat_abs (to_z w64 (of_z w64 z)) ≡ nat_abs z
months_read z (inl e) = ap (λ (z : ℤ). nat_abs (to_z w64 (of_z w64 z))) e ∙ ap nat_abs (sym e)
months_read z (inr e) = ap (λ (z : ℤ). nat_abs (to_z w64 (of_z w64 z))) e ∙ ap nat_abs (sym e)

-- what is filed is what the rules test
filed_is : (c : After-filed) → c.filed.result ≡ stored_or_12 (run_in_limits (filed_run c.args.book.now.carried.0 c.args.posting.second)) (filed_run c.args.book.now.carried.0 c.args.posting.second)
filed_is c =
    let sales : SFits w64 c.args.posting.second = fits64 (b_between c.requires.1.1.0) tt in
    c.filed.ensures ∙ (λ i. stored_or_12 (run_in_limits (filed_run c.args.book.now.carried.0 (to_z-of_z sales i))) (filed_run c.args.book.now.carried.0 (to_z-of_z sales i)))

pub returns-in_err-run : goal.returns-in_err-run
unfolding next_at reconcile_posted
returns-in_err-run c =
    let p = c.args.posting in
    refused (reconcile_decides c.args.book.now c.requires.0 (filed_run c.args.book.now.carried.0 p.second) p.first c.requires.1.0) _ _ _ _ (sym c.in_err-run.was ∙ filed_is (goal.at.returns-in_err-run c).After-filed) (search rules)

pub returns : goal.returns
unfolding next_at answer_at reconcile_posted
returns c =
    let b = c.args.book.now in
    let p = c.args.posting in
    let filed = stored_within _ _ (sym c.in_ok-run.was ∙ filed_is (goal.at.returns c).After-filed) in
    let months = months_read p.first c.requires.1.0 in
    stored (reconcile_decides b c.requires.0 (filed_run b.carried.0 p.second) p.first c.requires.1.0) _ _ _ filed.0 refl (λ i. with_account b (cents (pos 0)) (reconciliation_of (filed.1 i) (months i)))

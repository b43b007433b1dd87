-- `Run::filed` is the cents owed with their factor where both lie within their limits, and row 12's refusal where one does not. Assumes nothing.
use Rattle.std.specs.Prelude.{◌≡◌, Bool, true, false, ◌&&◌, pos, ◌*ℤ◌, Result, Err, Ok}
use Rattle.std.proofs.Common.{rules, ap, sym, subst, ◌∙◌}
use lib.IntN.{ℤ}
use mir.Syntax.{w64}
use mir.Val.{SFits, to_z, of_z}
use mir.Facts.{to_z-of_z}
use Rattle.ints.specs.Bound.{bounds, fits64}
use Rattle.ints.specs.Exact.{exacts, exact}
use Rattle.ints.specs.Flags.{and_false}
use Rattle.ints.specs.Range.{Within}
use Rattle.rounding.specs.Round.{round}
use Rattle.refusals.specs.Rows.{stored_or_12}
use Rattle.refusals.specs.declared.Refusal.{Refusal}
use Rattle.refusals.specs.declared.Refusal.TheVariants.{NextOutOfLimits}
use Rattle.refusals.proofs.TableLaws.{stored_within, refused_within}
use Rattle.amounts.specs.declared.Cents.{Cents}
use Rattle.amounts.specs.Amounts.{cents, points, cents_in_limits, points_in_limits, cents_within}
use Rattle.riders.specs.declared.Run.{Run}
use Rattle.riders.specs.Runs.{factor_for, filed_run, run_in_limits}
use Rattle.riders.proofs.Run.filed.Goals as goal
use Rattle.riders.proofs.Run.filed.Goals.{After-round_div-quotient}

module _ (owed sales : ℤ) where
  due_out : cents_in_limits (cents owed) ≡ false → run_in_limits (filed_run owed sales) ≡ false
  unfolding run_in_limits
  due_out e = simp (e, and_false)

  factor_out : points_in_limits (points (factor_for owed sales)) ≡ false → run_in_limits (filed_run owed sales) ≡ false
  unfolding run_in_limits
  factor_out e = simp e

  refused : run_in_limits (filed_run owed sales) ≡ false → {result : Result Run Refusal} {refusal : Refusal} → result ≡ Err refusal → refusal ≡ NextOutOfLimits → result ≡ stored_or_12 (run_in_limits (filed_run owed sales)) (filed_run owed sales)
  refused out e r = e ∙ ap Err r ∙ sym (ap (λ (t : Bool). stored_or_12 t (filed_run owed sales)) out)

pub returns-in_err-due : goal.returns-in_err-due
returns-in_err-due c =
    let out = refused_within _ _ c.in_err-due.ensures in
    refused c.args.owed.0 c.args.sales (due_out _ _ out.0) (search rules) out.1

pub overflow_mul-due : goal.overflow_mul-due
overflow_mul-due c =
    let due = stored_within _ _ c.in_ok-due.ensures in
    let within : Within 1000000000000 c.in_ok-due.due.0 = subst (λ (d : Cents). Within 1000000000000 d.0) (sym due.1) (cents_within _ due.0) in
    fits64 (search (bounds, within) depth 30) tt

-- what was worked out of cents within their limits
quotient_is : (c : After-round_div-quotient) → (cents_in_limits c.args.owed ≡ true) × (to_z w64 (of_z w64 c.round_div-quotient.result) ≡ factor_for c.args.owed.0 c.args.sales)
unfolding factor_for
quotient_is c =
    let due = stored_within _ _ c.in_ok-due.ensures in
    let within : Within 1000000000000 c.in_ok-due.due.0 = subst (λ (d : Cents). Within 1000000000000 d.0) (sym due.1) (cents_within _ due.0) in
    let r : SFits w64 c.round_div-quotient.result = search rules in
    let s : SFits w64 c.args.sales = search rules in
    let hundredfold : to_z w64 (of_z w64 (pos 100 *ℤ to_z w64 (of_z w64 c.in_ok-due.due.0))) ≡ pos 100 *ℤ c.in_ok-due.due.0 = exact (search (exacts, within) depth 30) tt in
    (due.0, to_z-of_z r ∙ c.round_div-quotient.ensures ∙ (λ i. round ((hundredfold ∙ ap (λ (d : Cents). pos 100 *ℤ d.0) due.1) i) (to_z-of_z s i)))

pub returns-in_err-factor : goal.returns-in_err-factor
returns-in_err-factor c =
    let out = refused_within _ _ c.in_err-factor.ensures in
    let q = quotient_is (goal.at.returns-in_err-factor c).After-round_div-quotient in
    refused c.args.owed.0 c.args.sales (factor_out _ _ (sym (ap (λ (z : ℤ). points_in_limits (points z)) q.1) ∙ out.0)) (search rules) out.1

pub returns : goal.returns
unfolding run_in_limits
returns c =
    let due = stored_within _ _ c.in_ok-due.ensures in
    let factor = stored_within _ _ c.in_ok-factor.ensures in
    let q = quotient_is (goal.at.returns c).After-round_div-quotient in
    let factor_is = factor.1 ∙ ap points q.1 in
    let factor_in = sym (ap (λ (z : ℤ). points_in_limits (points z)) q.1) ∙ factor.0 in
    ap Ok (λ i. record { factor = factor_is i; due = due.1 i })
    ∙ sym (λ i. stored_or_12 (factor_in i && due.0 i) (filed_run c.args.owed.0 c.args.sales))

-- The limits of a book of which some parts are changed: where the book was within its limits, the changed parts decide (01, Refusals, 6 and
-- 12). Assumes nothing.
use Rattle.std.specs.Prelude.{◌≡◌, refl, true, ◌&&◌, List, [], ◌∷◌, ℕ, zero, suc, ◌≤◌, ℤ, pos, nat_abs, leb, Option, Some, None}
use Rattle.std.proofs.Common.{ap, ◌∙◌, subst, arith, leb-true}
use Rattle.std.proofs.Math.Bool.{and-true}
use Rattle.std.proofs.lemmas.Bool.{ne_eqb}
use borrow.Author.Tests.{le-leb}
use mathlib.Core.Logic.{◌⊎◌, inl, inr}
use Rattle.ints.specs.Flags.{both}
use Rattle.ints.specs.Order.{signed}
use Rattle.ints.specs.Range.{in_range}
use Rattle.rounding.proofs.RoundLaws.{round_leaves}
use Rattle.amounts.specs.Amounts.{cents, cents_in_limits, points_in_limits}
use Rattle.amounts.specs.declared.Cents.{Cents}
use Rattle.riders.specs.Months.{next_month, settled_month}
use Rattle.riders.specs.Runs.{run_in_limits}
use Rattle.riders.specs.declared.Run.{Run}
use Rattle.steam_rules.specs.declared.Mmbtu.{Mmbtu}
use Rattle.steam_rules.specs.declared.Period.{Period}
use Rattle.steam_rules.specs.declared.Reconciliation.{Reconciliation}
use Rattle.steam_rules.specs.declared.SteamBook.{SteamBook}
use Rattle.steam_rules.specs.Book.{mmbtu, period_of, reconciliation_of, no_reconciliation}
use Rattle.steam_rules.specs.Calendar.{settles, entering}
use Rattle.steam_rules.specs.Settlement.{shareable_of, share_of, remainder_after, shifted}
use Rattle.steam_rules.specs.Next.{with_period, with_dues, with_account, settled_with, entered, month_lost, reconciled, month_ended}
use Rattle.steam_rules.specs.Limits.{mmbtu_in_limits, period_in_limits, quarters_in_limits, factors_in_limits, dues_in_limits, reconciliation_in_limits, runs_in_limits, in_limits}
use Rattle.steam_rules.specs.Fours.{Four, one_by_one, set_four}
use Rattle.steam_rules.specs.Ranges.{Others, MmbtuWithin, tested, period_yes, quarters_yes, book_within}
use Rattle.steam_rules.specs.Quarters.{quarter_at, shifted_four}

-- ---- cost and sales: the open quarter

module _ (b : SteamBook) (within : in_limits b ≡ true) where
  period_decides : (period : Period) → in_limits (with_period b period) ≡ period_in_limits period
  unfolding in_limits runs_in_limits
  period_decides period =
      let t = tested b within in
      let o = t.0 in
      simp (o.month, o.quarters, t.1, o.pending, o.factors, o.dues, o.reconciliation, and-true)

  pub cost_decides : (cost : ℤ) → in_limits (with_period b (period_of cost b.period.sales.0 b.period.remainder.0)) ≡ cents_in_limits (cents cost)
  unfolding period_in_limits
  cost_decides cost =
      let k = both (cents_in_limits b.period.cost) _ (tested b within).0.period in
      let s = both (mmbtu_in_limits b.period.sales) _ k.1 in
      period_decides _ ∙ (λ i. cents_in_limits (cents cost) && (s.0 i && s.1 i)) ∙ and-true _

  pub sales_decides : (sales : ℤ) → in_limits (with_period b (period_of b.period.cost.0 sales b.period.remainder.0)) ≡ mmbtu_in_limits (mmbtu sales)
  unfolding period_in_limits
  sales_decides sales =
      let k = both (cents_in_limits b.period.cost) _ (tested b within).0.period in
      let s = both (mmbtu_in_limits b.period.sales) _ k.1 in
      period_decides _ ∙ (λ i. k.0 i && (mmbtu_in_limits (mmbtu sales) && s.1 i)) ∙ and-true _

  -- ---- a bill: what is due

  pub bill_decides : (dues : List Cents) (r : Reconciliation) → in_limits (with_dues b dues r) ≡ dues_in_limits dues && reconciliation_in_limits r
  unfolding in_limits runs_in_limits
  bill_decides dues r =
      let t = tested b within in
      let o = t.0 in
      simp (o.month, o.period, o.quarters, t.1, o.pending, o.factors)

  -- ---- adjust and reconcile: the account and the reconciliation

  account_decides : (carried : Cents) (r : Reconciliation) → in_limits (with_account b carried r) ≡ cents_in_limits carried && reconciliation_in_limits r
  unfolding in_limits runs_in_limits
  account_decides carried r =
      let o = (tested b within).0 in
      simp (o.month, o.period, o.quarters, o.pending, o.factors, o.dues)

  pub carried_decides : (carried : Cents) → in_limits (with_account b carried b.reconciliation) ≡ cents_in_limits carried
  carried_decides carried = account_decides carried b.reconciliation ∙ simp ((tested b within).0.reconciliation, and-true)

  -- a reconciliation begins over 12 or 24 months
  begins_within : (filed : Run) (months : ℤ) → (months ≡ pos 12) ⊎ (months ≡ pos 24) → reconciliation_in_limits (reconciliation_of filed (nat_abs months)) ≡ run_in_limits filed
  unfolding reconciliation_in_limits
  begins_within filed months (inl e) = ap (λ (z : ℤ). reconciliation_in_limits (reconciliation_of filed (nat_abs z))) e ∙ and-true _
  begins_within filed months (inr e) = ap (λ (z : ℤ). reconciliation_in_limits (reconciliation_of filed (nat_abs z))) e ∙ and-true _

  pub reconcile_decides : (filed : Run) (months : ℤ) → (months ≡ pos 12) ⊎ (months ≡ pos 24) → in_limits (with_account b (cents (pos 0)) (reconciliation_of filed (nat_abs months))) ≡ run_in_limits filed
  unfolding cents_in_limits in_range
  reconcile_decides filed months h = account_decides (cents (pos 0)) _ ∙ begins_within filed months h

  -- ---- settle: the run that is filed, in a month that settles

  settled_period : (p : Period) → period_in_limits (period_of (pos 0) (pos 0) (remainder_after p)) ≡ true
  unfolding remainder_after share_of
  settled_period p = period_yes _ (record { cost = omega signed; sales = omega signed; remainder = round_leaves 5000 (shareable_of p) (omega arith) })

  settled_quarters : quarters_in_limits (shifted b.quarters b.period.sales) ≡ true
  settled_quarters =
      let w = book_within b within in
      let past : ℕ → Mmbtu = quarter_at b.quarters in
      let each = one_by_one (mmbtu (pos 0)) w.quarters in
      let four : Four MmbtuWithin (past 1 ∷ past 2 ∷ past 3 ∷ b.period.sales ∷ []) = record { count = refl; each = (each.1, (each.2, (each.3, (w.period.sales, tt)))) } in
      quarters_yes _ (subst (λ (qs : List Mmbtu). Four MmbtuWithin qs) (shifted_four b.quarters w.quarters.count b.period.sales) four)

  pub settle_decides :
      (filed : Run) → settles b.month ≡ true →
      in_limits (settled_with b (period_of (pos 0) (pos 0) (remainder_after b.period)) (shifted b.quarters b.period.sales) filed) ≡ run_in_limits filed
  unfolding in_limits runs_in_limits
  settle_decides filed s =
      let t = tested b within in
      let o = t.0 in
      simp (settled_month b.month (settles b.month) b.settled o.month s, settled_period b.period, settled_quarters, t.1, o.factors, o.dues, o.reconciliation, and-true)

-- ---- a month's end: what is carried, since the other parts were within their limits wherever they stood

entered_others : (run : Option ℕ) (b : SteamBook) → Others b → Others (entered run b)
unfolding entered factors_in_limits dues_in_limits run_in_limits cents_in_limits points_in_limits in_range
entered_others None b o = o
entered_others (Some i) b o =
    let p = both (points_in_limits b.pending.factor) _ o.pending in
    record {
      month = o.month;
      period = o.period;
      quarters = o.quarters;
      pending = refl;
      factors = set_four points_in_limits b.factors i b.pending.factor o.factors p.0;
      dues = set_four cents_in_limits b.dues i b.pending.due o.dues p.1;
      reconciliation = o.reconciliation;
    }

none_runs : reconciliation_in_limits no_reconciliation ≡ true
unfolding reconciliation_in_limits run_in_limits cents_in_limits points_in_limits in_range
none_runs = refl

fewer_months : (r : Reconciliation) (left : ℕ) → r.months ≡ suc (suc left) → reconciliation_in_limits r ≡ true → reconciliation_in_limits (reconciliation_of r.run (suc left)) ≡ true
unfolding reconciliation_in_limits
fewer_months r left e h =
    let m = both (leb r.months 24) _ h in
    let few : r.months ≤ 24 = leb-true _ 24 m.0 in
    let fewer : suc left ≤ 24 = omega arith in
    simp (le-leb (suc left) 24 fewer, (both (run_in_limits r.run) _ m.1).0, ne_eqb (suc left) 0 (λ z. omega arith))

account_others : (b : SteamBook) (carried : Cents) (r : Reconciliation) → Others b → reconciliation_in_limits r ≡ true → Others (with_account b carried r)
account_others b carried r o e =
    record { month = o.month; period = o.period; quarters = o.quarters; pending = o.pending; factors = o.factors; dues = o.dues; reconciliation = e }

lost_others : (months : ℕ) (b : SteamBook) → b.reconciliation.months ≡ months → Others b → Others (month_lost months b)
lost_others zero b e o = o
lost_others (suc zero) b e o = account_others b _ _ o none_runs
lost_others (suc (suc left)) b e o = account_others b _ _ o (fewer_months b.reconciliation left e o.reconciliation)

others_within : (b : SteamBook) → Others b → in_limits b ≡ cents_in_limits b.carried
unfolding in_limits runs_in_limits
others_within b o = simp (o.month, o.period, o.quarters, o.pending, o.factors, o.dues, o.reconciliation, and-true)

pub month_end_decides : (b : SteamBook) → in_limits b ≡ true → in_limits (month_ended b) ≡ cents_in_limits (month_ended b).carried
unfolding month_ended reconciled
month_end_decides b within =
    let o = lost_others _ _ refl (entered_others (entering b.month) b (tested b within).0) in
    others_within (month_ended b)
    (record { month = next_month b.month _; period = o.period; quarters = o.quarters; pending = o.pending; factors = o.factors; dues = o.dues; reconciliation = o.reconciliation })

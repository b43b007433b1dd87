-- No cent is lost: what book and tally share is so of a fresh book, each posting keeps it, and so does a list of them; the claim follows
-- from it. Assumes nothing.
use mathlib.Core.Path.{◌≡◌, refl, sym, ap, subst, ◌∙◌}
use mathlib.Core.Bool.{Bool, true, false, cond, not, true≢false}
use Prim.Native.Nat.{ℕ}
use lib.Dec.{leb, eqb}
use lib.IntN.{ℤ, pos, ◌+ℤ◌, ◌-ℤ◌, ◌*ℤ◌}
use borrow.Author.Tests.{not-false}
use Rattle.std.specs.Prelude.{is_none, Result, Ok, Err, is_ok}
use Rattle.std.specs.Result.{result_unwrap_or}
use Rattle.ints.specs.Flags.{both}
use Rattle.ints.specs.Range.{Within}
use Rattle.refusals.specs.declared.Refusal.{Refusal}
use Rattle.refusals.proofs.TableLaws.{by_table_lem}
use Rattle.postings.specs.Kinds.{kind_of, table_of, unknown_kind}
use Rattle.postings.specs.declared.kinds.Kind.{Kind}
use Rattle.postings.specs.declared.kinds.Kind.TheVariants.{Cost, Sales, Bill, Settle, MonthEnd, Adjust, Reconcile, Unknown}
use Rattle.postings.specs.declared.Book.TheVariants.{Electric}
use Rattle.postings.specs.declared.Posting.{Posting}
use Rattle.postings.specs.declared.Answer.{Answer}
use Rattle.riders.specs.Months.{month_in_limits, forbidden}
use Rattle.riders.specs.Rules.{left_by, answered_by, by_rules}
use Rattle.riders.specs.Histories.{line_answered, entry_of, kept_after}
use Rattle.electric_rules.proofs.Waiting.{months_turn}
use Rattle.electric_rules.proofs.Shares.{Shared, settled_shared}
use Rattle.electric_rules.proofs.Provisional.{none_unsold}
use Rattle.electric_rules.proofs.LevelSteps.{LevelKept, billed_keeps, adjusted_keeps, settled_keeps, ended_keeps}
use Rattle.electric_rules.specs.declared.Rates.{Rates}
use Rattle.electric_rules.specs.declared.Period.{Period}
use Rattle.electric_rules.specs.declared.Sales.{Sales as OpenSales}
use Rattle.electric_rules.specs.declared.Level.{Level}
use Rattle.electric_rules.specs.declared.ElectricBook.{ElectricBook}
use Rattle.electric_rules.specs.Book.{sales_of, period_of, fresh_level, fresh_of, opening_rows, opened_of}
use Rattle.electric_rules.specs.Calendar.{settles, entering}
use Rattle.electric_rules.specs.Rates.{rates_lp, rates_mps, rates_of}
use Rattle.electric_rules.specs.Settlement.{remainder_after, secondary_share, primary_share, no_kwh, provisional_share}
use Rattle.electric_rules.specs.Levels.{held_by}
use Rattle.electric_rules.specs.Next.{with_period, with_levels, is_secondary, cost_posted, sales_posted, next_at, answer_at}
use Rattle.electric_rules.specs.Limits.{dates_in_limits, in_limits}
use Rattle.electric_rules.specs.Refusals.{rules}
use Rattle.electric_rules.specs.Tally.{LevelTally, Tally, fresh_level_tally, fresh_tally, with_period_tally, with_level_tallies, cost_counted, sales_counted, line_counted, share_counted, settle_counted, interest_counted, month_counted, adjustment_counted, count_at, count_of}
use Rattle.electric_rules.specs.Claim.{Balances, NoCentLost}
use Rattle.riders.specs.Waiting as waiting
use Rattle.riders.specs.Sharing as sharing

-- nothing can be pending
abbrev clear_in : ElectricBook → Bool
clear_in b = waiting.clear settles entering b.month b.settled

-- what book and tally share
record Kept (rates : Rates) (b : ElectricBook) (t : Tally) : Type 0 where
  division : rates_of b.division ≡ rates
  period : b.period ≡ t.period
  secondary : LevelKept (clear_in b) b.secondary t.secondary
  primary : LevelKept (clear_in b) b.primary t.primary
  shares : Shared rates t
  -- a settled month has no kWh, which is all that the tally, with no settled month of its own, needs to know of it
  unsold : b.settled ≡ true → no_kwh t.period ≡ true

-- ---- an accepted posting, by kind

module _ (rates : Rates) (b : ElectricBook) (t : Tally) (p : Posting) (k : Kept rates b t) where
  -- the tally takes the line from an answer
  abbrev Keeps : Kind → Type 0
  Keeps kind = Kept rates (next_at kind b p) (count_at kind rates t p (line_answered kind (Ok (answer_at kind b p))))

  -- cost and sales change the period alone, and not its remainder
  period_keeps :
      (cost_after : Period → ℤ) (sales_after : Period → OpenSales) → (b.settled ≡ true → no_kwh (period_of (cost_after t.period) (sales_after t.period) t.period.remainder.0) ≡ true) →
      Kept rates (with_period b (period_of (cost_after b.period) (sales_after b.period) b.period.remainder.0))
      (with_period_tally t (period_of (cost_after t.period) (sales_after t.period) t.period.remainder.0))
  period_keeps cost_after sales_after unsold =
      record {
        division = k.division;
        period = ap (λ (q : Period). period_of (cost_after q) (sales_after q) q.remainder.0) k.period;
        secondary = k.secondary;
        primary = k.primary;
        shares = k.shares;
        unsold = unsold;
      }

  cost_keeps : Keeps Cost
  unfolding cost_counted
  cost_keeps = period_keeps (λ q. (cost_posted (with_period b q) p).period.cost.0) (λ q. q.sales) k.unsold

  sales_keeps : b.settled ≡ false → Keeps Sales
  unfolding sales_counted
  sales_keeps allowed = period_keeps (λ q. q.cost.0) (λ q. (sales_posted (with_period b q) p).period.sales) (λ settled. absurd (true≢false (sym settled ∙ allowed)))

  -- bill and adjust change the level that they name alone, and not its shares
  levels_keep :
      (l m : Level) (u v : LevelTally) → u.shares ≡ t.secondary.shares → v.shares ≡ t.primary.shares →
      LevelKept (clear_in b) l u → LevelKept (clear_in b) m v → Kept rates (with_levels b l m) (with_level_tallies t u v)
  levels_keep l m u v e f secondary primary =
      record {
        division = k.division;
        period = k.period;
        secondary = secondary;
        primary = primary;
        shares = subst (λ (shares : ℤ). sharing.Shared 50000 rates.percentage shares t.period.remainder.0 t.variances) (λ i. sym e i +ℤ sym f i) k.shares;
        unsold = k.unsold;
      }

  one_level :
      (first : Bool) (l : Level) (u : LevelTally) → u.shares ≡ (cond first t.secondary t.primary).shares → LevelKept (clear_in b) l u →
      Kept rates (cond first (with_levels b l b.primary) (with_levels b b.secondary l))
      (cond first (with_level_tallies t u t.primary) (with_level_tallies t t.secondary u))
  one_level true l u same kept = levels_keep l b.primary u t.primary same refl kept k.primary
  one_level false l u same kept = levels_keep b.secondary l t.secondary u refl same k.secondary kept

  level_kept : (first : Bool) → LevelKept (clear_in b) (cond first b.secondary b.primary) (cond first t.secondary t.primary)
  level_kept true = k.secondary
  level_kept false = k.primary

  bill_keeps : Keeps Bill
  unfolding line_counted
  bill_keeps = one_level (is_secondary p.first) _ _ refl (billed_keeps _ _ (level_kept (is_secondary p.first)) p.second)

  adjust_keeps : Keeps Adjust
  unfolding adjustment_counted
  adjust_keeps = one_level (is_secondary p.first) _ _ refl (adjusted_keeps _ _ (level_kept (is_secondary p.first)) p.second)

  settle_keeps : forbidden Settle (settles b.month) b.settled ≡ false → Keeps Settle
  unfolding settle_counted share_counted waiting.clear
  settle_keeps allowed =
      let nothing = waiting.settle_clear settles entering b.month b.settled allowed in
      record {
        division = k.division;
        period = λ i. period_of (pos 0) (sales_of (pos 0) (pos 0)) (remainder_after (k.division i) (k.period i));
        secondary = settled_keeps b.secondary t.secondary k.secondary _ _ p.first (λ i. secondary_share (k.division i) (k.period i)) nothing;
        primary = settled_keeps b.primary t.primary k.primary _ _ p.second (λ i. primary_share (k.division i) (k.period i)) nothing;
        shares = settled_shared rates t k.shares;
        unsold = λ settled. refl;
      }

  dates : not (in_limits b) ≡ false → month_in_limits b.month (settles b.month) b.settled ≡ true
  dates e = (both (leb b.division 1) _ (both (dates_in_limits b) _ (not-false _ e)).0).1

  -- in a settled month the book has no provisional share, and the tally, which does not know, no kWh
  same_provisional : (share : Rates → Period → ℤ) → provisional_share share (rates_of b.division) b.settled b.period ≡ provisional_share share rates false t.period
  same_provisional share = (λ i. provisional_share share (k.division i) b.settled (k.period i)) ∙ go b.settled k.unsold
    where
      go : (settled : Bool) → (settled ≡ true → no_kwh t.period ≡ true) → provisional_share share rates settled t.period ≡ provisional_share share rates false t.period
      go true unsold = none_unsold share rates t.period true (unsold refl) ∙ sym (none_unsold share rates t.period false (unsold refl))
      go false unsold = refl

  month_keeps : not (in_limits b) ≡ false → forbidden MonthEnd (settles b.month) b.settled ≡ false → Keeps MonthEnd
  unfolding month_counted interest_counted
  month_keeps limits allowed =
      let turn = waiting.month_turns settles entering months_turn b.month b.settled (dates limits) allowed in
      record {
        division = k.division;
        period = k.period;
        secondary = ended_keeps b.secondary t.secondary k.secondary p.first (same_provisional secondary_share) _ (entering b.month) turn;
        primary = ended_keeps b.primary t.primary k.primary p.first (same_provisional primary_share) _ (entering b.month) turn;
        shares = k.shares;
        unsold = λ settled. absurd (true≢false (sym settled));
      }

  kind_keeps : (kind : Kind) → is_none (table_of Electric kind) ≡ false → not (in_limits b) ≡ false → forbidden kind (settles b.month) b.settled ≡ false → Keeps kind
  kind_keeps Cost known limits allowed = cost_keeps
  kind_keeps Sales known limits allowed = sales_keeps allowed
  kind_keeps Bill known limits allowed = bill_keeps
  kind_keeps Settle known limits allowed = settle_keeps allowed
  kind_keeps MonthEnd known limits allowed = month_keeps limits allowed
  kind_keeps Adjust known limits allowed = adjust_keeps
  kind_keeps Reconcile known limits allowed = absurd (true≢false known)
  kind_keeps Unknown known limits allowed = absurd (true≢false known)

-- ---- a posting, accepted or refused

posting_keeps : (rates : Rates) (b : ElectricBook) (t : Tally) (p : Posting) → Kept rates b t → Kept rates (left_by rules b p) (count_of rates t (entry_of p (answered_by rules b p)))
unfolding count_of unknown_kind
posting_keeps rates b t p k =
    by_rules rules (λ (next : ElectricBook) (answer : Result Answer Refusal). Kept rates next (count_of rates t (entry_of p answer))) b p
    (λ none. kind_keeps rates b t p k (kind_of p.kind) none.0 none.1.1.0 none.1.1.1.1.0)
    (λ refusal. k)

-- ---- a list of postings to an opened book

fresh_kept : (division : ℕ) → Kept (rates_of division) (fresh_of division) fresh_tally
unfolding held_by
fresh_kept division =
    let level : LevelKept _ fresh_level fresh_level_tally = record { balances = refl; accrued = refl; pending = λ c. refl } in
    record {
      division = refl;
      period = refl;
      secondary = level;
      primary = level;
      shares = sharing.none_shared 50000 (rates_of division).percentage;
      unsold = λ settled. refl;
    }

opened_kept : (division : ℕ) (fresh : ElectricBook) → opened_of division ≡ Ok fresh → Kept (rates_of division) fresh fresh_tally
unfolding opened_of
opened_kept division fresh =
    by_table_lem (λ (r : Result ElectricBook Refusal). r ≡ Ok fresh → Kept (rates_of division) fresh fresh_tally) (opening_rows division) (Ok (fresh_of division)) Err
    (λ none opened. subst (λ (b : ElectricBook). Kept (rates_of division) b fresh_tally) (ap (λ (r : Result ElectricBook Refusal). result_unwrap_or r fresh) opened) (fresh_kept division))
    (λ refusal opened. absurd (true≢false (sym (ap is_ok opened))))

-- the customers' percentage of either division
percentage_95 : (division : ℕ) → (rates_of division).percentage ≡ pos 95
percentage_95 division = go (eqb division 0)
  where
    go : (t : Bool) → (cond t rates_lp rates_mps).percentage ≡ pos 95
    go true = refl
    go false = refl

balances : (rates : Rates) → rates.percentage ≡ pos 95 → (b : ElectricBook) (t : Tally) → Kept rates b t → Balances b t
balances rates e b t k =
    record {
      secondary = k.secondary.balances;
      primary = k.primary.balances;
      shares = subst (λ (percentage : ℤ). Within 50000 (pos 100000 *ℤ (t.secondary.shares +ℤ t.primary.shares) -ℤ percentage *ℤ t.variances)) e (sharing.shared_near 50000 rates.percentage k.shares);
    }

pub no_cent_lost : NoCentLost
unfolding NoCentLost
no_cent_lost division fresh opened postings =
    let rates = rates_of division in
    balances rates (percentage_95 division) _ _ (kept_after rules (count_of rates) (Kept rates) (posting_keeps rates) _ _ postings (opened_kept division fresh opened))

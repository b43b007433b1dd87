-- No cent is lost: what book and tally share is so of a fresh book, each posting keeps it, and so does a list of them; the claim follows
-- from it. Assumes nothing.
use mathlib.Core.Path.{◌≡◌, refl, sym, ap, ◌∙◌, subst}
use mathlib.Core.Bool.{Bool, true, false, cond, not, true≢false}
use mathlib.Core.List.{List}
use Prim.Native.Nat.{ℕ, zero, suc}
use Rattle.std.specs.Prelude.{Option, Some, None, is_some, is_none, Result, Ok, Err}
use lib.IntN.{ℤ, pos, ◌+ℤ◌}
use Rattle.ints.specs.Ring.{solve, ◌:+◌, ◌:=◌}
use Rattle.refusals.specs.declared.Refusal.{Refusal}
use Rattle.refusals.proofs.TableLaws.{by_table_lem}
use Rattle.postings.specs.Kinds.{kind_of, table_of, unknown_kind}
use Rattle.postings.specs.declared.kinds.Kind.{Kind}
use Rattle.postings.specs.declared.kinds.Kind.TheVariants.{Cost, Sales, Bill, Settle, MonthEnd, Adjust, Reconcile, Unknown}
use Rattle.postings.specs.declared.Book.TheVariants.{Steam}
use Rattle.postings.specs.declared.Posting.{Posting}
use Rattle.postings.specs.declared.Answer.{Answer}
use Rattle.riders.specs.Runs.{no_run}
use Rattle.riders.specs.Months.{forbidden}
use Rattle.riders.specs.Rules.{left_by, answered_by, by_rules}
use Rattle.riders.specs.Histories.{line_answered, entry_of, kept_after}
use Rattle.riders.specs.Balances.{line_billed, amount_added, cents_moved}
use Rattle.riders.specs.Waiting.{none_pending}
use Rattle.steam_rules.proofs.Waiting.{months_turn}
use Rattle.steam_rules.proofs.Found.{dates, four_factors, four_dues, none_due}
use Rattle.steam_rules.proofs.Held.{held_billed, held_settled, held_entered, held_reconciled, held_adjusted, held_reconciling}
use Rattle.steam_rules.proofs.Shares.{Shared, settled_shared}
use Rattle.steam_rules.specs.Calendar.{entering_one, settles, entering}
use Rattle.steam_rules.specs.declared.Mmbtu.{Mmbtu}
use Rattle.steam_rules.specs.declared.Period.{Period}
use Rattle.steam_rules.specs.declared.SteamBook.{SteamBook}
use Rattle.steam_rules.specs.Book.{period_of, fresh_of}
use Rattle.steam_rules.specs.Settlement.{share_of, remainder_after}
use Rattle.steam_rules.specs.Next.{with_period, cost_posted, sales_posted, bill_line, bill_posted, settle_posted, entered, month_lost, reconciled, month_ended, adjust_posted, reconcile_posted, next_at, answer_at}
use Rattle.steam_rules.specs.Limits.{in_limits}
use Rattle.steam_rules.specs.Opening.{opened_of}
use Rattle.steam_rules.specs.Refusals.{still_runs, rules}
use Rattle.steam_rules.specs.Tally.{Tally, fresh_tally, with_period_tally, cost_counted, sales_counted, line_counted, settle_counted, adjustment_counted, count_at, count_of}
use Rattle.steam_rules.specs.Claim.{held_by, Balances, NoCentLost}
use Rattle.riders.specs.Sharing as sharing
use Rattle.riders.specs.Waiting as waiting

-- nothing can be pending
abbrev clear_in : SteamBook → Bool
clear_in b = waiting.clear settles entering b.month b.settled

-- what book and tally share
record Kept (b : SteamBook) (t : Tally) : Type 0 where
  period : b.period ≡ t.period
  balances : t.billed +ℤ held_by b ≡ t.shares +ℤ t.adjustments
  pending : clear_in b ≡ true → b.pending.due.0 ≡ pos 0
  shares : Shared t

-- ---- a month's end, up to the month itself

-- nothing is pending where a run has entered
entered_pending : (run : Option ℕ) (b : SteamBook) → (entered run b).pending ≡ cond (is_some run) no_run b.pending
unfolding entered
entered_pending None b = refl
entered_pending (Some i) b = refl

entered_period : (run : Option ℕ) (b : SteamBook) → (entered run b).period ≡ b.period
unfolding entered
entered_period None b = refl
entered_period (Some i) b = refl

lost_pending : (months : ℕ) (b : SteamBook) → (month_lost months b).pending ≡ b.pending
lost_pending zero b = refl
lost_pending (suc zero) b = refl
lost_pending (suc (suc left)) b = refl

lost_period : (months : ℕ) (b : SteamBook) → (month_lost months b).period ≡ b.period
lost_period zero b = refl
lost_period (suc zero) b = refl
lost_period (suc (suc left)) b = refl

-- ---- an accepted posting, by kind

module _ (b : SteamBook) (t : Tally) (p : Posting) (k : Kept b t) where
  -- the tally takes from an answer that it was accepted, and the line
  abbrev Keeps : Kind → Type 0
  Keeps kind = Kept (next_at kind b p) (count_at kind t p (line_answered kind (Ok (answer_at kind b p))))

  -- cost and sales change the period alone, and not its remainder
  period_keeps :
      (cost_after sales_after : Period → ℤ) →
      Kept (with_period b (period_of (cost_after b.period) (sales_after b.period) b.period.remainder.0))
      (with_period_tally t (period_of (cost_after t.period) (sales_after t.period) t.period.remainder.0))
  unfolding held_by
  period_keeps cost_after sales_after =
      record {
        period = ap (λ (q : Period). period_of (cost_after q) (sales_after q) q.remainder.0) k.period;
        balances = k.balances;
        pending = k.pending;
        shares = k.shares;
      }

  cost_keeps : Keeps Cost
  unfolding next_at answer_at count_at cost_posted cost_counted
  cost_keeps = period_keeps (λ q. q.cost.0 +ℤ p.first) (λ q. q.sales.0)

  sales_keeps : Keeps Sales
  unfolding next_at answer_at count_at sales_posted sales_counted
  sales_keeps = period_keeps (λ q. q.cost.0) (λ q. q.sales.0 +ℤ p.first)

  bill_keeps : not (in_limits b) ≡ false → Keeps Bill
  unfolding next_at answer_at count_at bill_posted line_counted
  bill_keeps limits =
      record {
        period = k.period;
        balances = line_billed t.billed (held_by b) k.balances (bill_line p.first b) (held_billed b p (four_factors b limits) (four_dues b limits));
        pending = k.pending;
        shares = k.shares;
      }

  settle_keeps : forbidden Settle (settles b.month) b.settled ≡ false → Keeps Settle
  unfolding next_at answer_at count_at settle_posted settle_counted waiting.clear
  settle_keeps allowed =
      let nothing = k.pending (waiting.settle_clear settles entering b.month b.settled allowed) in
      let share = share_of t.period in
      record {
        period = ap (λ (q : Period). period_of (pos 0) (pos 0) (remainder_after q)) k.period;
        balances =
            amount_added t.billed (held_by b) k.balances share (held_settled b p nothing ∙ ap (λ (q : Period). held_by b +ℤ share_of q) k.period)
            ∙ solve 3 (λ s a x. s :+ a :+ x := s :+ x :+ a) tt t.shares t.adjustments share;
        pending = λ c. absurd (true≢false (sym c));
        shares = settled_shared t k.shares;
      }

  month_keeps : not (in_limits b) ≡ false → forbidden MonthEnd (settles b.month) b.settled ≡ false → Keeps MonthEnd
  unfolding next_at answer_at count_at month_ended reconciled held_by
  month_keeps limits allowed =
      let run = entering b.month in
      let e = entered run b in
      let months = e.reconciliation.months in
      record {
        period = lost_period months e ∙ entered_period run b ∙ k.period;
        balances =
            cents_moved t.billed (held_by b) k.balances
            (held_reconciled e ∙ held_entered b run (four_dues b limits) (entering_one b.month));
        pending =
            λ c.
            (λ i. ((lost_pending months e ∙ entered_pending run b) i).due.0)
            ∙ none_pending _ (is_some run) (clear_in b) b.pending (waiting.month_turns settles entering months_turn b.month b.settled (dates b limits) allowed) k.pending c;
        shares = k.shares;
      }

  adjust_keeps : Keeps Adjust
  unfolding next_at answer_at count_at adjust_posted adjustment_counted
  adjust_keeps =
      record {
        period = k.period;
        balances =
            amount_added t.billed (held_by b) k.balances p.first (held_adjusted b p)
            ∙ solve 3 (λ s a x. s :+ a :+ x := s :+ (a :+ x)) tt t.shares t.adjustments p.first;
        pending = k.pending;
        shares = k.shares;
      }

  reconcile_keeps : not (in_limits b) ≡ false → still_runs Reconcile b ≡ false → Keeps Reconcile
  unfolding next_at answer_at count_at reconcile_posted
  reconcile_keeps limits free =
      record {
        period = k.period;
        balances = cents_moved t.billed (held_by b) k.balances (held_reconciling b p (none_due b limits free));
        pending = k.pending;
        shares = k.shares;
      }

  kind_keeps :
      (kind : Kind) → is_none (table_of Steam kind) ≡ false → not (in_limits b) ≡ false → forbidden kind (settles b.month) b.settled ≡ false → still_runs kind b ≡ false →
      Keeps kind
  kind_keeps Cost known limits allowed free = cost_keeps
  kind_keeps Sales known limits allowed free = sales_keeps
  kind_keeps Bill known limits allowed free = bill_keeps limits
  kind_keeps Settle known limits allowed free = settle_keeps allowed
  kind_keeps MonthEnd known limits allowed free = month_keeps limits allowed
  kind_keeps Adjust known limits allowed free = adjust_keeps
  kind_keeps Reconcile known limits allowed free = reconcile_keeps limits free
  kind_keeps Unknown known limits allowed free = absurd (true≢false known)

-- ---- a posting, accepted or refused

posting_keeps : (b : SteamBook) (t : Tally) (p : Posting) → Kept b t → Kept (left_by rules b p) (count_of t (entry_of p (answered_by rules b p)))
unfolding count_of unknown_kind
posting_keeps b t p k =
    by_rules rules (λ (next : SteamBook) (answer : Result Answer Refusal). Kept next (count_of t (entry_of p answer))) b p
    (λ none. kind_keeps b t p k (kind_of p.kind) none.0 none.1.1.0 none.1.1.1.1.0 none.1.1.1.1.1.0)
    (λ refusal. k)

-- ---- a list of postings to an opened book

fresh_kept : (quarters : List Mmbtu) → Kept (fresh_of quarters) fresh_tally
unfolding held_by
fresh_kept quarters = record { period = refl; balances = refl; pending = λ c. refl; shares = sharing.none_shared 5000 (pos 80) }

opened_kept : (quarters : List Mmbtu) (fresh : SteamBook) → opened_of quarters ≡ Ok fresh → Kept fresh fresh_tally
unfolding opened_of
opened_kept quarters fresh =
    by_table_lem (λ (opened : Result SteamBook Refusal). opened ≡ Ok fresh → Kept fresh fresh_tally) _ (Ok (fresh_of quarters)) Err
    (λ none opened. let same : fresh_of quarters ≡ fresh = cc in subst (λ (b : SteamBook). Kept b fresh_tally) same (fresh_kept quarters))
    (λ refusal opened. cc)

balances : (b : SteamBook) (t : Tally) → Kept b t → Balances b t
balances b t k = record { cents = k.balances; shares = sharing.shared_near 5000 (pos 80) k.shares }

pub no_cent_lost : NoCentLost
unfolding NoCentLost
no_cent_lost quarters fresh opened postings = balances _ _ (kept_after rules count_of Kept posting_keeps _ _ postings (opened_kept quarters fresh opened))

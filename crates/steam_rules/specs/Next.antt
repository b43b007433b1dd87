-- What an accepted posting makes of the book, and what it is answered, by kind (01, Steam book): on whole numbers without bounds. Which
-- postings are refused is said in Refusals.
use Rattle.std.specs.Prelude.{true, false, List, [], ◌∷◌, ◌++◌, ℕ, zero, suc, ℤ, pos, nat_abs, ◌+ℤ◌, ◌-ℤ◌, get_or, set, Option, Some, None}
use Rattle.amounts.specs.Amounts.{cents, points}
use Rattle.amounts.specs.declared.Cents.{Cents}
use Rattle.amounts.specs.declared.Points.{Points}
use Rattle.postings.specs.Kinds.{kind_of}
use Rattle.postings.specs.declared.kinds.Kind.{Kind}
use Rattle.postings.specs.declared.kinds.Kind.TheVariants.{Cost, Sales, Bill, Settle, MonthEnd, Adjust, Reconcile, Unknown}
use Rattle.postings.specs.declared.Posting.{Posting}
use Rattle.postings.specs.declared.Answer.{Answer}
use Rattle.postings.specs.declared.Answer.TheVariants.{Line, Filed, Done}
use Rattle.riders.specs.Lines.{line_of, part_of}
use Rattle.riders.specs.Months.{month_after}
use Rattle.riders.specs.Runs.{run, no_run, due_less, factor_for}
use Rattle.riders.specs.declared.Run.{Run}
use Rattle.steam_rules.specs.declared.Mmbtu.{Mmbtu}
use Rattle.steam_rules.specs.declared.Period.{Period}
use Rattle.steam_rules.specs.declared.Reconciliation.{Reconciliation}
use Rattle.steam_rules.specs.declared.SteamBook.{SteamBook}
use Rattle.steam_rules.specs.Book.{period_of, reconciliation_of, no_reconciliation}
use Rattle.steam_rules.specs.Calendar.{entering}
use Rattle.steam_rules.specs.Settlement.{share_of, remainder_after, shifted, determinants_of}

-- ---- the book with other parts

abbrev pub with_period : SteamBook → Period → SteamBook
with_period b period =
    record {
      month = b.month;
      settled = b.settled;
      period = period;
      quarters = b.quarters;
      carried = b.carried;
      pending = b.pending;
      factors = b.factors;
      dues = b.dues;
      reconciliation = b.reconciliation;
    }

abbrev pub with_dues : SteamBook → List Cents → Reconciliation → SteamBook
with_dues b dues reconciliation =
    record {
      month = b.month;
      settled = b.settled;
      period = b.period;
      quarters = b.quarters;
      carried = b.carried;
      pending = b.pending;
      factors = b.factors;
      dues = dues;
      reconciliation = reconciliation;
    }

abbrev pub with_account : SteamBook → Cents → Reconciliation → SteamBook
with_account b carried reconciliation =
    record {
      month = b.month;
      settled = b.settled;
      period = b.period;
      quarters = b.quarters;
      carried = carried;
      pending = b.pending;
      factors = b.factors;
      dues = b.dues;
      reconciliation = reconciliation;
    }

-- the quarter is settled: what was filed is pending
abbrev pub settled_with : SteamBook → Period → List Mmbtu → Run → SteamBook
settled_with b period quarters filed =
    record {
      month = b.month;
      settled = true;
      period = period;
      quarters = quarters;
      carried = b.carried;
      pending = filed;
      factors = b.factors;
      dues = b.dues;
      reconciliation = b.reconciliation;
    }

-- a run has entered: nothing is pending
abbrev pub entered_with : SteamBook → Cents → List Points → List Cents → SteamBook
entered_with b carried factors dues =
    record {
      month = b.month;
      settled = b.settled;
      period = b.period;
      quarters = b.quarters;
      carried = carried;
      pending = no_run;
      factors = factors;
      dues = dues;
      reconciliation = b.reconciliation;
    }

-- the month moves on and "settled" is cleared
abbrev pub ended_with : SteamBook → ℕ → SteamBook
ended_with b month =
    record {
      month = month;
      settled = false;
      period = b.period;
      quarters = b.quarters;
      carried = b.carried;
      pending = b.pending;
      factors = b.factors;
      dues = b.dues;
      reconciliation = b.reconciliation;
    }

-- ---- cost and sales: K and B grow

unfoldable pub cost_posted : SteamBook → Posting → SteamBook
cost_posted b p = with_period b (period_of (b.period.cost.0 +ℤ p.first) b.period.sales.0 b.period.remainder.0)

unfoldable pub sales_posted : SteamBook → Posting → SteamBook
sales_posted b p = with_period b (period_of b.period.cost.0 (b.period.sales.0 +ℤ p.first) b.period.remainder.0)

-- ---- bill of u: each d falls by its part

-- the runs in order 1 to 4, then reconciliation
abbrev pub factors_of : SteamBook → List Points
factors_of b = b.factors ++ (b.reconciliation.run.factor ∷ [])

unfoldable pub bill_line : ℤ → SteamBook → ℤ
bill_line u b = line_of u (factors_of b)

-- d of the run with i runs before it falls by part i
abbrev pub dues_less : (ℕ → ℤ) → List Cents → List Cents
dues_less part [] = []
dues_less part (due ∷ dues) = cents (due.0 -ℤ part 0) ∷ dues_less (λ (i : ℕ). part (suc i)) dues

unfoldable pub bill_posted : SteamBook → Posting → SteamBook
bill_posted b p =
    let part = part_of p.first (factors_of b) in
    with_dues b (dues_less part b.dues) (reconciliation_of (due_less (part 4) b.reconciliation.run) b.reconciliation.months)

-- ---- settle with adjustment b: Q = R and q = round(100R / D); the oldest quarter leaves, B enters; K and B become 0

unfoldable pub filed_factor : SteamBook → Posting → ℤ
filed_factor b p = factor_for (share_of b.period) (determinants_of b.period.sales.0 b.quarters p.first)

unfoldable pub settle_posted : SteamBook → Posting → SteamBook
settle_posted b p =
    settled_with b (period_of (pos 0) (pos 0) (remainder_after b.period)) (shifted b.quarters b.period.sales)
    (run (filed_factor b p) (share_of b.period))

-- ---- month end

-- the run that enters adds its d to A and becomes (q, Q); Q and q become 0
unfoldable pub entered : Option ℕ → SteamBook → SteamBook
entered None b = b
entered (Some i) b =
    entered_with b (cents (b.carried.0 +ℤ (get_or b.dues i (cents (pos 0))).0)) (set b.factors i b.pending.factor) (set b.dues i b.pending.due)

-- the reconciliation run, if one runs, loses a month; at none left its d joins A, and d and factor become 0
abbrev pub month_lost : ℕ → SteamBook → SteamBook
month_lost zero b = b
month_lost (suc zero) b = with_account b (cents (b.carried.0 +ℤ b.reconciliation.run.due.0)) no_reconciliation
month_lost (suc (suc left)) b = with_account b b.carried (reconciliation_of b.reconciliation.run (suc left))

unfoldable pub reconciled : SteamBook → SteamBook
reconciled b = month_lost b.reconciliation.months b

unfoldable pub month_ended : SteamBook → SteamBook
month_ended b = ended_with (reconciled (entered (entering b.month) b)) (month_after b.month)

-- ---- adjust by n: A grows by n

unfoldable pub adjust_posted : SteamBook → Posting → SteamBook
adjust_posted b p = with_account b (cents (b.carried.0 +ℤ p.first)) b.reconciliation

-- ---- reconcile over 12 or 24 months at sales D: d = A, factor = round(100A / D), A = 0

unfoldable pub reconcile_posted : SteamBook → Posting → SteamBook
reconcile_posted b p =
    with_account b (cents (pos 0)) (reconciliation_of (run (factor_for b.carried.0 p.second) b.carried.0) (nat_abs p.first))

-- ---- the next book

unfoldable pub next_at : Kind → SteamBook → Posting → SteamBook
next_at Cost b p = cost_posted b p
next_at Sales b p = sales_posted b p
next_at Bill b p = bill_posted b p
next_at Settle b p = settle_posted b p
next_at MonthEnd b p = month_ended b
next_at Adjust b p = adjust_posted b p
next_at Reconcile b p = reconcile_posted b p
next_at Unknown b p = b

abbrev pub next_of : SteamBook → Posting → SteamBook
next_of b p = next_at (kind_of p.kind) b p

-- ---- the answer

unfoldable pub answer_at : Kind → SteamBook → Posting → Answer
answer_at Cost b p = Done
answer_at Sales b p = Done
answer_at Bill b p = Line (cents (bill_line p.first b))
answer_at Settle b p = Filed (points (filed_factor b p))
answer_at MonthEnd b p = Done
answer_at Adjust b p = Done
answer_at Reconcile b p = Done
answer_at Unknown b p = Done

abbrev pub answer_of : SteamBook → Posting → Answer
answer_of b p = answer_at (kind_of p.kind) b p

-- The tally of the steam book (01, The tally): fed each posting, whether it was accepted and, for a bill, the line answered, never the book.
-- K, B and rem are its own, and stand in a period of its own; V and R follow from them by the book's formulas. The steam book bears no
-- interest.
use Rattle.std.specs.Prelude.{cond, ℤ, pos, ◌+ℤ◌}
use Rattle.postings.specs.Kinds.{kind_of}
use Rattle.postings.specs.declared.kinds.Kind.{Kind}
use Rattle.postings.specs.declared.kinds.Kind.TheVariants.{Cost, Sales, Bill, Settle, MonthEnd, Adjust, Reconcile, Unknown}
use Rattle.postings.specs.declared.Posting.{Posting}
use Rattle.riders.specs.Histories.{Entry}
use Rattle.steam_rules.specs.declared.Period.{Period}
use Rattle.steam_rules.specs.Book.{period_of, no_period}
use Rattle.steam_rules.specs.Settlement.{variance_of, share_of, remainder_after}

pub record Tally : Type 0 where
  -- K, B and rem
  pub period : Period
  -- the sum of settled variances: V of each settled quarter
  pub variances : ℤ
  -- lines of bills, in cents as what follows
  pub billed : ℤ
  -- customer shares of settled quarters
  pub shares : ℤ
  -- accepted adjustments
  pub adjustments : ℤ

-- all start at zero
abbrev pub fresh_tally : Tally
fresh_tally = record { period = no_period; variances = pos 0; billed = pos 0; shares = pos 0; adjustments = pos 0 }

abbrev pub with_period_tally : Tally → Period → Tally
with_period_tally t period = record { period = period; variances = t.variances; billed = t.billed; shares = t.shares; adjustments = t.adjustments }

-- ---- an accepted posting

-- K grows by the cost
unfoldable pub cost_counted : Tally → Posting → Tally
cost_counted t p = with_period_tally t (period_of (t.period.cost.0 +ℤ p.first) t.period.sales.0 t.period.remainder.0)

-- B grows by the sales
unfoldable pub sales_counted : Tally → Posting → Tally
sales_counted t p = with_period_tally t (period_of t.period.cost.0 (t.period.sales.0 +ℤ p.first) t.period.remainder.0)

-- billed grows by the line
unfoldable pub line_counted : ℤ → Tally → Tally
line_counted line t = record { period = t.period; variances = t.variances; billed = t.billed +ℤ line; shares = t.shares; adjustments = t.adjustments }

-- V joins the variances, R the shares; K and B become 0
unfoldable pub settle_counted : Tally → Tally
settle_counted t =
    record {
      period = period_of (pos 0) (pos 0) (remainder_after t.period);
      variances = t.variances +ℤ variance_of t.period;
      billed = t.billed;
      shares = t.shares +ℤ share_of t.period;
      adjustments = t.adjustments;
    }

-- adjustments grow by n
unfoldable pub adjustment_counted : ℤ → Tally → Tally
adjustment_counted n t = record { period = t.period; variances = t.variances; billed = t.billed; shares = t.shares; adjustments = t.adjustments +ℤ n }

unfoldable pub count_at : Kind → Tally → Posting → ℤ → Tally
count_at Cost t p line = cost_counted t p
count_at Sales t p line = sales_counted t p
count_at Bill t p line = line_counted line t
count_at Settle t p line = settle_counted t
count_at MonthEnd t p line = t
count_at Adjust t p line = adjustment_counted p.first t
count_at Reconcile t p line = t
count_at Unknown t p line = t

-- a refused posting changes nothing
unfoldable pub count_of : Tally → Entry → Tally
count_of t e = cond e.accepted (count_at (kind_of e.posting.kind) t e.posting e.line) t

-- The tally of the electric book (01, The tally): fed each posting, whether it was accepted and, for a bill, the line answered, never the
-- book. K, Ss, Sp and rem are its own, and stand in a period of its own; V, R, w and the shares follow from them by the book's formulas.
use Rattle.std.specs.Prelude.{false, cond, ℤ, pos, ◌+ℤ◌, ◌-ℤ◌}
use Rattle.postings.specs.Kinds.{kind_of}
use Rattle.postings.specs.declared.kinds.Kind.{Kind}
use Rattle.postings.specs.declared.kinds.Kind.TheVariants.{Cost, Sales, Bill, Settle, MonthEnd, Adjust, Reconcile, Unknown}
use Rattle.postings.specs.declared.Posting.{Posting}
use Rattle.riders.specs.Histories.{Entry}
use Rattle.electric_rules.specs.declared.Rates.{Rates}
use Rattle.electric_rules.specs.declared.Period.{Period}
use Rattle.electric_rules.specs.Book.{sales_of, period_of, no_period}
use Rattle.electric_rules.specs.Settlement.{variance_of, remainder_after, secondary_share, primary_share, provisional_share}
use Rattle.electric_rules.specs.Levels.{interest_on}
use Rattle.electric_rules.specs.Next.{is_secondary}

-- what is counted at a level, in cents
pub record LevelTally : Type 0 where
  -- lines of bills
  pub billed : ℤ
  -- customer shares of settled periods
  pub shares : ℤ
  -- interest of all months
  pub interest : ℤ
  -- accepted adjustments
  pub adjustments : ℤ
  -- new interest: that of the months since the last settlement
  pub new_interest : ℤ

pub record Tally : Type 0 where
  -- K, Ss, Sp and rem
  pub period : Period
  -- the sum of settled variances: V of each settled period
  pub variances : ℤ
  pub secondary : LevelTally
  pub primary : LevelTally

-- all start at zero
abbrev pub fresh_level_tally : LevelTally
fresh_level_tally = record { billed = pos 0; shares = pos 0; interest = pos 0; adjustments = pos 0; new_interest = pos 0 }

abbrev pub fresh_tally : Tally
fresh_tally = record { period = no_period; variances = pos 0; secondary = fresh_level_tally; primary = fresh_level_tally }

abbrev pub with_period_tally : Tally → Period → Tally
with_period_tally t period = record { period = period; variances = t.variances; secondary = t.secondary; primary = t.primary }

abbrev pub with_level_tallies : Tally → LevelTally → LevelTally → Tally
with_level_tallies t secondary primary = record { period = t.period; variances = t.variances; secondary = secondary; primary = primary }

-- of the level that a posting names
abbrev pub level_tally_at : ℤ → Tally → LevelTally
level_tally_at level t = cond (is_secondary level) t.secondary t.primary

abbrev pub with_level_tally_at : ℤ → Tally → LevelTally → Tally
with_level_tally_at level t l = cond (is_secondary level) (with_level_tallies t l t.primary) (with_level_tallies t t.secondary l)

-- ---- an accepted posting

-- K grows by the cost
unfoldable pub cost_counted : Tally → Posting → Tally
cost_counted t p =
    with_period_tally t (period_of (t.period.cost.0 +ℤ (p.first +ℤ p.second +ℤ p.third)) t.period.sales t.period.remainder.0)

-- Ss and Sp grow by the sales
unfoldable pub sales_counted : Tally → Posting → Tally
sales_counted t p =
    with_period_tally t
    (period_of t.period.cost.0 (sales_of (t.period.sales.secondary.0 +ℤ p.first) (t.period.sales.primary.0 +ℤ p.second)) t.period.remainder.0)

-- billed grows by the line
unfoldable pub line_counted : ℤ → LevelTally → LevelTally
line_counted line l =
    record { billed = l.billed +ℤ line; shares = l.shares; interest = l.interest; adjustments = l.adjustments; new_interest = l.new_interest }

-- a share joins its level's shares, and new interest becomes 0
unfoldable pub share_counted : ℤ → LevelTally → LevelTally
share_counted share l =
    record { billed = l.billed; shares = l.shares +ℤ share; interest = l.interest; adjustments = l.adjustments; new_interest = pos 0 }

-- V joins the variances; K, Ss, Sp become 0
unfoldable pub settle_counted : Rates → Tally → Tally
settle_counted rates t =
    record {
      period = period_of (pos 0) (sales_of (pos 0) (pos 0)) (remainder_after rates t.period);
      variances = t.variances +ℤ variance_of rates t.period;
      secondary = share_counted (secondary_share rates t.period) t.secondary;
      primary = share_counted (primary_share rates t.period) t.primary;
    }

-- shares + adjustments + interest − new interest − billed, and the provisional share (02, b)
unfoldable pub balance_of : ℤ → LevelTally → ℤ
balance_of provisional l = l.shares +ℤ l.adjustments +ℤ l.interest -ℤ l.new_interest -ℤ l.billed +ℤ provisional

-- interest and new interest both grow by it
unfoldable pub interest_counted : ℤ → LevelTally → LevelTally
interest_counted interest l =
    record {
      billed = l.billed;
      shares = l.shares;
      interest = l.interest +ℤ interest;
      adjustments = l.adjustments;
      new_interest = l.new_interest +ℤ interest;
    }

-- round(r × balance / 12000000) at either level. The tally has no settled month: from an accepted settlement to the month's end its kWh are 0
unfoldable pub month_counted : Rates → ℤ → Tally → Tally
month_counted rates rate t =
    with_level_tallies t
    (interest_counted (interest_on rate (balance_of (provisional_share secondary_share rates false t.period) t.secondary)) t.secondary)
    (interest_counted (interest_on rate (balance_of (provisional_share primary_share rates false t.period) t.primary)) t.primary)

-- adjustments grow by the amount
unfoldable pub adjustment_counted : ℤ → LevelTally → LevelTally
adjustment_counted amount l =
    record { billed = l.billed; shares = l.shares; interest = l.interest; adjustments = l.adjustments +ℤ amount; new_interest = l.new_interest }

abbrev pub count_at : Kind → Rates → Tally → Posting → ℤ → Tally
count_at Cost rates t p line = cost_counted t p
count_at Sales rates t p line = sales_counted t p
count_at Bill rates t p line = with_level_tally_at p.first t (line_counted line (level_tally_at p.first t))
count_at Settle rates t p line = settle_counted rates t
count_at MonthEnd rates t p line = month_counted rates p.first t
count_at Adjust rates t p line = with_level_tally_at p.first t (adjustment_counted p.second (level_tally_at p.first t))
count_at Reconcile rates t p line = t
count_at Unknown rates t p line = t

-- a refused posting changes nothing
unfoldable pub count_of : Rates → Tally → Entry → Tally
count_of rates t e = cond e.accepted (count_at (kind_of e.posting.kind) rates t e.posting e.line) t

-- What an accepted posting makes of the book, and what it is answered, by kind (01, Electric book): on whole numbers without bounds.
-- Which postings are refused is said in Refusals.
use Rattle.std.specs.Prelude.{Bool, true, false, cond, ℕ, ℤ, pos, ◌+ℤ◌}
use Rattle.ints.specs.Machine.{eq_z}
use Rattle.amounts.specs.Amounts.{cents}
use Rattle.postings.specs.Kinds.{kind_of}
use Rattle.postings.specs.declared.kinds.Kind.{Kind}
use Rattle.postings.specs.declared.kinds.Kind.TheVariants.{Cost, Sales, Bill, Settle, MonthEnd, Adjust, Reconcile, Unknown}
use Rattle.postings.specs.declared.Posting.{Posting}
use Rattle.postings.specs.declared.Answer.{Answer}
use Rattle.postings.specs.declared.Answer.TheVariants.{Line, FiledLevels, Interest, Done}
use Rattle.riders.specs.Months.{month_after}
use Rattle.electric_rules.specs.declared.Rates.{Rates}
use Rattle.electric_rules.specs.declared.Remainder.{Remainder}
use Rattle.electric_rules.specs.declared.Level.{Level}
use Rattle.electric_rules.specs.declared.Period.{Period}
use Rattle.electric_rules.specs.declared.ElectricBook.{ElectricBook}
use Rattle.electric_rules.specs.Book.{remainder, sales_of}
use Rattle.electric_rules.specs.Calendar.{entering}
use Rattle.electric_rules.specs.Rates.{rates_of}
use Rattle.electric_rules.specs.Settlement.{remainder_after, secondary_share, primary_share, provisional_share}
use Rattle.electric_rules.specs.Levels.{level_line, billed_level, adjusted_level, settled_level, bearing_of, interest_on, accrued_level, handed_over}

-- ---- the book with other parts

abbrev pub with_period : ElectricBook → Period → ElectricBook
with_period b period =
    record { division = b.division; month = b.month; settled = b.settled; period = period; secondary = b.secondary; primary = b.primary }

abbrev pub with_levels : ElectricBook → Level → Level → ElectricBook
with_levels b secondary primary =
    record { division = b.division; month = b.month; settled = b.settled; period = b.period; secondary = secondary; primary = primary }

-- K, Ss, Sp become 0 and the period is settled
abbrev pub settled_with : ElectricBook → Remainder → Level → Level → ElectricBook
settled_with b left secondary primary =
    record {
      division = b.division;
      month = b.month;
      settled = true;
      period = record { cost = cents (pos 0); sales = sales_of (pos 0) (pos 0); remainder = left };
      secondary = secondary;
      primary = primary;
    }

-- the month moves on and "settled" is cleared
abbrev pub ended_with : ElectricBook → ℕ → Level → Level → ElectricBook
ended_with b month secondary primary =
    record { division = b.division; month = month; settled = false; period = b.period; secondary = secondary; primary = primary }

-- ---- the open period

-- F, P, E: K grows by their sum
abbrev pub cost_added : Period → Posting → Period
cost_added period p =
    record { cost = cents (period.cost.0 +ℤ (p.first +ℤ p.second +ℤ p.third)); sales = period.sales; remainder = period.remainder }

-- secondary, primary: Ss and Sp grow
abbrev pub sales_added : Period → Posting → Period
sales_added period p =
    record {
      cost = period.cost;
      sales = sales_of (period.sales.secondary.0 +ℤ p.first) (period.sales.primary.0 +ℤ p.second);
      remainder = period.remainder;
    }

-- ---- the level that a bill or an adjustment names: 0 secondary, 1 primary

abbrev pub is_secondary : ℤ → Bool
is_secondary level = eq_z level (pos 0)

abbrev pub level_at : ℤ → ElectricBook → Level
level_at level b = cond (is_secondary level) b.secondary b.primary

abbrev pub with_level_at : ℤ → ElectricBook → Level → ElectricBook
with_level_at level b l = cond (is_secondary level) (with_levels b l b.primary) (with_levels b b.secondary l)

-- ---- the next book

abbrev pub cost_posted : ElectricBook → Posting → ElectricBook
cost_posted b p = with_period b (cost_added b.period p)

abbrev pub sales_posted : ElectricBook → Posting → ElectricBook
sales_posted b p = with_period b (sales_added b.period p)

-- level, u
abbrev pub bill_posted : ElectricBook → Posting → ElectricBook
bill_posted b p = with_level_at p.first b (billed_level p.second (level_at p.first b))

-- Rs, Rp
abbrev pub settle_posted : ElectricBook → Posting → ElectricBook
settle_posted b p =
    let rates = rates_of b.division in
    settled_with b (remainder (remainder_after rates b.period))
    (settled_level (secondary_share rates b.period) p.first b.secondary)
    (settled_level (primary_share rates b.period) p.second b.primary)

-- what settling today would give the level of that share
abbrev pub provisional_of : (Rates → Period → ℤ) → ElectricBook → ℤ
provisional_of share b = provisional_share share (rates_of b.division) b.settled b.period

-- r: that month's interest of each level
abbrev pub secondary_interest : ElectricBook → Posting → ℤ
secondary_interest b p = interest_on p.first (bearing_of (provisional_of secondary_share b) b.secondary)

abbrev pub primary_interest : ElectricBook → Posting → ℤ
primary_interest b p = interest_on p.first (bearing_of (provisional_of primary_share b) b.primary)

-- interest, then the run that enters
abbrev pub ended_level : ℕ → ℤ → Level → Level
ended_level month interest l = handed_over (entering month) (accrued_level interest l)

abbrev pub month_ended : ElectricBook → Posting → ElectricBook
month_ended b p =
    ended_with b (month_after b.month)
    (ended_level b.month (secondary_interest b p) b.secondary)
    (ended_level b.month (primary_interest b p) b.primary)

-- level, amount
abbrev pub adjust_posted : ElectricBook → Posting → ElectricBook
adjust_posted b p = with_level_at p.first b (adjusted_level p.second (level_at p.first b))

abbrev pub next_at : Kind → ElectricBook → Posting → ElectricBook
next_at Cost b p = cost_posted b p
next_at Sales b p = sales_posted b p
next_at Bill b p = bill_posted b p
next_at Settle b p = settle_posted b p
next_at MonthEnd b p = month_ended b p
next_at Adjust b p = adjust_posted b p
next_at Reconcile b p = b
next_at Unknown b p = b

abbrev pub next_of : ElectricBook → Posting → ElectricBook
next_of b p = next_at (kind_of p.kind) b p

-- ---- the answer

abbrev pub line_answer : ElectricBook → Posting → Answer
line_answer b p = Line (cents (level_line p.second (level_at p.first b)))

-- q of each level
abbrev pub filed_answer : ElectricBook → Posting → Answer
filed_answer b p = FiledLevels (settle_posted b p).secondary.pending.factor (settle_posted b p).primary.pending.factor

abbrev pub interest_answer : ElectricBook → Posting → Answer
interest_answer b p = Interest (cents (secondary_interest b p)) (cents (primary_interest b p))

abbrev pub answer_at : Kind → ElectricBook → Posting → Answer
answer_at Cost b p = Done
answer_at Sales b p = Done
answer_at Bill b p = line_answer b p
answer_at Settle b p = filed_answer b p
answer_at MonthEnd b p = interest_answer b p
answer_at Adjust b p = Done
answer_at Reconcile b p = Done
answer_at Unknown b p = Done

abbrev pub answer_of : ElectricBook → Posting → Answer
answer_of b p = answer_at (kind_of p.kind) b p

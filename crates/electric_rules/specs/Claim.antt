-- What holds of every history of an electric book, over every list of postings, refused and unknown ones included: no cent is lost (01, The
-- tally; proved in proofs/Conservation.antt), and the book stays within its limits (proved in proofs/Within.antt). And what holds of every book:
-- what a month's end bears interest on beside what it holds (02, b; proved in proofs/Provisional.antt).
use Rattle.std.specs.Prelude.{◌≡◌, true, false, List, ℕ, ℤ, pos, ◌+ℤ◌, ◌-ℤ◌, ◌*ℤ◌, Ok}
use Rattle.ints.specs.Range.{Within}
use Rattle.postings.specs.declared.Posting.{Posting}
use Rattle.riders.specs.Histories.{book_after, entries_of, tally_after}
use Rattle.electric_rules.specs.declared.Level.{Level}
use Rattle.electric_rules.specs.declared.Rates.{Rates}
use Rattle.electric_rules.specs.declared.Period.{Period}
use Rattle.electric_rules.specs.declared.ElectricBook.{ElectricBook}
use Rattle.electric_rules.specs.Book.{opened_of, handed_back}
use Rattle.electric_rules.specs.Rates.{rates_of}
use Rattle.electric_rules.specs.Levels.{held_by, interest_on}
use Rattle.electric_rules.specs.Settlement.{secondary_share, primary_share, no_kwh}
use Rattle.electric_rules.specs.Limits.{in_limits}
use Rattle.electric_rules.specs.Next.{settle_posted, month_ended, provisional_of, secondary_interest, primary_interest}
use Rattle.electric_rules.specs.Refusals.{rules}
use Rattle.electric_rules.specs.Tally.{LevelTally, Tally, fresh_tally, count_of}

-- at a level: billed + held = shares + interest + adjustments
abbrev pub LevelBalances : Level → LevelTally → Type 0
LevelBalances l t = t.billed +ℤ held_by l ≡ t.shares +ℤ t.interest +ℤ t.adjustments

-- at each level, and 100,000 × shares within 50,000 of 95 × the settled variances
pub record Balances (b : ElectricBook) (t : Tally) : Type 0 where
  pub secondary : LevelBalances b.secondary t.secondary
  pub primary : LevelBalances b.primary t.primary
  pub shares : Within 50000 (pos 100000 *ℤ (t.secondary.shares +ℤ t.primary.shares) -ℤ pos 95 *ℤ t.variances)

-- after every list of postings to the fresh book of an accepted opening; the tally's rates are the opening's
unfoldable pub NoCentLost : Type 0
NoCentLost =
    (division : ℕ) (fresh : ElectricBook) → opened_of division ≡ Ok fresh → (postings : List Posting) →
    let rates = rates_of division in
    Balances (book_after rules fresh postings) (tally_after (count_of rates) fresh_tally (entries_of rules fresh postings))

-- a book that was opened is never out of its limits, so that row 6 never refuses a posting to it
unfoldable pub NeverOutOfLimits : Type 0
NeverOutOfLimits = (division : ℕ) (postings : List Posting) → in_limits (book_after rules (handed_back division) postings) ≡ true

-- a month's end, whatever the book: each level bears interest on all that it holds but the interest accrued, and on its provisional share. That
-- is what settling the book today would file at the level beside C and I, whatever the estimated sales; in a settled month, or with no kWh, there
-- is none. K, Ss, Sp and rem are left alone
pub record OpenMonth (b : ElectricBook) (p : Posting) : Type 0 where
  pub secondary :
      b.settled ≡ false → no_kwh b.period ≡ false →
      (settle_posted b p).secondary.pending.due.0 ≡ provisional_of secondary_share b +ℤ b.secondary.carried.0 +ℤ b.secondary.interest.0
  pub primary :
      b.settled ≡ false → no_kwh b.period ≡ false →
      (settle_posted b p).primary.pending.due.0 ≡ provisional_of primary_share b +ℤ b.primary.carried.0 +ℤ b.primary.interest.0
  pub settled : b.settled ≡ true → (share : Rates → Period → ℤ) → provisional_of share b ≡ pos 0
  pub unsold : no_kwh b.period ≡ true → (share : Rates → Period → ℤ) → provisional_of share b ≡ pos 0
  pub secondary_bears :
      secondary_interest b p ≡ interest_on p.first (held_by b.secondary -ℤ b.secondary.interest.0 +ℤ provisional_of secondary_share b)
  pub primary_bears : primary_interest b p ≡ interest_on p.first (held_by b.primary -ℤ b.primary.interest.0 +ℤ provisional_of primary_share b)
  pub left_alone : (month_ended b p).period ≡ b.period

unfoldable pub ProvisionalShares : Type 0
ProvisionalShares = (b : ElectricBook) (p : Posting) → OpenMonth b p

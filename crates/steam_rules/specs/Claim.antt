-- What holds of every history of a steam book, over every list of postings, refused and unknown ones included: no cent is lost (01, The
-- tally; proved in proofs/Conservation.antt), and the book stays within its limits (proved in proofs/Within.antt).
use Rattle.std.specs.Prelude.{◌≡◌, true, List, [], ◌∷◌, ℤ, pos, ◌+ℤ◌, ◌-ℤ◌, ◌*ℤ◌, Ok}
use Rattle.ints.specs.Range.{Within}
use Rattle.amounts.specs.declared.Cents.{Cents}
use Rattle.postings.specs.declared.Posting.{Posting}
use Rattle.riders.specs.Histories.{book_after, entries_of, tally_after}
use Rattle.steam_rules.specs.declared.Mmbtu.{Mmbtu}
use Rattle.steam_rules.specs.declared.SteamBook.{SteamBook}
use Rattle.steam_rules.specs.Limits.{in_limits}
use Rattle.steam_rules.specs.Opening.{opened_of, handed_back}
use Rattle.steam_rules.specs.Refusals.{rules}
use Rattle.steam_rules.specs.Tally.{Tally, fresh_tally, count_of}

abbrev pub sum_cents : List Cents → ℤ
sum_cents [] = pos 0
sum_cents (due ∷ dues) = due.0 +ℤ sum_cents dues

-- cents held: A + Q + all five d
unfoldable pub held_by : SteamBook → ℤ
held_by b = b.carried.0 +ℤ b.pending.due.0 +ℤ sum_cents b.dues +ℤ b.reconciliation.run.due.0

-- billed + held = shares + adjustments, and 10,000 × shares within 5,000 of 80 × the settled variances
pub record Balances (b : SteamBook) (t : Tally) : Type 0 where
  pub cents : t.billed +ℤ held_by b ≡ t.shares +ℤ t.adjustments
  pub shares : Within 5000 (pos 10000 *ℤ t.shares -ℤ pos 80 *ℤ t.variances)

-- after every list of postings to the fresh book of an accepted opening
unfoldable pub NoCentLost : Type 0
NoCentLost =
    (quarters : List Mmbtu) (fresh : SteamBook) → opened_of quarters ≡ Ok fresh → (postings : List Posting) →
    Balances (book_after rules fresh postings) (tally_after count_of fresh_tally (entries_of rules fresh postings))

-- a book that was opened is never out of its limits, so that row 6 never refuses a posting to it
unfoldable pub NeverOutOfLimits : Type 0
NeverOutOfLimits = (quarters : List Mmbtu) (postings : List Posting) → in_limits (book_after rules (handed_back quarters) postings) ≡ true

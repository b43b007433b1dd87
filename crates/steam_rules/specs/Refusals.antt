-- Which postings to the steam book are refused, with which number (01, Refusals in order of checking), and so what a posting gives.
use Rattle.std.specs.Prelude.{Bool, false, not, ◌||◌, Result, List, [], ◌∷◌, eqb, pos, nat_abs, ◌*ℤ◌}
use Rattle.std.specs.Int.Signed.{lt_z}
use Rattle.ints.specs.Machine.{eq_z}
use Rattle.refusals.specs.Rows.{Row, row}
use Rattle.refusals.specs.declared.Refusal.{Refusal}
use Rattle.refusals.specs.declared.Refusal.TheVariants.{UnknownKind, StrayNumber, BookOutOfLimits, OutOfRange, Forbidden, StillRuns, NothingSold, TooSmall, NextOutOfLimits}
use Rattle.postings.specs.Kinds.{kind_of, unknown_kind, stray_number, out_of_range}
use Rattle.postings.specs.declared.kinds.Kind.{Kind}
use Rattle.postings.specs.declared.kinds.Kind.TheVariants.{Settle, Adjust, Reconcile}
use Rattle.postings.specs.declared.Book.TheVariants.{Steam}
use Rattle.postings.specs.declared.Posting.{Posting}
use Rattle.postings.specs.declared.Posted.{Posted}
use Rattle.riders.specs.Months.{forbidden}
use Rattle.riders.specs.Rules.{Rules, given_of}
use Rattle.steam_rules.specs.declared.SteamBook.{SteamBook}
use Rattle.steam_rules.specs.Calendar.{settles}
use Rattle.steam_rules.specs.Settlement.{determinants_of}
use Rattle.steam_rules.specs.Limits.{in_limits}
use Rattle.steam_rules.specs.Next.{next_of, answer_of}

-- 9: reconcile while one runs
abbrev pub still_runs : Kind → SteamBook → Bool
still_runs Reconcile b = not (eqb b.reconciliation.months 0)
still_runs kind b = false

-- 10: settle with B = 0, or D below 1
abbrev pub nothing_sold : Kind → SteamBook → Posting → Bool
nothing_sold Settle b p = eq_z b.period.sales.0 (pos 0) || lt_z (determinants_of b.period.sales.0 b.quarters p.first) (pos 1)
nothing_sold kind b p = false

-- 11: 10 × |n| not above g
abbrev pub too_small : Kind → Posting → Bool
too_small Adjust p = not (lt_z p.second (pos 10 *ℤ pos (nat_abs p.first)))
too_small kind p = false

-- the table, in the order of checking
abbrev pub rows_of : SteamBook → Posting → List Row
rows_of b p =
    row UnknownKind (unknown_kind Steam p.kind)
    ∷ row StrayNumber (stray_number Steam p)
    ∷ row BookOutOfLimits (not (in_limits b))
    ∷ row OutOfRange (out_of_range Steam p)
    ∷ row Forbidden (forbidden (kind_of p.kind) (settles b.month) b.settled)
    ∷ row StillRuns (still_runs (kind_of p.kind) b)
    ∷ row NothingSold (nothing_sold (kind_of p.kind) b p)
    ∷ row TooSmall (too_small (kind_of p.kind) p)
    ∷ row NextOutOfLimits (not (in_limits (next_of b p)))
    ∷ []

abbrev pub rules : Rules SteamBook
rules = record { rows = rows_of; next = next_of; answer = answer_of }

-- what a posting gives: the answer and the next book, or a refusal
abbrev pub post_of : SteamBook → Posting → Result (Posted SteamBook) Refusal
post_of b p = given_of rules b p

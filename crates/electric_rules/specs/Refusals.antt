-- Which postings to the electric book are refused, with which number (01, Refusals in order of checking), and so what a posting gives.
use Rattle.std.specs.Prelude.{Bool, not, ◌&&◌, List, [], ◌∷◌, Result}
use Rattle.refusals.specs.Rows.{Row, row}
use Rattle.refusals.specs.declared.Refusal.{Refusal}
use Rattle.refusals.specs.declared.Refusal.TheVariants.{UnknownKind, StrayNumber, BookOutOfLimits, OutOfRange, Forbidden, NothingSold, NextOutOfLimits}
use Rattle.postings.specs.Kinds.{is_kind, kind_of, unknown_kind, stray_number, out_of_range}
use Rattle.postings.specs.declared.kinds.Kind.{Kind}
use Rattle.postings.specs.declared.kinds.Kind.TheVariants.{Settle}
use Rattle.postings.specs.declared.Book.TheVariants.{Electric}
use Rattle.postings.specs.declared.Posting.{Posting}
use Rattle.postings.specs.declared.Posted.{Posted}
use Rattle.riders.specs.Months.{forbidden}
use Rattle.riders.specs.Rules.{Rules, given_of}
use Rattle.electric_rules.specs.declared.ElectricBook.{ElectricBook}
use Rattle.electric_rules.specs.Calendar.{settles}
use Rattle.electric_rules.specs.Settlement.{no_kwh}
use Rattle.electric_rules.specs.Limits.{in_limits}
use Rattle.electric_rules.specs.Next.{next_of, answer_of}

-- 10: settle with Ss + Sp = 0
abbrev pub nothing_sold : Kind → ElectricBook → Bool
nothing_sold kind b = is_kind Settle kind && no_kwh b.period

-- the table, in the order of checking; 9 and 11 are the steam book's
abbrev pub rows_of : ElectricBook → Posting → List Row
rows_of b p =
    row UnknownKind (unknown_kind Electric p.kind)
    ∷ row StrayNumber (stray_number Electric p)
    ∷ row BookOutOfLimits (not (in_limits b))
    ∷ row OutOfRange (out_of_range Electric p)
    ∷ row Forbidden (forbidden (kind_of p.kind) (settles b.month) b.settled)
    ∷ row NothingSold (nothing_sold (kind_of p.kind) b)
    ∷ row NextOutOfLimits (not (in_limits (next_of b p)))
    ∷ []

abbrev pub rules : Rules ElectricBook
rules = record { rows = rows_of; next = next_of; answer = answer_of }

-- what a posting gives: the answer and the next book, or a refusal
abbrev pub post_of : ElectricBook → Posting → Result (Posted ElectricBook) Refusal
post_of b p = given_of rules b p

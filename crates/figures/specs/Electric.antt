-- The figures of the electric book: the second, third and fourth lines that document 01 marks.
use Rattle.std.specs.Prelude.{false, List, [], ◌∷◌, ℤ, pos, neg_ℤ}
use Rattle.postings.specs.Answers.{answer_values}
use Rattle.postings.specs.declared.Posting.{Posting}
use Rattle.riders.specs.Rules.{answer_given}
use Rattle.electric_rules.specs.declared.Period.{Period}
use Rattle.electric_rules.specs.declared.ElectricBook.{ElectricBook}
use Rattle.electric_rules.specs.Book.{sales_of, period_of, fresh_level}
use Rattle.electric_rules.specs.Rates.{rates_lp}
use Rattle.electric_rules.specs.Settlement.{share_of, remainder_after, weight_by, secondary_share, primary_share}
use Rattle.electric_rules.specs.Levels.{interest_on}
use Rattle.electric_rules.specs.Refusals.{post_of}
use Rattle.figures.specs.Figure.{Figure, ◌is◌, ◌are◌}

-- K 2,000,000, Ss 600,000, Sp 400,000
abbrev whole : Period
whole = period_of (pos 2000000) (sales_of (pos 600000) (pos 400000)) (pos 0)

-- an L&P book in November, C and I 0
abbrev november : ElectricBook
november = record { division = 0; month = 11; settled = false; period = whole; secondary = fresh_level; primary = fresh_level }

-- Rs 1,250,000, Rp 800,000
abbrev estimates : Posting
estimates = record { kind = 4; first = pos 1250000; second = pos 800000; third = pos 0 }

-- K 1,080, Ss 600, after a remainder
abbrev tiny : ℤ → Period
tiny rem = period_of (pos 1080) (sales_of (pos 600) (pos 0)) rem

-- and the same period once more
abbrev again : Period
again = tiny (remainder_after rates_lp (tiny (pos 0)))

abbrev pub electric : List Figure
electric =
    -- R, rem, w
    ((share_of rates_lp whole ∷ remainder_after rates_lp whole ∷ weight_by rates_lp whole ∷ []) are (pos 190950 ∷ pos 0 ∷ pos 60494 ∷ []))
    -- shares
    ∷ ((secondary_share rates_lp whole ∷ primary_share rates_lp whole ∷ []) are (pos 115513 ∷ pos 75437 ∷ []))
    -- both factors, as the book answers
    ∷ (answer_values (answer_given (post_of november estimates)) are (pos 9 ∷ pos 9 ∷ []))
    -- R and rem, first and then
    ∷ ((share_of rates_lp (tiny (pos 0)) ∷ remainder_after rates_lp (tiny (pos 0)) ∷ []) are (pos 1 ∷ neg_ℤ (pos 43000) ∷ []))
    ∷ ((share_of rates_lp again ∷ remainder_after rates_lp again ∷ []) are (pos 0 ∷ pos 14000 ∷ []))
    -- interest at r 60,000
    ∷ (interest_on (pos 60000) (pos 1200000) is pos 6000)
    ∷ (interest_on (pos 60000) (neg_ℤ (pos 100)) is neg_ℤ (pos 1))
    ∷ []

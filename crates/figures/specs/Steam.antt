-- The figures of the steam book: the fifth to the eighth lines that document 01 marks.
use Rattle.std.specs.Prelude.{false, List, [], ◌∷◌, ℤ, pos}
use Rattle.amounts.specs.Amounts.{cents, points}
use Rattle.postings.specs.Answers.{answer_number, answer_values}
use Rattle.postings.specs.declared.Posting.{Posting}
use Rattle.riders.specs.Lines.{together}
use Rattle.riders.specs.Rules.{answer_given}
use Rattle.riders.specs.Runs.{no_run}
use Rattle.steam_rules.specs.declared.Period.{Period}
use Rattle.steam_rules.specs.declared.SteamBook.{SteamBook}
use Rattle.steam_rules.specs.Book.{mmbtu, period_of, no_reconciliation, four, fresh_of}
use Rattle.steam_rules.specs.Settlement.{share_of, determinants_of}
use Rattle.steam_rules.specs.Refusals.{post_of}
use Rattle.figures.specs.Figure.{Figure, ◌is◌, ◌are◌}

-- K 3,700,000, B 10,000
abbrev quarter : Period
quarter = period_of (pos 3700000) (pos 10000) (pos 0)

-- a book in March, past quarters 10,000 each
abbrev march : SteamBook
march =
    record {
      month = 3;
      settled = false;
      period = quarter;
      quarters = four (mmbtu (pos 10000));
      carried = cents (pos 0);
      pending = no_run;
      factors = four (points (pos 0));
      dues = four (cents (pos 0));
      reconciliation = no_reconciliation;
    }

-- b 0
abbrev settlement : Posting
settlement = record { kind = 4; first = pos 0; second = pos 0; third = pos 0 }

-- D with H 1,000 as each past quarter, of B and b 7
abbrev determinants : ℤ → ℤ
determinants B = determinants_of B (four (mmbtu (pos 1000))) (pos 7)

-- what an adjustment by n with g 1,000,000 is answered
abbrev adjusted : ℤ → ℤ
adjusted n = pos (answer_number (answer_given (post_of (fresh_of (four (mmbtu (pos 0)))) (record { kind = 6; first = n; second = pos 1000000; third = pos 0 }))))

abbrev pub steam : List Figure
steam =
    -- R, and q as the book answers
    (share_of quarter is pos 556000)
    ∷ (answer_values (answer_given (post_of march settlement)) are (pos 1390 ∷ []))
    -- sheet 6.5's factors together
    ∷ (together (points (pos 2005) ∷ points (pos 1000) ∷ points (pos 1952) ∷ points (pos 2552) ∷ []) is pos 7509)
    -- b left out, and taken
    ∷ ((determinants (pos 1050) ∷ determinants (pos 950) ∷ []) are (pos 4050 ∷ pos 3950 ∷ []))
    ∷ ((determinants (pos 1051) ∷ determinants (pos 949) ∷ []) are (pos 4058 ∷ pos 3956 ∷ []))
    -- refused 11, and taken
    ∷ (adjusted (pos 100000) is pos 11)
    ∷ (adjusted (pos 100001) is pos 0)
    ∷ []

-- A line of the journal (01, Text and the journal program): fields are parted by one blank, and the line ends in a line feed.
use Rattle.std.specs.Prelude.{codes, List, [], ◌∷◌, ◌++◌, ℕ, Result, Ok, Err}
use Rattle.refusals.specs.declared.Refusal.{Refusal}
use Rattle.amounts.specs.Text.{decimal, cents_text, points_text}
use Rattle.postings.specs.Answers.{Amount, in_cents, in_points, answer_number, answer_amounts}
use Rattle.postings.specs.declared.Answer.{Answer}
use Rattle.postings.specs.declared.Answer.TheVariants.{Line, FiledLevels, Filed, Interest, Done}

-- an answer's word; that of a refusal has the number behind it
abbrev pub answer_word : Result Answer Refusal → List ℕ
answer_word (Ok (Line cents)) = codes "line"
answer_word (Ok (FiledLevels secondary primary)) = codes "filed"
answer_word (Ok (Filed points)) = codes "filed"
answer_word (Ok (Interest secondary primary)) = codes "interest"
answer_word (Ok Done) = codes "done"
answer_word (Err refusal) = codes "refused " ++ decimal (answer_number (Err refusal))

abbrev pub amount_text : Amount → List ℕ
amount_text (in_cents cents) = cents_text cents
amount_text (in_points points) = points_text points

-- amounts behind what is printed before them, parted by one blank
abbrev pub parted : List ℕ → List Amount → List ℕ
parted before [] = before
parted before (amount ∷ amounts) = parted (before ++ codes " " ++ amount_text amount) amounts

-- `line` with cents, `filed` with q for each level, `interest` for both levels, `done`, or `refused` with the number; secondary first
abbrev pub answer_text : Result Answer Refusal → List ℕ
answer_text answer = parted (answer_word answer) (answer_amounts answer)

-- a record prints its number, its kind in decimal and the answer
unfoldable pub record_line : ℕ → ℕ → Result Answer Refusal → List ℕ
record_line number kind answer = decimal number ++ codes " " ++ decimal kind ++ codes " " ++ answer_text answer ++ codes "\n"

-- what is printed for an input that opens no book
unfoldable pub opening_refused : Refusal → List ℕ
opening_refused refusal = answer_text (Err refusal) ++ codes "\n"

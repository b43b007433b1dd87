-- Document 01's number and values for each case of a book's answer (01, Where each language form goes): the number of the refusal, 0
-- for any other case, and the values, each cents or points, in the order in which they are printed. What is said of an answer is said of these.
use Rattle.std.specs.Prelude.{List, [], ◌∷◌, map, ℕ, ℤ, Result, Ok, Err}
use Rattle.refusals.specs.Rows.{number_of}
use Rattle.refusals.specs.declared.Refusal.{Refusal}
use Rattle.amounts.specs.declared.Cents.{Cents}
use Rattle.amounts.specs.declared.Points.{Points}
use Rattle.postings.specs.declared.Answer.{Answer}
use Rattle.postings.specs.declared.Answer.TheVariants.{Line, FiledLevels, Filed, Interest, Done}

abbrev pub answer_number : Result Answer Refusal → ℕ
answer_number (Ok answer) = 0
answer_number (Err refusal) = number_of refusal

-- cents and points are distinct amounts
pub data Amount : Type 0 where
  in_cents : Cents → Amount
  in_points : Points → Amount

abbrev pub amounts_of : Answer → List Amount
amounts_of (Line cents) = in_cents cents ∷ []
amounts_of (FiledLevels secondary primary) = in_points secondary ∷ in_points primary ∷ []
amounts_of (Filed points) = in_points points ∷ []
amounts_of (Interest secondary primary) = in_cents secondary ∷ in_cents primary ∷ []
amounts_of Done = []

-- a refusal has no values
abbrev pub answer_amounts : Result Answer Refusal → List Amount
answer_amounts (Ok answer) = amounts_of answer
answer_amounts (Err refusal) = []

abbrev number_in : Amount → ℤ
number_in (in_cents cents) = cents.0
number_in (in_points points) = points.0

-- their numbers alone
abbrev pub answer_values : Result Answer Refusal → List ℤ
answer_values answer = map number_in (answer_amounts answer)

-- What a posting gives, for any book, by the book's rules (01, Refusals in order of checking): its refusal table, the next book and the
-- answer. Two theorems hold of every book: the number that comes back is the table's, and a refusal leaves the book as it was. Assumes nothing.
use Rattle.std.specs.Prelude.{◌≡◌, List, Option, Some, None, Result, Ok, Err}
use Rattle.std.proofs.Math.Path.{refl, sym}
use Rattle.std.proofs.Common.{ap}
use Rattle.refusals.specs.Rows.{Row, refusal_by, given_by, by_table, refused_number}
use Rattle.refusals.specs.Laws.{NoneHolds}
use Rattle.refusals.specs.declared.Refusal.{Refusal}
use Rattle.refusals.proofs.TableLaws.{none_holds, gives_refusal, gives_number}
use Rattle.postings.specs.Answers.{answer_number}
use Rattle.postings.specs.declared.Posting.{Posting}
use Rattle.postings.specs.declared.Posted.{Posted}
use Rattle.postings.specs.declared.Answer.{Answer}

-- what a book says of a posting: the rows of its refusal table, and where none holds the next book and the answer
pub record Rules (Held : Type 0) : Type 0 where
  pub rows : Held → Posting → List Row
  pub next : Held → Posting → Held
  pub answer : Held → Posting → Answer

-- an answer and the book after it
abbrev pub posted : {Held : Type 0} → Answer → Held → Posted Held
posted answer book = record { answer = answer; book = book }

-- what was answered, and the book that is left, where this was given
abbrev pub answer_given : {Held : Type 0} → Result (Posted Held) Refusal → Result Answer Refusal
answer_given (Ok given) = Ok given.answer
answer_given (Err refusal) = Err refusal

abbrev pub book_given : {Held : Type 0} → Held → Result (Posted Held) Refusal → Held
book_given b (Ok given) = given.book
book_given b (Err refusal) = b

-- both together: the answer and the book after it, or the refusal alone
abbrev pub given_as : {Held : Type 0} → Result Answer Refusal → Held → Result (Posted Held) Refusal
given_as (Ok answer) left = Ok (posted answer left)
given_as (Err refusal) left = Err refusal

module _ {Held : Type 0} (rules : Rules Held) where
  -- what a posting is answered: the answer, or the refusal
  unfoldable pub answered_by : Held → Posting → Result Answer Refusal
  answered_by b p = by_table (rules.rows b p) (Ok (rules.answer b p)) Err

  -- the book that it leaves: the next book, or the book as it was
  unfoldable pub left_by : Held → Posting → Held
  left_by b p = by_table (rules.rows b p) (rules.next b p) (λ refusal. b)

  -- what it gives: both together where it is accepted, or the refusal
  unfoldable pub given_of : Held → Posting → Result (Posted Held) Refusal
  given_of b p = by_table (rules.rows b p) (Ok (posted (rules.answer b p) (rules.next b p))) Err

  -- ---- the two theorems

  -- the number that comes back is the table's, 0 where no row holds
  abbrev pub NumberByTable : Type 0
  NumberByTable = (b : Held) (p : Posting) → answer_number (answered_by b p) ≡ refused_number (refusal_by (rules.rows b p))

  -- a refusal leaves the book as it was
  abbrev pub RefusalKeepsBook : Type 0
  RefusalKeepsBook = (b : Held) (p : Posting) (refusal : Refusal) → refusal_by (rules.rows b p) ≡ Some refusal → left_by b p ≡ b

  pub number_by_table : NumberByTable
  unfolding answered_by
  number_by_table b p = gives_number (rules.rows b p) (Ok (rules.answer b p)) Err answer_number refl (λ refusal. refl)

  pub refusal_keeps_book : RefusalKeepsBook
  unfolding left_by
  refusal_keeps_book b p refusal h = gives_refusal (rules.rows b p) (rules.next b p) (λ refusal. b) refusal h

  -- ---- laws for proofs

  -- what is so of the next book and its answer, where no row holds, and of the book as it was with any refusal, is so of what a posting gives
  pub by_rules :
      (P : Held → Result Answer Refusal → Type 0) (b : Held) (p : Posting) →
      (NoneHolds (rules.rows b p) → P (rules.next b p) (Ok (rules.answer b p))) → ((refusal : Refusal) → P b (Err refusal)) →
      P (left_by b p) (answered_by b p)
  unfolding left_by answered_by by_table
  by_rules P b p accepts refuses = go (refusal_by (rules.rows b p)) refl
    where
      go : (o : Option Refusal) → refusal_by (rules.rows b p) ≡ o → P (given_by o (rules.next b p) (λ refusal. b)) (given_by o (Ok (rules.answer b p)) Err)
      go None e = accepts (none_holds (rules.rows b p) e)
      go (Some refusal) e = refuses refusal

  -- what was answered and left, by what was given
  pub answered_given : (b : Held) (p : Posting) {given : Result (Posted Held) Refusal} → given ≡ given_of b p → answered_by b p ≡ answer_given given
  unfolding answered_by given_of by_table
  answered_given b p e = go (refusal_by (rules.rows b p)) e
    where
      go : (o : Option Refusal) {given : Result (Posted Held) Refusal} → given ≡ given_by o (Ok (posted (rules.answer b p) (rules.next b p))) Err → given_by o (Ok (rules.answer b p)) Err ≡ answer_given given
      go None e = sym (ap answer_given e)
      go (Some refusal) e = sym (ap answer_given e)

  pub left_given : (b : Held) (p : Posting) {given : Result (Posted Held) Refusal} → given ≡ given_of b p → left_by b p ≡ book_given b given
  unfolding left_by given_of by_table
  left_given b p e = go (refusal_by (rules.rows b p)) e
    where
      go : (o : Option Refusal) {given : Result (Posted Held) Refusal} → given ≡ given_by o (Ok (posted (rules.answer b p) (rules.next b p))) Err → given_by o (rules.next b p) (λ refusal. b) ≡ book_given b given
      go None e = sym (ap (book_given b) e)
      go (Some refusal) e = sym (ap (book_given b) e)

-- What a posting gives, as the code works it out: what the effect may rely on, and what is asked of it. For any book whose table ends in
-- row 12. Assumes nothing.
use Rattle.std.specs.Prelude.{◌≡◌, Bool, true, false, cond, ◌&&◌, None, Result, Ok, Err}
use Rattle.std.proofs.Math.Path.{sym}
use Rattle.std.proofs.Common.{ap, ◌∙◌}
use Rattle.std.proofs.Math.Bool.{not}
use mathlib.Core.List.{List, ◌∷◌}
use Rattle.std.proofs.lemmas.Bool.{not-false}
use Rattle.refusals.specs.Rows.{Row, row, refusal_by, stored_or_12}
use Rattle.refusals.specs.declared.Refusal.{Refusal}
use Rattle.refusals.specs.declared.Refusal.TheVariants.{UnknownKind, StrayNumber, BookOutOfLimits, OutOfRange, Forbidden}
use Rattle.refusals.proofs.TableLaws.{none_holds, refused_within}
use Rattle.postings.specs.Kinds.{kind_of, unknown_kind, stray_number, out_of_range}
use Rattle.postings.specs.Ranged.{Ranged, none_out_of_range}
use Rattle.postings.specs.declared.Answer.{Answer}
use Rattle.postings.specs.declared.Book.{Book}
use Rattle.postings.specs.declared.Posting.{Posting}
use Rattle.riders.specs.Months.{forbidden}

-- ---- what the effect may rely on

-- what the rows that every table begins with have shown, where no row before 12 holds
module _ (book : Book) {Held : Type 0} (in_limits : Held → Bool) (b : Held) (p : Posting) (rest : List Row) where
  abbrev begins : List Row
  begins =
      row UnknownKind (unknown_kind book p.kind)
      ∷ row StrayNumber (stray_number book p)
      ∷ row BookOutOfLimits (not (in_limits b))
      ∷ row OutOfRange (out_of_range book p)
      ∷ rest

  pub shown : refusal_by begins ≡ None → (in_limits b ≡ true) × Ranged book (kind_of p.kind) p × (unknown_kind book p.kind ≡ false)
  shown e =
      let none = none_holds begins e in
      (not-false _ none.1.1.0, none_out_of_range book p none.1.1.1.0, none.0)

-- and the row behind them: what the effect relies on
module _ (book : Book) {Held : Type 0} (in_limits : Held → Bool) (settles settled : Bool) (b : Held) (p : Posting) (rest : List Row) where
  abbrev begins_allowed : List Row
  begins_allowed = begins book in_limits b p (row Forbidden (forbidden (kind_of p.kind) settles settled) ∷ rest)

  pub allowed : refusal_by begins_allowed ≡ None → (in_limits b ≡ true) × Ranged book (kind_of p.kind) p × (forbidden (kind_of p.kind) settles settled ≡ false)
  allowed e =
      let found = shown book in_limits b p _ e in
      (found.0, found.1, (none_holds begins_allowed e).1.1.1.1.0)

-- ---- what is asked of the effect

-- what a posting is answered, and what it leaves, where row 12 alone is still to be tested
abbrev pub TakenWithin : {Held : Type 0} → Bool → Answer → Held → Held → Result Answer Refusal → Held → Type 0
TakenWithin within answer next old result left = (result ≡ stored_or_12 within answer) × (left ≡ cond within next old)

-- where the parts that a kind changes decide the limits of the next book
module _ {Held : Type 0} {limits within : Bool} (decides : limits ≡ within) (answer : Answer) (next old : Held) where
  -- one that no book may store refuses, and the book is as it was
  pub refused : {A : Type 0} (value : A) {result : Result Answer Refusal} {refusal : Refusal} → Err refusal ≡ stored_or_12 within value → result ≡ Err refusal → TakenWithin limits answer next old result old
  refused value r e =
      let out = refused_within within value r in
      (e ∙ ap Err out.1 ∙ sym (ap (λ (t : Bool). stored_or_12 t answer) (decides ∙ out.0)), sym (ap (λ (t : Bool). cond t next old) (decides ∙ out.0)))

  -- and those within their limits are stored
  pub stored : {given : Answer} {left : Held} → within ≡ true → given ≡ answer → left ≡ next → TakenWithin limits answer next old (Ok given) left
  stored w a l =
      (ap Ok a ∙ sym (ap (λ (t : Bool). stored_or_12 t answer) (decides ∙ w)), l ∙ sym (ap (λ (t : Bool). cond t next old) (decides ∙ w)))

-- of two parts either refuses
module _ {A : Type 0} (first second : Bool) (value : A) {refusal : Refusal} where
  pub first_refuses : Err refusal ≡ stored_or_12 first value → Err refusal ≡ stored_or_12 (first && second) value
  first_refuses e =
      let out = refused_within first value e in
      ap Err out.1 ∙ sym (ap (λ (t : Bool). stored_or_12 (t && second) value) out.0)

  pub second_refuses : first ≡ true → Err refusal ≡ stored_or_12 second value → Err refusal ≡ stored_or_12 (first && second) value
  second_refuses f e = e ∙ sym (ap (λ (t : Bool). stored_or_12 (t && second) value) f)

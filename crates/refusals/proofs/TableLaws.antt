-- Laws of refusal tables: the refusal is that of the first row that holds, and none means that no row holds. Assumes nothing.
use Rattle.std.specs.Prelude.{◌≡◌, Bool, true, false, cond, List, [], ◌∷◌, ◌++◌, ℕ, Option, Some, None, Result, Ok, Err}
use Rattle.std.specs.Result.{result_err}
use Rattle.std.proofs.Math.Path.{refl, sym}
use Rattle.std.proofs.Common.{ap, ◌∙◌}
use Rattle.std.proofs.lemmas.Option.{none-some, same_Some}
use Rattle.refusals.specs.Rows.{Row, row, refusal_by, given_by, by_table, number_of, refused_number, stored_or_12}
use Rattle.refusals.specs.Laws.{NoneHolds, First}
use Rattle.refusals.specs.declared.Refusal.{Refusal}
use Rattle.refusals.specs.declared.Refusal.TheVariants.{NextOutOfLimits}

-- ---- the first row that holds

-- a row decides where it holds, and the rows after it where it does not
pub at_row : (refusal : Refusal) (rows : List Row) {condition : Bool} → condition ≡ true → refusal_by (row refusal condition ∷ rows) ≡ Some refusal
unfolding refusal_by
at_row refusal rows e = simp e

pub past_row : (refusal : Refusal) (rows : List Row) {condition : Bool} → condition ≡ false → refusal_by (row refusal condition ∷ rows) ≡ refusal_by rows
unfolding refusal_by
past_row refusal rows e = simp e

pub first : (rows : List Row) (refusal : Refusal) → refusal_by rows ≡ Some refusal → First rows refusal
unfolding refusal_by
first [] refusal e = absurd (none-some refusal e)
first (r ∷ rows) refusal e = go r.condition refl (first rows refusal)
  where
    go : (t : Bool) → r.condition ≡ t → (refusal_by rows ≡ Some refusal → First rows refusal) → First (r ∷ rows) refusal
    go true c more =
        let same : r.refusal ≡ refusal = same_Some r.refusal refusal (sym (ap (λ (t : Bool). cond t (Some r.refusal) (refusal_by rows)) c) ∙ e) in
        record { before = []; condition = r.condition; after = rows; table = (λ i. row (same i) r.condition ∷ rows); passed = tt; holds = c }
    go false c more =
        let f = more (sym (ap (λ (t : Bool). cond t (Some r.refusal) (refusal_by rows)) c) ∙ e) in
        record { before = r ∷ f.before; condition = f.condition; after = f.after; table = ap (λ (l : List Row). r ∷ l) f.table; passed = (c, f.passed); holds = f.holds }

-- ---- no row that holds

pub none_holds : (rows : List Row) → refusal_by rows ≡ None → NoneHolds rows
unfolding refusal_by
none_holds [] e = tt
none_holds (r ∷ rows) e = go r.condition refl (none_holds rows)
  where
    go : (t : Bool) → r.condition ≡ t → (refusal_by rows ≡ None → NoneHolds rows) → (r.condition ≡ false) × NoneHolds rows
    go true c more = absurd (none-some r.refusal (sym e ∙ ap (λ (t : Bool). cond t (Some r.refusal) (refusal_by rows)) c))
    go false c more = (c, more (sym (ap (λ (t : Bool). cond t (Some r.refusal) (refusal_by rows)) c) ∙ e))

pub accepted : (rows : List Row) → NoneHolds rows → refusal_by rows ≡ None
unfolding refusal_by
accepted [] h = refl
accepted (r ∷ rows) h = simp h.0 (accepted rows h.1)

-- a table in two parts: the second decides where no row of the first holds
pub in_parts : (rows more : List Row) → refusal_by (rows ++ more) ≡ given_by (refusal_by rows) (refusal_by more) Some
unfolding refusal_by
in_parts [] more = refl
in_parts (r ∷ rows) more = go r.condition (in_parts rows more)
  where
    go : (t : Bool) → refusal_by (rows ++ more) ≡ given_by (refusal_by rows) (refusal_by more) Some → cond t (Some r.refusal) (refusal_by (rows ++ more)) ≡ given_by (cond t (Some r.refusal) (refusal_by rows)) (refusal_by more) Some
    go true e = refl
    go false e = e

module _ (rows more : List Row) where
  pub decided_earlier : (refusal : Refusal) → refusal_by rows ≡ Some refusal → refusal_by (rows ++ more) ≡ Some refusal
  decided_earlier refusal e = in_parts rows more ∙ ap (λ (o : Option Refusal). given_by o (refusal_by more) Some) e

  pub decided_later : refusal_by rows ≡ None → refusal_by (rows ++ more) ≡ refusal_by more
  decided_later e = in_parts rows more ∙ ap (λ (o : Option Refusal). given_by o (refusal_by more) Some) e

-- ---- what a call gives

module _ {A : Type 0} (rows : List Row) (asked : A) (refused : Refusal → A) where
  pub gives_asked : refusal_by rows ≡ None → by_table rows asked refused ≡ asked
  unfolding by_table
  gives_asked e = ap (λ (o : Option Refusal). given_by o asked refused) e

  pub gives_refusal : (refusal : Refusal) → refusal_by rows ≡ Some refusal → by_table rows asked refused ≡ refused refusal
  unfolding by_table
  gives_refusal refusal e = ap (λ (o : Option Refusal). given_by o asked refused) e

  -- a function that gives a refusal its number, and what was asked for 0, gives the number of the table's refusal
  pub gives_number : (number : A → ℕ) → number asked ≡ 0 → ((refusal : Refusal) → number (refused refusal) ≡ number_of refusal) → number (by_table rows asked refused) ≡ refused_number (refusal_by rows)
  unfolding by_table
  gives_number number a r = go (refusal_by rows)
    where
      go : (o : Option Refusal) → number (given_by o asked refused) ≡ refused_number o
      go None = a
      go (Some refusal) = r refusal

  -- what is worked out of what a call gives is given by the same table
  pub gives_of : {B : Type 0} (f : A → B) → f (by_table rows asked refused) ≡ by_table rows (f asked) (λ (refusal : Refusal). f (refused refusal))
  unfolding by_table
  gives_of f = go (refusal_by rows)
    where
      go : (o : Option Refusal) → f (given_by o asked refused) ≡ given_by o (f asked) (λ (refusal : Refusal). f (refused refusal))
      go None = refl
      go (Some refusal) = refl

-- what a result that was given tells of the table
module _ {A : Type 0} (rows : List Row) (asked : A) where
  pub table_accepts : {given : A} → Ok given ≡ by_table rows (Ok asked) Err → (refusal_by rows ≡ None) × (given ≡ asked)
  unfolding by_table
  table_accepts {given} e = go (refusal_by rows) e
    where
      go : (o : Option Refusal) → Ok given ≡ given_by o (Ok asked) Err → (o ≡ None) × (given ≡ asked)
      go None e = (refl, cc)
      go (Some refusal) e = cc

  pub table_refuses : {refusal : Refusal} → Err refusal ≡ by_table rows (Ok asked) Err → refusal_by rows ≡ Some refusal
  unfolding by_table
  table_refuses {refusal} e = go (refusal_by rows) e
    where
      go : (o : Option Refusal) → Err refusal ≡ given_by o (Ok asked) Err → o ≡ Some refusal
      go None e = cc
      go (Some other) e = cc

-- what a table refuses is the refusal of its first row that holds
pub table_refusal : {A : Type 0} (rows : List Row) (asked : A) → result_err (by_table rows (Ok asked) Err) ≡ refusal_by rows
unfolding by_table
table_refusal {A} rows asked = go (refusal_by rows)
  where
    go : (o : Option Refusal) → result_err (given_by {A = Result A Refusal} o (Ok asked) Err) ≡ o
    go None = refl
    go (Some refusal) = refl

-- what is so of what was asked, where no row holds, and of every refusal, is so of what a call gives
pub by_table_lem :
    {A : Type 0} (P : A → Type 0) (rows : List Row) (asked : A) (refused : Refusal → A) →
    (NoneHolds rows → P asked) → ((refusal : Refusal) → P (refused refusal)) → P (by_table rows asked refused)
unfolding by_table
by_table_lem P rows asked refused accepts refuses = go (refusal_by rows) refl
  where
    go : (o : Option Refusal) → refusal_by rows ≡ o → P (given_by o asked refused)
    go None e = accepts (none_holds rows e)
    go (Some refusal) e = refuses refusal

-- ---- a table of one row

module _ {A : Type 0} (refusal : Refusal) (asked : A) (refused : Refusal → A) {condition : Bool} where
  pub row_passed : condition ≡ false → by_table (row refusal condition ∷ []) asked refused ≡ asked
  row_passed e = gives_asked (row refusal condition ∷ []) asked refused (accepted (row refusal condition ∷ []) (e, tt))

  pub row_holds : condition ≡ true → by_table (row refusal condition ∷ []) asked refused ≡ refused refusal
  row_holds e = gives_refusal (row refusal condition ∷ []) asked refused refusal (at_row refusal [] e)

-- what is accepted tells that its condition does not hold
pub row_accepts : {A : Type 0} (refusal : Refusal) (asked : A) (condition : Bool) {given : A} → Ok given ≡ by_table {A = Result A Refusal} (row refusal condition ∷ []) (Ok asked) Err → condition ≡ false
row_accepts refusal asked condition e = (none_holds (row refusal condition ∷ []) (table_accepts (row refusal condition ∷ []) asked e).0).0

-- what is refused tells that its condition holds, and that the refusal is its own
pub row_refused : {A : Type 0} (refusal : Refusal) (asked : A) (condition : Bool) {other : Refusal} → Err other ≡ by_table {A = Result A Refusal} (row refusal condition ∷ []) (Ok asked) Err → (condition ≡ true) × (other ≡ refusal)
unfolding by_table refusal_by
row_refused refusal asked condition {other} e = go condition e
  where
    go : (t : Bool) → Err other ≡ given_by {A = Result _ Refusal} (cond t (Some refusal) None) (Ok asked) Err → (t ≡ true) × (other ≡ refusal)
    go true h = (refl, cc)
    go false h = cc

pub row_refuses : {A : Type 0} (refusal : Refusal) (asked : A) (condition : Bool) {other : Refusal} → by_table {A = Result A Refusal} (row refusal condition ∷ []) (Ok asked) Err ≡ Err other → other ≡ refusal
row_refuses refusal asked condition e = (row_refused refusal asked condition (sym e)).1

-- what a result of row 12 tells of the limits
pub stored_within : {A : Type 0} (within : Bool) (value : A) {stored : A} → Ok stored ≡ stored_or_12 within value → (within ≡ true) × (stored ≡ value)
stored_within true value e = (refl, cc)
stored_within false value e = cc

pub refused_within : {A : Type 0} (within : Bool) (value : A) {refusal : Refusal} → Err refusal ≡ stored_or_12 within value → (within ≡ false) × (refusal ≡ NextOutOfLimits)
refused_within true value e = cc
refused_within false value e = (refl, cc)

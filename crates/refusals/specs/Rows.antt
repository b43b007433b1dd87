-- A refusal table (01, Refusals in order of checking): rows of a refusal and of the condition under which it is returned, in the order
-- of checking.
use Rattle.std.specs.Prelude.{Bool, cond, List, [], ◌∷◌, ℕ, eqb, Option, Some, None, Result, Ok, Err}
use Rattle.refusals.specs.declared.Refusal.{Refusal}
use Rattle.refusals.specs.declared.Refusal.TheVariants.{NoRecord, UnknownKind, StrayNumber, RecordCutShort, ZeroPresent, BookOutOfLimits, OutOfRange, Forbidden, StillRuns, NothingSold, TooSmall, NextOutOfLimits, BufferTooShort}

-- the paper's number of a refusal
unfoldable pub number_of : Refusal → ℕ
number_of NoRecord = 1
number_of UnknownKind = 2
number_of StrayNumber = 3
number_of RecordCutShort = 4
number_of ZeroPresent = 5
number_of BookOutOfLimits = 6
number_of OutOfRange = 7
number_of Forbidden = 8
number_of StillRuns = 9
number_of NothingSold = 10
number_of TooSmall = 11
number_of NextOutOfLimits = 12
number_of BufferTooShort = 13

pub record Row : Type 0 where
  pub refusal : Refusal
  pub condition : Bool

abbrev pub row : Refusal → Bool → Row
row refusal condition = record { refusal = refusal; condition = condition }

-- the refusal of the first row whose condition holds, none where none does
unfoldable pub refusal_by : List Row → Option Refusal
refusal_by [] = None
refusal_by (r ∷ rows) = cond r.condition (Some r.refusal) (refusal_by rows)

-- what is given where nothing is refused, or what a refusal gives
abbrev pub given_by {ℓ} : {A : Type ℓ} → Option Refusal → A → (Refusal → A) → A
given_by None accepted refused = accepted
given_by (Some refusal) accepted refused = refused refusal

-- what a call gives by its table: a refusal, or what was asked for
unfoldable pub by_table {ℓ} : {A : Type ℓ} → List Row → A → (Refusal → A) → A
by_table rows accepted refused = given_by (refusal_by rows) accepted refused

-- the paper's number of what is refused; 0 is no refusal's
abbrev pub refused_number : Option Refusal → ℕ
refused_number None = 0
refused_number (Some refusal) = number_of refusal

-- the rows before the one of this refusal
unfoldable pub before : Refusal → List Row → List Row
before refusal [] = []
before refusal (r ∷ rows) = cond (eqb (number_of r.refusal) (number_of refusal)) [] (r ∷ before refusal rows)

-- row 12 alone: what is to be stored, where it lies within its limits
abbrev pub stored_or_12 : {A : Type 0} → Bool → A → Result A Refusal
stored_or_12 within value = cond within (Ok value) (Err NextOutOfLimits)

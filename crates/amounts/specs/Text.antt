-- Amounts as text (01, Text): characters are their ASCII codes.
use Rattle.std.specs.Prelude.{◌≡◌, refl, cond, List, [], ◌∷◌, ◌++◌, map, ℕ, zero, suc, ◌+◌, ◌/◌, ◌^◌, ◌≤◌, ltb, ℤ, pos, nat_abs, length, Result, Ok, Err, IfOk}
use Rattle.std.proofs.Common.{ltb-false}
use Rattle.std.specs.Int.Signed.{lt_z}
use Rattle.ints.specs.Digits.{digits}
use Rattle.refusals.specs.Rows.{Row, row}
use Rattle.refusals.proofs.TableLaws.{by_table_lem}
use Rattle.refusals.specs.Writer.{too_short, written_by, buffer_left}
use Rattle.refusals.specs.declared.Refusal.{Refusal}
use Rattle.refusals.specs.declared.Refusal.TheVariants.{BufferTooShort}
use Rattle.amounts.specs.declared.Cents.{Cents}
use Rattle.amounts.specs.declared.Points.{Points}

-- the characters of digits: `0` is 48
abbrev pub characters : List ℕ → List ℕ
characters = map (λ (d : ℕ). 48 + d)

-- how many digits n has: one, and one more for each time that ten goes into what is left (at most `more` times)
unfoldable pub width_in : ℕ → ℕ → ℕ
width_in zero n = 1
width_in (suc more) n = cond (ltb n 10) 1 (suc (width_in more (n / 10)))

-- a number has no more digits than it says, so n is room enough
unfoldable pub width_of : ℕ → ℕ
unfolding width_in
width_of n = width_in n n

-- more room changes nothing: any two counts that are room enough give one width. Proved in proofs/Widths.antt.
abbrev pub EnoughRoom : Type 0
EnoughRoom = (a b n : ℕ) → n ≤ a → n ≤ b → width_in a n ≡ width_in b n

-- a whole number without leading zeros
unfoldable pub decimal : ℕ → List ℕ
decimal n = characters (digits 10 (width_of n) n)

-- minus (45) if below zero; zero has none
unfoldable pub sign_of : ℤ → List ℕ
sign_of z = cond (lt_z z (pos 0)) (45 ∷ []) []

-- minus if below zero, the whole part without leading zeros, a point (46), so many digits
unfoldable pub text_of : ℕ → ℤ → List ℕ
text_of places z = sign_of z ++ (decimal (nat_abs z / 10 ^ places) ++ (46 ∷ characters (digits 10 places (nat_abs z))))

-- cents have two digits after the point
unfoldable pub cents_text : Cents → List ℕ
cents_text cents = text_of 2 cents.0

-- points have four
unfoldable pub points_text : Points → List ℕ
points_text points = text_of 4 points.0

-- each is the text of its number
pub cents_text_is : (amount : Cents) → cents_text amount ≡ text_of 2 amount.0
unfolding cents_text
cents_text_is amount = refl

pub points_text_is : (amount : Points) → points_text amount ≡ text_of 4 amount.0
unfolding points_text
points_text_is amount = refl

-- the text writer refuses as too short a buffer only
abbrev pub text_rows : List ℕ → List ℕ → List Row
text_rows text buffer = row BufferTooShort (too_short text buffer) ∷ []

-- what a writer of the text answers, and what it leaves in the buffer
unfoldable pub text_written : List ℕ → List ℕ → Result ℕ Refusal
text_written text buffer = written_by (text_rows text buffer) text

unfoldable pub text_left : List ℕ → List ℕ → List ℕ
text_left text buffer = buffer_left (text_rows text buffer) text buffer

-- no more was written than the buffer holds
pub written_within : (text buffer : List ℕ) → IfOk (text_written text buffer) (λ (n : ℕ). n ≤ length buffer)
unfolding text_written too_short
written_within text buffer =
    by_table_lem (λ (w : Result ℕ Refusal). IfOk w (λ (n : ℕ). n ≤ length buffer)) (text_rows text buffer) (Ok (length text)) Err
    (λ none. ltb-false (length buffer) (length text) none.0) (λ refusal. tt)

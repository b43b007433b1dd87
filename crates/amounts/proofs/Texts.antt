-- Laws of the text of an amount, as the code stores it: digit by digit from the lowest, and part by part. Assumes nothing.
use mathlib.Core.Path.{◌≡◌, refl, sym, ap, ◌∙◌}
use mathlib.Core.Bool.{Bool, true, false, cond}
use mathlib.Core.List.{List, [], ◌∷◌, ◌++◌}
use Rattle.std.proofs.lemmas.List.{map-append, set-set}
use Rattle.std.proofs.Common.{append_assoc}
use Rattle.std.specs.Str.{IsAscii}
use Rattle.std.proofs.lemmas.Str.{IsAscii-append}
use Prim.Native.Nat.{ℕ, zero, suc, ◌+◌, ◌-◌, ◌*◌, ◌/◌, ◌%◌, ◌^◌, ◌<◌, ◌≤◌}
use native.Mathlib.Omega.{arith}
use native.Mathlib.Nat.{div-lt_iff_lt-mul, pow-le-pow_right}
use Rattle.amounts.proofs.Widths.{width_most}
use Rattle.std.specs.Prelude.{Ok, Err}
use lib.Dec.{lit<}
use lib.IntN.{ℤ, pos, nat_abs}
use lib.Signed.{lt_z}
use lib.ListN.{length, set, take, drop, length-set, length-map, length-append}
use mir.Val.{bool_byte}
use borrow.Rule.Slice.PartMut.{mid_of, put_mid, mid_len, Post-is}
use Rattle.std.proofs.lemmas.List.Edits.{sets-eq}
use Rattle.std.proofs.Math.Seq.{length-sets, length-take-le, take_at}
use lib.Seq.{sets}
use borrow.Author.Tests.{lt-ltb, le-ltb}
use Rattle.ints.specs.Digits.{digits}
use Rattle.ints.proofs.DigitLaws.{length_digits}
use Rattle.refusals.proofs.TableLaws.{at_row, accepted, gives_asked}
use Rattle.refusals.specs.Stores.{sets_append, sets_front}
use Rattle.refusals.specs.Writer.{too_short}
use Rattle.refusals.specs.declared.Refusal.{Refusal}
use Rattle.refusals.specs.declared.Refusal.TheVariants.{BufferTooShort}
use Rattle.refusals.proofs.WriterLaws.{writer_refuses, writer_accepts}
use Rattle.amounts.specs.Text.{characters, width_of, decimal, sign_of, text_of, text_rows, text_written, text_left}

pub length_characters : (count n : ℕ) → length (characters (digits 10 count n)) ≡ count
length_characters count n = length-map (digits 10 count n) (λ (d : ℕ). 48 + d) ∙ length_digits 10 count n

-- ---- digits, of which the last two are stored behind the others

last_two : (before n : ℕ) → characters (digits 10 (suc (suc before)) n) ≡ characters (digits 10 before (n / 10 / 10)) ++ ((48 + n / 10 % 10) ∷ (48 + n % 10) ∷ [])
unfolding digits
last_two before n = rw (map-append, map-append, append_assoc) refl

pub pair_stored : (front : List ℕ) (before count n : ℕ) → before + 2 ≡ count → front ≡ characters (digits 10 before (n / 100)) → front ++ ((48 + n % 100 / 10) ∷ (48 + n % 100 % 10) ∷ []) ≡ characters (digits 10 count n)
pair_stored front before count n e f =
    let rest : n / 100 ≡ n / 10 / 10 = omega arith in
    let tens : n % 100 / 10 ≡ n / 10 % 10 = omega arith in
    let ones : n % 100 % 10 ≡ n % 10 = omega arith in
    let two : suc (suc before) ≡ count = omega arith in
    (λ i. (f ∙ ap (λ (m : ℕ). characters (digits 10 before m)) rest) i ++ ((48 + tens i) ∷ (48 + ones i) ∷ []))
    ∙ sym (last_two before n)
    ∙ ap (λ (k : ℕ). characters (digits 10 k n)) two

pub digit_stored : (part : List ℕ) (n : ℕ) → length part ≡ 1 → set part 0 (48 + n % 10) ≡ characters (digits 10 (length part) n)
unfolding digits
digit_stored [] n e = absurd (omega arith)
digit_stored (x ∷ []) n e = refl
digit_stored (x ∷ y ∷ part) n e = absurd (omega arith)

pub none_stored : (part : List ℕ) (n : ℕ) → length part ≡ 0 → part ≡ characters (digits 10 (length part) n)
unfolding digits
none_stored [] n e = refl
none_stored (x ∷ part) n e = absurd (omega arith)

-- ---- the whole text

-- the sign's length is the test of it, as a byte
pub length_sign : (z : ℤ) → length (sign_of z) ≡ bool_byte (lt_z z (pos 0))
unfolding sign_of
length_sign z = go (lt_z z (pos 0))
  where
    go : (t : Bool) → length {A = ℕ} (cond t (45 ∷ []) []) ≡ bool_byte t
    go true = refl
    go false = refl

bool_byte-le : (t : Bool) → bool_byte t ≤ 1
bool_byte-le true = omega arith
bool_byte-le false = omega arith

-- what follows a sign goes behind a stored minus where there is a sign, and over it where there is none
minus_covered : (z : ℤ) (buffer after : List ℕ) → 1 ≤ length after → sets (set buffer 0 45) (length (sign_of z)) after ≡ sets buffer 0 (sign_of z ++ after)
unfolding sign_of
minus_covered z buffer after h = go (lt_z z (pos 0)) after h
  where
    go : (t : Bool) (xs : List ℕ) → 1 ≤ length xs → sets (set buffer 0 45) (length {A = ℕ} (cond t (45 ∷ []) [])) xs ≡ sets buffer 0 (cond t (45 ∷ []) [] ++ xs)
    go true xs h = refl
    go false [] h = absurd (omega arith)
    go false (x ∷ xs) h = ap (λ (l : List ℕ). sets l 1 xs) (set-set buffer 0 45 x)

pub text_length : (places : ℕ) (z : ℤ) → length (text_of places z) ≡ length (sign_of z) + width_of (nat_abs z / 10 ^ places) + 1 + places
unfolding text_of decimal
text_length places z =
    let whole = nat_abs z / 10 ^ places in
    let rest : List ℕ = 46 ∷ characters (digits 10 places (nat_abs z)) in
    let number = characters (digits 10 (width_of whole) whole) in
    omega
    (arith, length-append (sign_of z) (number ++ rest), length-append number rest, length_characters (width_of whole) whole, length_characters places (nat_abs z))

-- a sign, so many digits and one before the point, the point, and those behind it
pub text_most : (places more : ℕ) (z : ℤ) → nat_abs z / 10 ^ places < 10 ^ suc more → length (text_of places z) ≤ more + places + 3
text_most places more z h = omega (arith, text_length places z, length_sign z, bool_byte-le (lt_z z (pos 0)), width_most more (nat_abs z / 10 ^ places) h)

-- digits that fill a part are stored from where it begins
part_stored : (l ys : List ℕ) (at end n : ℕ) → at ≤ end → end ≤ length l → ys ≡ characters (digits 10 (length (mid_of at (end - at) l)) n) → put_mid at (end - at) l ys ≡ sets l at (characters (digits 10 (end - at) n))
part_stored l ys at end n h k e =
    let filled : ys ≡ characters (digits 10 (end - at) n) = e ∙ ap (λ (c : ℕ). characters (digits 10 c n)) (mid_len at end l k) in
    let long : length ys ≡ end - at = ap length filled ∙ length_characters (end - at) n in
    ap (λ (t : List ℕ). take at l ++ (ys ++ t)) (Post-is at end l h ∙ ap (λ (c : ℕ). drop c l) (omega arith))
    ∙ sym (append_assoc (take at l) ys (drop (at + length ys) l))
    ∙ sym (sets-eq ys l at (omega arith))
    ∙ ap (sets l at) filled

-- what was measured of an amount: its size, its whole part, where that begins and where it ends
pub record Measured (places : ℕ) (z : ℤ) (size whole start point : ℕ) : Type 0 where
  pub size_is : size ≡ nat_abs z
  pub whole_is : whole ≡ nat_abs z / 10 ^ places
  pub start_is : start ≡ length (sign_of z)
  pub point_is : point ≡ start + width_of whole

module _ (places : ℕ) (z : ℤ) (size whole start point : ℕ) (m : Measured places z size whole start point) where
  pub length_is : point + 1 + places ≡ length (text_of places z)
  length_is = omega (arith, m.start_is, m.point_is, ap width_of m.whole_is, text_length places z)

  -- a number of 64 bits with a point within has at most 18 digits before it
  pub length_most : size ≤ 2 ^ 63 → 1 ≤ places → places ≤ 4 → point + 1 + places ≤ 24
  length_most small some few =
      let unit : 10 ^ 1 ≤ 10 ^ places = pow-le-pow_right (lit< tt) some in
      let enough : nat_abs z < 10 ^ 18 * 10 ^ places = omega (arith, m.size_is) in
      let digits : width_of (nat_abs z / 10 ^ places) ≤ 18 = width_most 17 (nat_abs z / 10 ^ places) ((div-lt_iff_lt-mul (omega arith)).1 enough) in
      omega (arith, m.start_is, m.point_is, ap width_of m.whole_is, length_sign z, bool_byte-le (lt_z z (pos 0)))

  -- its parts, stored one behind the other, are its text
  pub text_stored : (buffer number fraction : List ℕ) → (let signed = set buffer 0 45 in
      point + 1 + places ≤ length buffer → number ≡ characters (digits 10 (length (mid_of start (point - start) signed)) whole)
      → (let pointed = set (put_mid start (point - start) signed number) point 46 in
      fraction ≡ characters (digits 10 (length (mid_of (point + 1) (point + 1 + places - (point + 1)) pointed)) size)
      → put_mid (point + 1) (point + 1 + places - (point + 1)) pointed fraction ≡ sets buffer 0 (text_of places z)))
  unfolding text_of decimal
  text_stored buffer number fraction room e f =
      let signed = set buffer 0 45 in
      let digits-of-whole = characters (digits 10 (width_of (nat_abs z / 10 ^ places)) (nat_abs z / 10 ^ places)) in
      let rest : List ℕ = 46 ∷ characters (digits 10 places (nat_abs z)) in
      let wide : point - start ≡ width_of (nat_abs z / 10 ^ places) = omega (arith, m.point_is, ap width_of m.whole_is) in
      let long : length digits-of-whole ≡ point - start = omega (arith, length_characters (width_of (nat_abs z / 10 ^ places)) (nat_abs z / 10 ^ places)) in
      let then : start + length digits-of-whole ≡ point = omega (arith, m.point_is) in
      let after : suc (start + length digits-of-whole) ≡ point + 1 = omega arith in
      let last : point + 1 + places - (point + 1) ≡ places = omega arith in
      let whole-stored = part_stored signed number start point whole (omega (arith, m.point_is)) (omega (arith, length-set buffer 0 45)) e in
      let pointed = set (put_mid start (point - start) signed number) point 46 in
      let room-left : point + 1 + places ≤ length pointed = omega (arith, length-set buffer 0 45, ap length whole-stored, length-sets signed start (characters (digits 10 (point - start) whole)), length-set (put_mid start (point - start) signed number) point 46) in
      part_stored pointed fraction (point + 1) (point + 1 + places) size (omega arith) room-left f
      ∙ (λ i. sets (set (whole-stored i) (sym then i) 46) (sym after i) (characters (digits 10 (last i) (m.size_is i))))
      ∙ (λ i. sets (sets signed start (characters (digits 10 (wide i) (m.whole_is i)))) (start + length digits-of-whole) rest)
      ∙ sym (sets_append signed start digits-of-whole rest)
      ∙ ap (λ (k : ℕ). sets signed k (digits-of-whole ++ rest)) m.start_is
      ∙ minus_covered z buffer (digits-of-whole ++ rest) (omega (arith, length-append digits-of-whole rest))

-- ---- the buffer afterwards, and the answer

module _ (text buffer : List ℕ) where
  -- what the writer of a text gives where the buffer is too short
  pub text_refused : length buffer < length text → (Err BufferTooShort ≡ text_written text buffer) × (buffer ≡ text_left text buffer)
  unfolding text_written text_left too_short
  text_refused h = writer_refuses (text_rows text buffer) text buffer BufferTooShort (at_row BufferTooShort [] (lt-ltb (length buffer) (length text) h))

  -- and where it is stored
  pub text_accepted : {after : List ℕ} {n : ℕ} → n ≡ length text → n ≤ length buffer → after ≡ sets buffer 0 text → (Ok n ≡ text_written text buffer) × (after ≡ text_left text buffer)
  unfolding text_written text_left too_short
  text_accepted {after} {n} e h s =
      let fits : length text ≤ length buffer = omega arith in
      writer_accepts (text_rows text buffer) text buffer after n (accepted (text_rows text buffer) (le-ltb (length buffer) (length text) fits, tt)) fits e s

  pub kept : length buffer < length text → buffer ≡ text_left text buffer
  kept h = (text_refused h).1

  pub stored : (after : List ℕ) → length text ≤ length buffer → after ≡ sets buffer 0 text → after ≡ text_left text buffer
  stored after h s = (text_accepted refl h s).1

-- a buffer that holds the text has it at its front
pub left_front : (text buffer : List ℕ) (n : ℕ) → n ≡ length text → n ≤ length buffer → take n (text_left text buffer) ≡ text
unfolding text_left too_short
left_front text buffer n e room =
    ap (take n) (gives_asked (text_rows text buffer) (text ++ drop (length text) buffer) (λ (refusal : Refusal). buffer) (accepted (text_rows text buffer) (le-ltb (length buffer) (length text) (omega arith), tt)))
    ∙ take_at text (drop (length text) buffer) n (sym e)

-- ---- each byte of a text is ASCII

ascii_one : (byte : ℕ) → byte < 128 → IsAscii (byte ∷ [])
ascii_one byte h zero = h
ascii_one byte h (suc i) = omega arith

ascii_digits : (count n : ℕ) → IsAscii (characters (digits 10 count n))
unfolding digits
ascii_digits zero n = λ i. omega arith
ascii_digits (suc count) n = rw map-append (IsAscii-append _ _ (ascii_digits count (n / 10)) (ascii_one (48 + n % 10) (omega arith)))

ascii_sign : (z : ℤ) → IsAscii (sign_of z)
unfolding sign_of
ascii_sign z = go (lt_z z (pos 0))
  where
    go : (t : Bool) → IsAscii (cond t (45 ∷ []) [])
    go true = ascii_one 45 (omega arith)
    go false = λ i. omega arith

pub ascii_text : (places : ℕ) (z : ℤ) → IsAscii (text_of places z)
unfolding text_of decimal
ascii_text places z =
    let whole = nat_abs z / 10 ^ places in
    IsAscii-append (sign_of z) _ (ascii_sign z)
    (IsAscii-append (characters (digits 10 (width_of whole) whole)) _ (ascii_digits (width_of whole) whole) (IsAscii-append (46 ∷ []) _ (ascii_one 46 (omega arith)) (ascii_digits places (nat_abs z))))

-- ---- a whole number

pub decimal_length : (count n : ℕ) → count ≡ width_of n → count ≡ length (decimal n)
unfolding decimal
decimal_length count n e = e ∙ sym (length_characters (width_of n) n)

pub decimal_most : (more n : ℕ) → n < 10 ^ suc more → length (decimal n) ≤ suc more
decimal_most more n h = omega (arith, decimal_length (width_of n) n refl, width_most more n h)

pub decimal_stored : (buffer part : List ℕ) (count whole n : ℕ) → count ≤ length buffer → count ≡ width_of n → whole ≡ n → part ≡ characters (digits 10 (length (take count buffer)) whole) → part ++ drop count buffer ≡ sets buffer 0 (decimal n)
unfolding decimal
decimal_stored buffer part count whole n room e f s =
    let wide : length (take count buffer) ≡ width_of n = length-take-le count buffer room ∙ e in
    let long : length (characters (digits 10 (width_of n) n)) ≡ count = length_characters (width_of n) n ∙ sym e in
    (λ i. (s ∙ (λ j. characters (digits 10 (wide j) (f j)))) i ++ drop (sym long i) buffer)
    ∙ sym (sets_front buffer (characters (digits 10 (width_of n) n)) (omega arith))

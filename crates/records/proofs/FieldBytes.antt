-- Laws of a field's 8 bytes: std's words for bytes and for two's complement are the definitions'. Assumes nothing.
use Rattle.std.specs.Prelude.{◌≡◌, refl, Bool, true, false, cond, List, [], ◌∷◌, ℕ, zero, suc, ◌+◌, ◌-◌, ◌/◌, ◌%◌, ◌^◌, ◌<◌, ◌≤◌, ltb, ℤ, pos, negsuc, ◌-ℤ◌, length, take}
use Rattle.std.proofs.Common.{sym, ap, ◌∙◌, arith, SFits, to_z, of_z, to_z-of_z, get_or, length-take-le, subst}
use Rattle.std.proofs.lemmas.Nat.{from_be_bytes-to_be_bytes_8}
use Rattle.std.specs.Int.{w64, bytes_high_first, to_be_bytes, from_be_bytes}
use Rattle.std.specs.Int.Signed.{lt_z}
use borrow.Author.Tests.{lt-ltb}
use Rattle.ints.specs.Digits.{Digits, digits, value}
use Rattle.ints.proofs.DigitLaws.{digits_split, value_below, digits_value}
use Rattle.ints.specs.Order.{signed}
use Rattle.records.specs.Fields.{field_of, twos_complement, bits_of}

-- ---- bytes

bytes_first : (count n : ℕ) → bytes_high_first count n ≡ digits 256 count n
unfolding digits
bytes_first zero n = refl
bytes_first (suc zero) n = refl
bytes_first (suc (suc count)) n =
    let e : 1 + suc count ≡ suc (suc count) = omega arith in
    ap (λ (l : List ℕ). n / 256 ^ suc count % 256 ∷ l) (bytes_first (suc count) n) ∙ sym (digits_split 256 1 (suc count) n) ∙ ap (λ (k : ℕ). digits 256 k n) e

bytes_are_digits : (n : ℕ) → to_be_bytes w64 n ≡ digits 256 8 n
bytes_are_digits n = bytes_first 8 n

-- a slice's bytes are below 256, as its type says
each_byte : (bytes : List ℕ) → ((i : ℕ) → get_or bytes i 0 < 256) → Digits 256 bytes
each_byte [] h = tt
each_byte (b ∷ bytes) h = (h 0, each_byte bytes (λ i. h (suc i)))

pub eight_small : (bytes : List ℕ) → length bytes ≡ 8 → Digits 256 bytes → value 256 bytes < 2 ^ 64
eight_small bytes l d = subst (λ (n : ℕ). value 256 bytes < 256 ^ n) l (value_below 256 bytes d)

bytes_are_value : (bytes : List ℕ) → length bytes ≡ 8 → Digits 256 bytes → from_be_bytes w64 bytes ≡ value 256 bytes
bytes_are_value bytes l d =
    let n = value 256 bytes in
    let back : to_be_bytes w64 n ≡ bytes = bytes_are_digits n ∙ ap (λ (k : ℕ). digits 256 k n) (sym l) ∙ digits_value 256 bytes d in
    ap (from_be_bytes w64) (sym back) ∙ from_be_bytes-to_be_bytes_8 n (eight_small bytes l d)

-- every byte of a part is a byte
pub digits_take : (n : ℕ) (bytes : List ℕ) → Digits 256 bytes → Digits 256 (take n bytes)
digits_take zero bytes d = tt
digits_take (suc n) [] d = tt
digits_take (suc n) (b ∷ bytes) d = (d.0, digits_take n bytes d.1)

-- ---- the number of 64 bits

pub bits_are_number : (n : ℕ) → n < 2 ^ 64 → to_z w64 n ≡ twos_complement n
unfolding twos_complement
bits_are_number n h = go (ltb n (2 ^ 63)) (lt-ltb n (2 ^ 64) h)
  where
    go : (t : Bool) → ltb n (2 ^ 64) ≡ true → cond t (pos n) (negsuc (2 ^ 64 - suc n)) ≡ cond t (pos n) (pos n -ℤ pos (2 ^ 64))
    go true e = refl
    go false e = sym (ap (λ (t : Bool). cond t (negsuc (2 ^ 64 - suc n)) (pos (n - 2 ^ 64))) e)

pub field_from_bytes : (bytes field : List ℕ) → 8 ≤ length bytes → ((i : ℕ) → get_or bytes i 0 < 256) → field ≡ take 8 bytes → to_z w64 (from_be_bytes w64 field) ≡ field_of bytes
unfolding field_of
field_from_bytes bytes field l h e =
    let eight : length (take 8 bytes) ≡ 8 = length-take-le 8 bytes l in
    let each = digits_take 8 bytes (each_byte bytes h) in
    ap (to_z w64) (ap (from_be_bytes w64) e ∙ bytes_are_value (take 8 bytes) eight each)
    ∙ bits_are_number (value 256 (take 8 bytes)) (eight_small (take 8 bytes) eight each)

-- ---- the 64 bits of a number

pub number_is_bits : (z : ℤ) → of_z w64 z ≡ bits_of z
unfolding bits_of
number_is_bits (pos n) =
    let t : lt_z (pos n) (pos 0) ≡ false = omega signed in
    simp t
number_is_bits (negsuc n) = refl

pub field_to_bytes : (z : ℤ) → SFits w64 z → to_be_bytes w64 (of_z w64 (to_z w64 (of_z w64 z))) ≡ digits 256 8 (bits_of z)
field_to_bytes z f = ap (λ (y : ℤ). to_be_bytes w64 (of_z w64 y)) (to_z-of_z f) ∙ bytes_are_digits (of_z w64 z) ∙ ap (digits 256 8) (number_is_bits z)

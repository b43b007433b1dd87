-- A field's number and its bytes determine each other, and so do the numbers and the bytes of all fields of a record. Assumes nothing.
use Rattle.std.specs.Prelude.{◌≡◌, refl, Bool, true, false, cond, not, ◌||◌, List, [], ◌∷◌, ◌++◌, ℕ, zero, suc, ◌+◌, ◌*◌, ◌^◌, ◌<◌, ◌≤◌, ℤ, pos, length, take, drop}
use Rattle.std.proofs.Common.{sym, ap, ◌∙◌, subst, arith, append_assoc, length-drop, length-take-le, SFits, to_z, to_z-of_z}
use Rattle.std.specs.Int.{w64}
use Rattle.std.proofs.Math.Facts.{Fits-of_z, Fits-of_lt, of_z-to_z}
use Rattle.std.proofs.lemmas.Bool.{false≢true}
use Rattle.std.proofs.lemmas.List.{take_at, drop_at, drop-drop, take-append-drop}
use Rattle.ints.specs.Digits.{Digits, digits, value}
use Rattle.ints.proofs.DigitLaws.{length_digits, value_digits, digits_value}
use Rattle.ints.specs.Machine.{eq_z, eq_z_true}
use Rattle.postings.proofs.BitMaps.{count}
use Rattle.postings.specs.Kinds.{standing}
use Rattle.records.proofs.FieldBytes.{digits_take, eight_small, bits_are_number, number_is_bits}
use Rattle.records.specs.Fields.{twos_complement, field_of, bits_of, bytes_of}
use Rattle.records.specs.Records.{fields_at, zero_present, field_bytes}

-- ---- a field and its bytes

field_read : (z : ℤ) (after : List ℕ) → SFits w64 z → field_of (digits 256 8 (bits_of z) ++ after) ≡ z
unfolding field_of
field_read z after f =
    let small : bits_of z < 2 ^ 64 = subst (λ (n : ℕ). n < 2 ^ 64) (number_is_bits z) (Fits-of_z f).fits in
    ap (λ (l : List ℕ). twos_complement (value 256 l)) (take_at (digits 256 8 (bits_of z)) after 8 (length_digits 256 8 (bits_of z)))
    ∙ ap twos_complement (value_digits 256 8 (bits_of z) (omega arith) small)
    ∙ sym (bits_are_number (bits_of z) small)
    ∙ ap (to_z w64) (sym (number_is_bits z))
    ∙ to_z-of_z f

pub digits_drop : (n : ℕ) (bytes : List ℕ) → Digits 256 bytes → Digits 256 (drop n bytes)
digits_drop zero bytes d = d
digits_drop (suc n) [] d = tt
digits_drop (suc n) (b ∷ bytes) d = digits_drop n bytes d.1

field_written : (bytes : List ℕ) → Digits 256 bytes → 8 ≤ length bytes → digits 256 8 (bits_of (field_of bytes)) ≡ take 8 bytes
unfolding field_of
field_written bytes d h =
    let eight = take 8 bytes in
    let long : length eight ≡ 8 = length-take-le 8 bytes h in
    let each = digits_take 8 bytes d in
    let small = eight_small eight long each in
    let back : bits_of (twos_complement (value 256 eight)) ≡ value 256 eight = ap bits_of (sym (bits_are_number (value 256 eight) small)) ∙ sym (number_is_bits (to_z w64 (value 256 eight))) ∙ of_z-to_z {w = w64} (Fits-of_lt small) in
    ap (digits 256 8) back
    ∙ ap (λ (n : ℕ). digits 256 n (value 256 eight)) (sym long)
    ∙ digits_value 256 eight each

-- ---- the fields of a record

abbrev pub AllFit : List ℤ → Type 0
AllFit [] = Unit
AllFit (z ∷ numbers) = SFits w64 z × AllFit numbers

pub fields_read_lem : (numbers : List ℤ) (after : List ℕ) → AllFit numbers → fields_at (standing numbers) (field_bytes numbers ++ after) ≡ numbers
unfolding fields_at bytes_of
fields_read_lem [] after f = refl
fields_read_lem (z ∷ numbers) after f = go (eq_z z (pos 0)) refl (fields_read_lem numbers after f.1)
  where
    go : (t : Bool) → eq_z z (pos 0) ≡ t → fields_at (standing numbers) (field_bytes numbers ++ after) ≡ numbers → fields_at (not t ∷ standing numbers) ((cond t [] (digits 256 8 (bits_of z)) ++ field_bytes numbers) ++ after) ≡ z ∷ numbers
    go true e more = (λ i. sym (eq_z_true z (pos 0) e) i ∷ more i)
    go false e more =
        let rest = field_bytes numbers ++ after in
        let eight = digits 256 8 (bits_of z) in
        ap (fields_at (true ∷ standing numbers)) (append_assoc eight (field_bytes numbers) after)
        ∙ (λ i. field_read z rest f.0 i ∷ fields_at (standing numbers) (drop_at eight rest 8 (length_digits 256 8 (bits_of z)) i))
        ∙ ap (λ (l : List ℤ). z ∷ l) more

pub none_zero : (numbers : List ℤ) → zero_present (standing numbers) numbers ≡ false
unfolding zero_present
none_zero [] = refl
none_zero (z ∷ numbers) = go (eq_z z (pos 0)) refl (none_zero numbers)
  where
    go : (t : Bool) → eq_z z (pos 0) ≡ t → zero_present (standing numbers) numbers ≡ false → zero_present (not t ∷ standing numbers) (z ∷ numbers) ≡ false
    go true e more = more
    go false e more = ap (λ (t : Bool). t || zero_present (standing numbers) numbers) e ∙ more

neither : (a b : Bool) → a || b ≡ false → (a ≡ false) × (b ≡ false)
neither true b e = absurd (false≢true (sym e))
neither false b e = (refl, e)

-- the fields read where no field present is 0
pub standing_read : (bits : List Bool) (bytes : List ℕ) → zero_present bits (fields_at bits bytes) ≡ false → standing (fields_at bits bytes) ≡ bits
unfolding zero_present fields_at
standing_read [] bytes e = refl
standing_read (true ∷ bits) bytes e =
    let p = neither (eq_z (field_of bytes) (pos 0)) (zero_present bits (fields_at bits (drop 8 bytes))) e in
    (λ i. not (p.0 i) ∷ standing_read bits (drop 8 bytes) p.1 i)
standing_read (false ∷ bits) bytes e = ap (λ (l : List Bool). false ∷ l) (standing_read bits bytes e)

pub fields_written : (bits : List Bool) (bytes : List ℕ) → Digits 256 bytes → 8 * count bits ≤ length bytes → zero_present bits (fields_at bits bytes) ≡ false → field_bytes (fields_at bits bytes) ++ drop (8 * count bits) bytes ≡ bytes
unfolding zero_present fields_at bytes_of
fields_written [] bytes d h e = refl
fields_written (true ∷ bits) bytes d h e =
    let p = neither (eq_z (field_of bytes) (pos 0)) (zero_present bits (fields_at bits (drop 8 bytes))) e in
    let l : 8 ≤ length bytes = omega arith in
    let m : 8 * count bits ≤ length (drop 8 bytes) = omega (arith, length-drop 8 bytes) in
    let n : 8 * (1 + count bits) ≡ 8 + 8 * count bits = omega arith in
    let eight : bytes_of (field_of bytes) ≡ take 8 bytes = ap (λ (t : Bool). cond t [] (digits 256 8 (bits_of (field_of bytes)))) p.0 ∙ field_written bytes d l in
    let rest = field_bytes (fields_at bits (drop 8 bytes)) in
    (λ i. eight i ++ rest ++ (ap (λ (k : ℕ). drop k bytes) n ∙ sym (drop-drop (8 * count bits) 8 bytes)) i)
    ∙ append_assoc (take 8 bytes) rest (drop (8 * count bits) (drop 8 bytes))
    ∙ ap (λ (r : List ℕ). take 8 bytes ++ r) (fields_written bits (drop 8 bytes) (digits_drop 8 bytes d) m p.1)
    ∙ take-append-drop 8 bytes
fields_written (false ∷ bits) bytes d h e =
    let n : 8 * (0 + count bits) ≡ 8 * count bits = omega arith in
    ap (λ (k : ℕ). field_bytes (fields_at bits bytes) ++ drop k bytes) n ∙ fields_written bits bytes d (omega arith) e

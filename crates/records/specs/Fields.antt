-- A field of a record (01, Posting records): 8 bytes, highest byte first, two's complement.
use Rattle.std.specs.Prelude.{cond, List, [], ℕ, ◌-◌, ◌^◌, ltb, ℤ, pos, nat_abs, ◌-ℤ◌, length, take}
use Rattle.std.specs.Int.Signed.{lt_z}
use Rattle.ints.specs.Digits.{digits, value}
use Rattle.ints.specs.Machine.{eq_z}

-- the number that 64 bits are: less 2^64 where the first bit stands
unfoldable pub twos_complement : ℕ → ℤ
twos_complement bits = cond (ltb bits (2 ^ 63)) (pos bits) (pos bits -ℤ pos (2 ^ 64))

-- the field that begins these bytes
unfoldable pub field_of : List ℕ → ℤ
field_of bytes = twos_complement (value 256 (take 8 bytes))

-- the field that begins these bytes, 0 where they are fewer than 8
unfoldable pub field_or0 : List ℕ → ℤ
field_or0 bytes = cond (ltb (length bytes) 8) (pos 0) (field_of bytes)

-- the 64 bits of a number: 2^64 less its size if it is below zero
unfoldable pub bits_of : ℤ → ℕ
bits_of z = cond (lt_z z (pos 0)) (2 ^ 64 - nat_abs z) (nat_abs z)

-- the bytes of a number's field; a field of 0 is never written
unfoldable pub bytes_of : ℤ → List ℕ
bytes_of z = cond (eq_z z (pos 0)) [] (digits 256 8 (bits_of z))

-- round(a/b): the whole number nearest to a quotient (01, Amounts and rounding). How a half goes is said in `tie_of` and nowhere else.
use Rattle.std.specs.Prelude.{cond, ℕ, ◌+◌, ◌*◌, ◌/◌, ◌%◌, ltb, ℤ, pos, negsuc, neg_ℤ, nat_abs}
use Rattle.std.specs.Int.Signed.{lt_z}

-- what a half adds to the whole part of a quotient's size: a half goes away from zero
unfoldable pub tie_of : ℕ → ℕ
tie_of whole = 1

-- the whole number nearest to whole + rest / b: the rest is below a half, above a half, a half
unfoldable pub rounded_of : ℕ → ℕ → ℕ → ℕ
rounded_of whole rest b =
    cond (ltb (2 * rest) b) whole
    (cond (ltb b (2 * rest)) (whole + 1)
    (whole + tie_of whole))

-- the whole number nearest to n / b
unfoldable pub nearest_of : ℕ → ℕ → ℕ
nearest_of n b = rounded_of (n / b) (n % b) b

-- n with the sign of a
abbrev pub with_sign : ℤ → ℕ → ℤ
with_sign (pos a) n = pos n
with_sign (negsuc a) n = neg_ℤ (pos n)

-- round(a/b) for b above 0. A divisor below 1 gives 0
unfoldable pub round : ℤ → ℤ → ℤ
round a b = cond (lt_z b (pos 1)) (pos 0) (with_sign a (nearest_of (nat_abs a) (nat_abs b)))

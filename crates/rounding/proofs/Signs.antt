-- A rounded quotient from the sizes of its parts. Assumes nothing.
use mathlib.Core.Path.{◌≡◌, sym, ◌∙◌, ap, ap₂}
use Prim.Native.Nat.{ℕ, ◌<◌, ◌≤◌}
use native.Mathlib.Omega.{arith}
use lib.IntN.{ℤ, pos, negsuc, nat_abs}
use lib.Signed.{◌<ℤ◌}
use Rattle.ints.specs.Order.{signed, of_lt}
use Rattle.rounding.specs.Round.{nearest_of, with_sign, round}
use Rattle.rounding.proofs.NearestLaws.{nearest_small}
use Rattle.rounding.proofs.RoundLaws.{round_by}

pub record Parts (a b : ℤ) (r s : ℕ) : Type 0 where
  pub dividend : r ≡ nat_abs a
  pub divisor : s ≡ nat_abs b
  pub positive : pos 0 <ℤ b

size_above : (b : ℤ) → pos 0 <ℤ b → 0 < nat_abs b
size_above (pos n) h = omega (signed, of_lt h)
size_above (negsuc n) h = absurd (omega (signed, of_lt h))

pub divisor_above : {a b : ℤ} {r s : ℕ} → Parts a b r s → 0 < s
divisor_above {b = b} p = omega (arith, p.divisor, size_above b p.positive)

pub quotient_small : {a b : ℤ} {r s n : ℕ} → Parts a b r s → n ≡ nearest_of r s → n ≤ nat_abs a
quotient_small {r = r} {s = s} p e = omega (arith, e, p.dividend, nearest_small r s (divisor_above p))

pub quotient_is : {a b : ℤ} {r s n : ℕ} → Parts a b r s → n ≡ nearest_of r s → with_sign a n ≡ round a b
quotient_is {a} {b} p e = ap (with_sign a) (e ∙ ap₂ nearest_of p.dividend p.divisor) ∙ sym (round_by a b p.positive)

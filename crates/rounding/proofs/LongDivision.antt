-- What the two steps of the long division of 100000 × part by whole give: their sizes, and that whole part and rest make
-- the quotient. Assumes nothing.
use mathlib.Core.Path.{◌≡◌}
use Prim.Native.Nat.{ℕ, ◌+◌, ◌*◌, ◌/◌, ◌%◌, ◌≤◌, ◌<◌}
use native.Mathlib.Omega.{arith}
use native.Mathlib.Nat.{div-le_of_le-mul, mod-lt, div-add-mod'}

pub record Steps (part whole : ℕ) : Type 0 where
  pub first_small : 1000 * part / whole ≤ 1000
  pub left_small : 1000 * part % whole < whole
  pub second_small : 100 * (1000 * part % whole) / whole ≤ 100
  pub rest_small : 100 * (1000 * part % whole) % whole < whole
  pub together : 100000 * part ≡ (100 * (1000 * part / whole) + 100 * (1000 * part % whole) / whole) * whole + 100 * (1000 * part % whole) % whole

pub steps : (part whole : ℕ) → part ≤ whole → 0 < whole → Steps part whole
steps part whole h k =
    let left = 1000 * part % whole in
    let small : left < whole = mod-lt (1000 * part) k in
    let e = div-add-mod' (1000 * part) whole in
    let f = div-add-mod' (100 * left) whole in
    record {
      first_small = div-le_of_le-mul whole (omega arith);
      left_small = small;
      second_small = div-le_of_le-mul whole (omega arith);
      rest_small = mod-lt (100 * left) k;
      together = omega arith;
    }

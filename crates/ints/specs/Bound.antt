-- How large an integer can be, put together by `search` from the parts of an expression: `Bound z` is a number and the proof that
-- the size of z is at most that number. `fits64 (search bounds depth 30) tt` shows that a sum, a difference, a product
-- fits an i64, from the ranges of its parts. Assumes nothing.
use Rattle.std.specs.Prelude.{◌≡◌, refl, Bool, true, false, not, ℕ, zero, suc, ◌+◌, ◌*◌, ◌-◌, ◌^◌, ◌<◌, ◌≤◌, max, T, ltb, leb, ℤ, pos, negsuc, neg_ℤ, nat_abs, ◌+ℤ◌, ◌-ℤ◌, ◌*ℤ◌}
use Rattle.std.proofs.Common.{arith, le_trans, mul-le-mul, le_refl, lt_of_le_of_lt, add-le-add, ltb→lt, nltb→le, leb→le, lit≤}
use Rattle.std.specs.Int.Signed.{mag, nat_abs-le}
use Rattle.std.specs.Int.{Width, w8, w16, w32, w64, w128}
use mir.Val.{SFits, to_z, of_z, hbits, bits, sel}
use Rattle.ints.specs.Difference.{over, under}
use Rattle.ints.specs.Order.{signed, sum, minus}
use Rattle.ints.specs.Range.{Between, Within}

pub record Bound (z : ℤ) : Type 0 where
  pub size : ℕ
  pub bound : nat_abs z ≤ size

-- ---- sizes

pub abs_neg : (z : ℤ) → nat_abs (neg_ℤ z) ≡ nat_abs z
abs_neg (pos zero) = refl
abs_neg (pos (suc n)) = refl
abs_neg (negsuc n) = refl

pub abs_mul : (x y : ℤ) → nat_abs (x *ℤ y) ≡ nat_abs x * nat_abs y
abs_mul (pos a) (pos b) = refl
abs_mul (pos a) (negsuc b) = abs_neg (pos (a * suc b))
abs_mul (negsuc a) (pos b) = abs_neg (pos (suc a * b))
abs_mul (negsuc a) (negsuc b) = refl

abs_parts : (z : ℤ) → nat_abs z ≡ over z + under z
abs_parts (pos n) = omega arith
abs_parts (negsuc n) = omega arith

abs_by_parts : (z : ℤ) (a b : ℕ) → over z + b ≡ a + under z → nat_abs z ≤ a + b
abs_by_parts (pos n) a b e = omega arith
abs_by_parts (negsuc n) a b e = omega arith

pub abs_add : (x y : ℤ) → nat_abs (x +ℤ y) ≤ nat_abs x + nat_abs y
abs_add x y = omega (arith, abs_by_parts (x +ℤ y) (over x + over y) (under x + under y) (sum x y), abs_parts x, abs_parts y)

-- reading back the bits of a number never makes it larger, whatever the width
pub twice : (w : Width) → 2 ^ bits w ≡ 2 ^ hbits w + 2 ^ hbits w
twice w8 = refl
twice w16 = refl
twice w32 = refl
twice w64 = refl
twice w128 = refl

some : (w : Width) → 1 ≤ 2 ^ hbits w
some w8 = lit≤ tt
some w16 = lit≤ tt
some w32 = lit≤ tt
some w64 = lit≤ tt
some w128 = lit≤ tt

abs_bits : (w : Width) (n m : ℕ) → (m < 2 ^ hbits w → m ≤ n) → (2 ^ hbits w ≤ m → suc (2 ^ bits w - suc m) ≤ n) → nat_abs (to_z w m) ≤ n
abs_bits w n m f g = go (ltb m (2 ^ hbits w)) (ltb→lt m (2 ^ hbits w)) (nltb→le m (2 ^ hbits w))
  where
    go : (t : Bool) → (T t → m < 2 ^ hbits w) → (T (not t) → 2 ^ hbits w ≤ m) → nat_abs (sel t (pos m) (negsuc (2 ^ bits w - suc m))) ≤ n
    go true k l = f (k tt)
    go false k l = g (l tt)

pub abs_read : (w : Width) (z : ℤ) → nat_abs (to_z w (of_z w z)) ≤ nat_abs z
abs_read w (pos n) = abs_bits w n n (λ h. le_refl n) (λ h. omega (arith, twice w, some w))
abs_read w (negsuc n) = abs_bits w (suc n) (2 ^ bits w - suc n) (λ h. omega (arith, twice w, some w)) (λ h. omega (arith, twice w, some w))

-- ---- a range bounds a size, and a size is a range

pub between_abs : {low high : ℤ} (z : ℤ) → Between low high z → nat_abs z ≤ max (nat_abs low) (nat_abs high)
between_abs {low} {high} (pos n) h = omega (signed, abs_parts low, abs_parts high)
between_abs {low} {high} (negsuc n) h = omega (signed, abs_parts low, abs_parts high)

pub abs_within : {n : ℕ} (z : ℤ) → nat_abs z ≤ n → Within n z
abs_within {n} (pos a) h = omega (signed, minus (pos n))
abs_within {n} (negsuc a) h = omega (signed, minus (pos n))

-- ---- the bound of an expression, from its parts

abbrev pub b_pos : (n : ℕ) → Bound (pos n)
b_pos n = record { size = n; bound = le_refl n }

abbrev pub b_negsuc : (n : ℕ) → Bound (negsuc n)
b_negsuc n = record { size = suc n; bound = le_refl (suc n) }

abbrev pub b_between : {low high z : ℤ} → Between low high z → Bound z
b_between {low} {high} {z} h = record { size = max (nat_abs low) (nat_abs high); bound = between_abs z h }

abbrev pub b_neg : {x : ℤ} → Bound x → Bound (neg_ℤ x)
b_neg {x} p = record { size = p.size; bound = rw (abs_neg x) p.bound }

abbrev pub b_add : {x y : ℤ} → Bound x → Bound y → Bound (x +ℤ y)
b_add {x} {y} p q = record { size = p.size + q.size; bound = le_trans (abs_add x y) (add-le-add p.bound q.bound) }

abbrev pub b_sub : {x y : ℤ} → Bound x → Bound y → Bound (x -ℤ y)
b_sub p q = b_add p (b_neg q)

abbrev pub b_mul : {x y : ℤ} → Bound x → Bound y → Bound (x *ℤ y)
b_mul {x} {y} p q = record { size = p.size * q.size; bound = rw (abs_mul x y) (mul-le-mul p.bound q.bound) }

abbrev pub b_read : {z : ℤ} (w : Width) → Bound z → Bound (to_z w (of_z w z))
b_read {z} w p = record { size = p.size; bound = le_trans (abs_read w z) p.bound }

pub ruleset bounds = (b_between, b_pos, b_negsuc, b_read, b_add, b_sub, b_neg, b_mul)

-- listed beside `bounds` where a callee ensures what its result is
abbrev pub b_eq : {x y : ℤ} → x ≡ y → Bound y → Bound x
b_eq e p = record { size = p.size; bound = rw e p.bound }

-- of an i32 of which only its type is known
abbrev pub b_own32 : {z : ℤ} → SFits w32 z → Bound z
b_own32 {z} h = record { size = 2 ^ 31; bound = nat_abs-le z h.sfits }

-- ---- what a bound gives

mag_abs : (z : ℤ) → mag z ≤ nat_abs z
mag_abs (pos n) = le_refl n
mag_abs (negsuc n) = omega arith

pub fits : (w : Width) {z : ℤ} (b : Bound z) → T (ltb b.size (2 ^ hbits w)) → SFits w z
fits w {z} b t = record { sfits = lt_of_le_of_lt (le_trans (mag_abs z) b.bound) (ltb→lt b.size (2 ^ hbits w) t) }

pub fits64 : {z : ℤ} (b : Bound z) → T (ltb b.size (2 ^ 63)) → SFits w64 z
fits64 = fits w64

pub fits32 : {z : ℤ} (b : Bound z) → T (ltb b.size (2 ^ 31)) → SFits w32 z
fits32 = fits w32

pub within_by : {n : ℕ} {z : ℤ} (b : Bound z) → T (leb b.size n) → Within n z
within_by {n} {z} b t = abs_within z (le_trans b.bound (leb→le b.size n t))

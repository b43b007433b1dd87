-- `omega` over ℤ: `omega signed` reads orders, equations and tests of integers among the hypotheses and in their fields, and
-- proves such goals. An integer z stands there as `over z` less `under z`, two unknowns, so of a sum, a difference, a negation or
-- a product the parts are listed: `omega (signed, sum x y, diff x y, minus x, prod x y)`. A product by a numeral,
-- `prod (pos 95) x`, is linear. Assumes nothing.
use Rattle.std.specs.Prelude.{◌≡◌, refl, Bool, true, false, ◌+◌, ◌<◌, ◌≤◌, ℤ, neg_ℤ, ◌-ℤ◌, ◌≤ℤ◌, ◌<ℤ◌}
use Rattle.std.proofs.Common.{ap, arith, T_not, SFits, to_z, of_z, to_z-of_z}
use Rattle.std.specs.Int.Signed.{le_z, lt_z, le_z_yes, lt_z_yes, lt_z_no}
use Rattle.std.specs.Int.{Width}
use Rattle.ints.specs.Flags.{T_true, T_false, true_T, false_T}
use Rattle.ints.specs.Difference.{over, under, neg_over, neg_under, le_parts, lt_parts, parts_le, parts_lt, balanced}
pub use Rattle.ints.specs.Difference.{sum, prod}

-- ---- the parts of a negation and of a difference, beside those of a sum and a product

pub minus : (x : ℤ) → over (neg_ℤ x) + over x ≡ under x + under (neg_ℤ x)
minus x = omega (arith, neg_over x, neg_under x)

pub diff : (x y : ℤ) → over (x -ℤ y) + (under x + over y) ≡ over x + under y + under (x -ℤ y)
diff x y = omega (arith, sum x (neg_ℤ y), neg_over y, neg_under y)

-- ---- a test's outcome, as an order

pub lt_z_true : (x y : ℤ) → lt_z x y ≡ true → x <ℤ y
lt_z_true x y e = lt_z_yes (true_T e)

pub lt_z_false : (x y : ℤ) → lt_z x y ≡ false → y ≤ℤ x
lt_z_false x y e = lt_z_no (false_T e)

pub le_z_true : (x y : ℤ) → le_z x y ≡ true → x ≤ℤ y
le_z_true x y e = le_z_yes (true_T e)

pub le_z_false : (x y : ℤ) → le_z x y ≡ false → y <ℤ x
le_z_false x y e = go (lt_z y x) refl
  where
    go : (t : Bool) → lt_z y x ≡ t → y <ℤ x
    go true k = lt_z_true y x k
    go false k = absurd (T_not (le_z x y) (false_T e) (lt_z_false y x k).le)

-- ---- what a hypothesis says: an order, an equation, a test with its outcome, a number read back from its bits

pub of_le : {x y : ℤ} → x ≤ℤ y → over x + under y ≤ over y + under x
of_le {x} {y} h = le_parts x y h

pub of_lt : {x y : ℤ} → x <ℤ y → over x + under y < over y + under x
of_lt {x} {y} h = lt_parts x y h

pub of_eq : {x y : ℤ} → x ≡ y → over x + under y ≡ over y + under x
of_eq e = omega (arith, ap over e, ap under e)

pub of_lt_z_true : (x y : ℤ) → lt_z x y ≡ true → over x + under y < over y + under x
of_lt_z_true x y e = lt_parts x y (lt_z_true x y e)

pub of_lt_z_false : (x y : ℤ) → lt_z x y ≡ false → over y + under x ≤ over x + under y
of_lt_z_false x y e = le_parts y x (lt_z_false x y e)

pub of_le_z_true : (x y : ℤ) → le_z x y ≡ true → over x + under y ≤ over y + under x
of_le_z_true x y e = le_parts x y (le_z_true x y e)

pub of_le_z_false : (x y : ℤ) → le_z x y ≡ false → over y + under x < over x + under y
of_le_z_false x y e = lt_parts y x (le_z_false x y e)

pub of_read : {w : Width} {z : ℤ} → SFits w z → over (to_z w (of_z w z)) + under z ≡ over z + under (to_z w (of_z w z))
of_read h = of_eq (to_z-of_z h)

-- ---- what a goal asks

pub to_le : {x y : ℤ} → over x + under y ≤ over y + under x → x ≤ℤ y
to_le {x} {y} h = parts_le x y h

pub to_lt : {x y : ℤ} → over x + under y < over y + under x → x <ℤ y
to_lt {x} {y} h = parts_lt x y h

pub to_eq : {x y : ℤ} → over x + under y ≡ over y + under x → x ≡ y
to_eq {x} {y} h = balanced x y h

pub to_lt_z_true : (x y : ℤ) → over x + under y < over y + under x → lt_z x y ≡ true
to_lt_z_true x y h = T_true (lt_z x y) (parts_lt x y h).lt

pub to_le_z_true : (x y : ℤ) → over x + under y ≤ over y + under x → le_z x y ≡ true
to_le_z_true x y h = T_true (le_z x y) (parts_le x y h).le

pub to_lt_z_false : (x y : ℤ) → over y + under x ≤ over x + under y → lt_z x y ≡ false
to_lt_z_false x y h = T_false (lt_z x y) (λ t. clash (lt_parts x y (record { lt = t })))
  where
    clash : over x + under y < over y + under x → ⊥
    clash k = omega arith

pub to_le_z_false : (x y : ℤ) → over y + under x < over x + under y → le_z x y ≡ false
to_le_z_false x y h = T_false (le_z x y) (λ t. clash (le_parts x y (record { le = t })))
  where
    clash : over x + under y ≤ over y + under x → ⊥
    clash k = omega arith

pub ruleset signed =
    (arith, of_le, of_lt, of_eq, of_lt_z_true, of_lt_z_false, of_le_z_true, of_le_z_false, of_read, to_le, to_lt, to_eq, to_lt_z_true, to_le_z_true, to_lt_z_false, to_le_z_false)

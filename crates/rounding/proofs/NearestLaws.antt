-- Laws of the nearest whole number, on sizes. The first is the one law of the rule for a half; the rest follow from it whatever
-- the rule. Assumes nothing.
use Rattle.std.specs.Prelude.{◌≡◌, refl, ◌⊎◌, Bool, true, false, cond, ℕ, suc, ◌+◌, ◌*◌, ◌/◌, ◌%◌, ◌≤◌, ◌<◌, ltb}
use Rattle.std.proofs.Common.{ap, ap₂, inl, inr, arith, div-add-mod', mod-lt, eq-or-lt_of_le, le_of_eq, le_of_suc-le-suc, le_antisymm, mul-le-mul_left, mul-le-mul_right, mul-zero, ltb-true, ltb-false}
use Rattle.std.proofs.Math.Nat.{div-eq_of_lt-le, lt_of_mul-lt-mul_left}
use Rattle.rounding.specs.Round.{tie_of, rounded_of, nearest_of}
use Rattle.rounding.specs.Nearest.{Near}

-- ---- the one law of the rule

pub tie_small : (whole : ℕ) → tie_of whole ≤ 1
unfolding tie_of
tie_small whole = omega arith

-- ---- 2 |n − b × nearest| ≤ b

at_half : (n b whole rest extra : ℕ) → n ≡ whole * b + rest → 2 * rest ≡ b → extra ≤ 1 → Near n b (whole + extra)
at_half n b whole rest extra e h l = omega (arith, mul-le-mul_left b l)

rounded_near : (n b whole rest : ℕ) → n ≡ whole * b + rest → rest < b → Near n b (rounded_of whole rest b)
unfolding rounded_of
rounded_near n b whole rest e l = go (ltb (2 * rest) b) (ltb b (2 * rest)) refl refl
  where
    go : (s t : Bool) → ltb (2 * rest) b ≡ s → ltb b (2 * rest) ≡ t → Near n b (cond s whole (cond t (whole + 1) (whole + tie_of whole)))
    go true t p q = omega (arith, ltb-true (2 * rest) b p)
    go false true p q = omega (arith, ltb-true b (2 * rest) q)
    go false false p q =
        at_half n b whole rest (tie_of whole) e (le_antisymm (ltb-false b (2 * rest) q) (ltb-false (2 * rest) b p)) (tie_small whole)

pub nearest_near : (n b : ℕ) → 0 < b → Near n b (nearest_of n b)
unfolding nearest_of
nearest_near n b h = rounded_near n b (n / b) (n % b) (omega (arith, div-add-mod' n b)) (mod-lt n h)

-- ---- what follows from that alone

pub nearest_mono : (n m b : ℕ) → 0 < b → n ≤ m → nearest_of n b ≤ nearest_of m b
nearest_mono n m b h k = go (eq-or-lt_of_le k)
  where
    go : (n ≡ m) ⊎ (n < m) → nearest_of n b ≤ nearest_of m b
    go (inl e) = le_of_eq (ap (λ z. nearest_of z b) e)
    go (inr l) =
        let p = nearest_near n b h in
        let q = nearest_near m b h in
        le_of_suc-le-suc (lt_of_mul-lt-mul_left b {m = nearest_of n b} {n = suc (nearest_of m b)} (omega arith))

pub nearest_exact : (q b : ℕ) → 0 < b → nearest_of (b * q) b ≡ q
nearest_exact q b h =
    let p = nearest_near (b * q) b h in
    let x = nearest_of (b * q) b in
    le_antisymm (le_of_suc-le-suc (lt_of_mul-lt-mul_left b {m = x} {n = suc q} (omega arith))) (le_of_suc-le-suc (lt_of_mul-lt-mul_left b {m = q} {n = suc x} (omega arith)))

pub nearest_zero : (b : ℕ) → 0 < b → nearest_of 0 b ≡ 0
nearest_zero b h = rw mul-zero at (nearest_exact 0 b h)

pub nearest_small : (n b : ℕ) → 0 < b → nearest_of n b ≤ n
nearest_small n b h = omega (arith, nearest_mono n (b * n) b h (omega (arith, mul-le-mul_right n h)), nearest_exact n b h)

-- k times a part of a whole, over the whole, is at most k
pub nearest_part : (k part whole : ℕ) → part ≤ whole → 0 < whole → nearest_of (k * part) whole ≤ k
nearest_part k part whole h l =
    omega (arith, nearest_mono (k * part) (whole * k) whole l (omega (arith, mul-le-mul_left k h)), nearest_exact k whole l)

-- at most one more than the quotient of a larger number
pub nearest_by : (n m b : ℕ) → 0 < b → n ≤ m → nearest_of n b ≤ m / b + 1
nearest_by n m b h k =
    let p = nearest_near n b h in
    let d = div-add-mod' m b in
    let l = mod-lt m {m = b} h in
    let s : nearest_of n b < m / b + 2 = lt_of_mul-lt-mul_left (2 * b) {m = nearest_of n b} {n = m / b + 2} (omega arith) in
    omega arith

-- ---- by any whole part and rest, as a long division has them

pub nearest_of_lem : (n whole rest b : ℕ) → n ≡ whole * b + rest → rest < b → nearest_of n b ≡ rounded_of whole rest b
unfolding nearest_of
nearest_of_lem n whole rest b e l = ap₂ (λ q r. rounded_of q r b) q r
  where
    q : n / b ≡ whole
    q = div-eq_of_lt-le b (omega arith) (omega arith)

    r : n % b ≡ rest
    r = omega (arith, div-add-mod' n b, ap (λ z. z * b) q)

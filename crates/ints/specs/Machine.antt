-- What the machine's operations on bits are to the integers: a number read back from its bits, a test made of what was read, `==`,
-- a cast to an unsigned type, `!`. (`<` and `<=` reach a proof as `<ℤ` and `≤ℤ`, which `omega signed` reads.) Assumes nothing.
use Rattle.std.specs.Prelude.{◌≡◌, refl, Bool, true, false, not, ℕ, ◌+◌, ◌-◌, ◌^◌, ◌≤◌, ◌<◌, T, eqb, ltb, ℤ, pos, negsuc, nat_abs, ◌≤ℤ◌, ◌<ℤ◌}
use Rattle.std.proofs.Common.{sym, ◌∙◌, ap, ap₂, arith, lit<, to_z-of_z, eqb-true, eq-eqb}
use Rattle.std.specs.Int.Signed.{mag, non_neg, yes_non_neg}
use Rattle.std.specs.Int.{Width, w32, w64}
use mir.Val.{SFits, Fits, to_z, of_z, bits, hbits}
use Rattle.std.proofs.Math.Facts.{to_z_pos, to_z-neg, Fits-nat_abs}
use Rattle.std.proofs.lemmas.Bool.{eqb-false}
use Rattle.ints.specs.Flags.{T_true, T_false}
use Rattle.ints.specs.Order.{signed, of_lt}
use Rattle.ints.specs.Bound.{twice}

-- ---- what was read back

-- of a call's result a goal is told the bare bound: `reads w64 c.f.result c.f.type_inv`
pub reads : (w : Width) (z : ℤ) → mag z < 2 ^ hbits w → to_z w (of_z w z) ≡ z
reads w z h = to_z-of_z {w = w} {z = z} (record { sfits = h })

-- a call handed on: its result is f of the two numbers that were passed
pub handed_on : {w : Width} {x y : ℤ} (f : ℤ → ℤ → ℤ) (r : ℤ) → SFits w x → SFits w y → mag r < 2 ^ hbits w → r ≡ f (to_z w (of_z w x)) (to_z w (of_z w y)) → to_z w (of_z w r) ≡ f x y
handed_on {w} f r p q h e = reads w r h ∙ e ∙ ap₂ f (to_z-of_z p) (to_z-of_z q)

-- what `unsigned_abs` gave of a number
pub size_read : {w : Width} {r : ℕ} {z : ℤ} → SFits w z → r ≡ nat_abs (to_z w (of_z w z)) → r ≡ nat_abs z
size_read f e = e ∙ ap nat_abs (to_z-of_z f)

-- a test p of what was read, made by a function that ensures `r ≡ p x`, had the outcome v: so has p of the number itself
pub tested : {w : Width} {z : ℤ} {r v : Bool} (p : ℤ → Bool) → SFits w z → r ≡ p (to_z w (of_z w z)) → r ≡ v → p z ≡ v
tested p f e t = ap p (sym (to_z-of_z f)) ∙ sym e ∙ t

-- the same where the code tests `!r`
pub tested_not : {w : Width} {z : ℤ} {r v : Bool} (p : ℤ → Bool) → SFits w z → r ≡ p (to_z w (of_z w z)) → not r ≡ v → p z ≡ not v
tested_not {r = r} p f e t = tested p f e (sym (not_not r) ∙ ap not t)
  where
    not_not : (s : Bool) → not (not s) ≡ s
    not_not true = refl
    not_not false = refl

-- ---- `==`, which compares bits

pub eq_bits : {w : Width} {x y : ℤ} → SFits w x → SFits w y → of_z w x ≡ of_z w y → x ≡ y
eq_bits {w} f g e = sym (to_z-of_z f) ∙ ap (to_z w) e ∙ to_z-of_z g

abbrev pub eq_z : ℤ → ℤ → Bool
eq_z (pos a) (pos b) = eqb a b
eq_z (pos a) (negsuc b) = false
eq_z (negsuc a) (pos b) = false
eq_z (negsuc a) (negsuc b) = eqb a b

pub eq_z_true : (x y : ℤ) → eq_z x y ≡ true → x ≡ y
eq_z_true (pos a) (pos b) e = ap pos (eqb-true a b e)
eq_z_true (pos a) (negsuc b) e = cc
eq_z_true (negsuc a) (pos b) e = cc
eq_z_true (negsuc a) (negsuc b) e = ap negsuc (eqb-true a b e)

eq_z_refl : (x : ℤ) → eq_z x x ≡ true
eq_z_refl (pos a) = eq-eqb a a refl
eq_z_refl (negsuc a) = eq-eqb a a refl

pub eq_z_false : (x y : ℤ) → (x ≡ y → ⊥) → eq_z x y ≡ false
eq_z_false x y f = T_false (eq_z x y) (λ t. f (eq_z_true x y (T_true (eq_z x y) t)))

pub eq_z_bits : {w : Width} {x y : ℤ} → SFits w x → SFits w y → eqb (of_z w x) (of_z w y) ≡ eq_z x y
eq_z_bits {w} {x} {y} f g = go (eqb (of_z w x) (of_z w y)) refl
  where
    go : (t : Bool) → eqb (of_z w x) (of_z w y) ≡ t → eqb (of_z w x) (of_z w y) ≡ eq_z x y
    go true e = e ∙ sym (ap (eq_z x) (sym (eq_bits f g (eqb-true (of_z w x) (of_z w y) e))) ∙ eq_z_refl x)
    go false e = e ∙ sym (eq_z_false x y (λ k. eqb-false (of_z w x) (of_z w y) e (ap (of_z w) k)))

-- for `== 0`
pub zero64 : SFits w64 (pos 0)
zero64 = record { sfits = lit< tt }

pub zero32 : SFits w32 (pos 0)
zero32 = record { sfits = lit< tt }

-- ---- a number that is not negative, cast to an unsigned type

pub to_unsigned : {w w' : Width} {z : ℤ} → SFits w z → pos 0 ≤ℤ z → T (ltb (hbits w) (bits w')) → T (non_neg (to_z w (of_z w z))) × Fits w' (nat_abs (to_z w (of_z w z)))
to_unsigned f h t = rw (to_z-of_z f) (yes_non_neg h, Fits-nat_abs t f)

-- ---- `!`: -1 less the number

abbrev pub flip : ℤ → ℤ
flip (pos n) = negsuc n
flip (negsuc n) = pos n

pub not_read : {w : Width} {z : ℤ} → SFits w z → to_z w (2 ^ bits w - 1 - of_z w z) ≡ flip z
not_read {w} {z = pos n} f = ap (to_z w) (omega arith) ∙ to_z-neg w n f.sfits
not_read {w} {z = negsuc n} f = ap (to_z w) (omega (arith, twice w)) ∙ to_z_pos w f.sfits

-- of a number below zero it is one less than its size
pub flip_below : {w : Width} {z : ℤ} → SFits w z → z <ℤ pos 0 → T (non_neg (flip z)) × (nat_abs (flip z) + 1 ≡ nat_abs z) × (nat_abs z ≤ 2 ^ hbits w)
flip_below {w} {z = pos n} f h = absurd (omega (signed, of_lt h))
flip_below {w} {z = negsuc n} f h = (tt, omega arith, f.sfits)

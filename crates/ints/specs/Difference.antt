-- An integer as a difference of two natural numbers, `a ⊖ b`, which does not unfold: its laws turn sums, products, equations
-- and orders of integers into those of natural numbers, which `omega` reads. Assumes nothing.
use Rattle.std.specs.Prelude.{◌≡◌, refl, ◌↔◌, Bool, true, false, not, cond, ℕ, zero, suc, ◌+◌, ◌*◌, ◌-◌, ◌<◌, ◌≤◌, T, ltb, ℤ, pos, negsuc, neg_ℤ, ◌+ℤ◌, ◌*ℤ◌, ◌≤ℤ◌, ◌<ℤ◌}
use Rattle.std.proofs.Common.{ap, arith, ltb→lt, nltb→le, leb→le, le→leb, lt→ltb}
use Rattle.std.proofs.Math.IntN.{sub_ℕ}

-- how far z lies over zero, and how far under it: one of the two is 0
abbrev pub over : ℤ → ℕ
over (pos n) = n
over (negsuc n) = 0

abbrev pub under : ℤ → ℕ
under (pos n) = 0
under (negsuc n) = suc n

-- two integers are equal where their parts balance
pub balanced : (x y : ℤ) → over x + under y ≡ over y + under x → x ≡ y
balanced (pos a) (pos b) h = ap pos (omega arith)
balanced (pos a) (negsuc b) h = absurd (omega arith)
balanced (negsuc a) (pos b) h = absurd (omega arith)
balanced (negsuc a) (negsuc b) h = ap negsuc (omega arith)

-- ---- the parts of a sum, a negation, a product

sub_parts : (a b : ℕ) → over (sub_ℕ a b) + b ≡ a + under (sub_ℕ a b)
sub_parts a b = go (ltb a b) (ltb→lt a b) (nltb→le a b)
  where
    go : (t : Bool) → (T t → a < b) → (T (not t) → b ≤ a) →
        over (cond t (negsuc (b - suc a)) (pos (a - b))) + b ≡ a + under (cond t (negsuc (b - suc a)) (pos (a - b)))
    go true f g = let h = f tt in omega arith
    go false f g = let h = g tt in omega arith

pub sum : (x y : ℤ) → over (x +ℤ y) + (under x + under y) ≡ over x + over y + under (x +ℤ y)
sum (pos a) (pos b) = omega arith
sum (pos a) (negsuc b) = omega (arith, sub_parts a (suc b))
sum (negsuc a) (pos b) = omega (arith, sub_parts b (suc a))
sum (negsuc a) (negsuc b) = omega arith

pub neg_over : (x : ℤ) → over (neg_ℤ x) ≡ under x
neg_over (pos zero) = refl
neg_over (pos (suc n)) = refl
neg_over (negsuc n) = refl

pub neg_under : (x : ℤ) → under (neg_ℤ x) ≡ over x
neg_under (pos zero) = refl
neg_under (pos (suc n)) = refl
neg_under (negsuc n) = refl

pub prod :
    (x y : ℤ) → over (x *ℤ y) + (over x * under y + under x * over y) ≡ over x * over y + under x * under y + under (x *ℤ y)
prod (pos a) (pos b) = omega arith
prod (pos a) (negsuc b) = omega (arith, neg_over (pos (a * suc b)), neg_under (pos (a * suc b)))
prod (negsuc a) (pos b) = omega (arith, neg_over (pos (suc a * b)), neg_under (pos (suc a * b)))
prod (negsuc a) (negsuc b) = omega arith

-- ---- an order, by the parts

pub le_parts : (x y : ℤ) → x ≤ℤ y → over x + under y ≤ over y + under x
le_parts (pos a) (pos b) h = omega (arith, leb→le a b h.le)
le_parts (pos a) (negsuc b) h = absurd h.le
le_parts (negsuc a) (pos b) h = omega arith
le_parts (negsuc a) (negsuc b) h = omega (arith, leb→le b a h.le)

pub parts_le : (x y : ℤ) → over x + under y ≤ over y + under x → x ≤ℤ y
parts_le (pos a) (pos b) h = record { le = le→leb a b (omega arith) }
parts_le (pos a) (negsuc b) h = absurd (omega arith)
parts_le (negsuc a) (pos b) h = record { le = tt }
parts_le (negsuc a) (negsuc b) h = record { le = le→leb b a (omega arith) }

pub lt_parts : (x y : ℤ) → x <ℤ y → over x + under y < over y + under x
lt_parts (pos a) (pos b) h = omega (arith, ltb→lt a b h.lt)
lt_parts (pos a) (negsuc b) h = absurd h.lt
lt_parts (negsuc a) (pos b) h = omega arith
lt_parts (negsuc a) (negsuc b) h = omega (arith, ltb→lt b a h.lt)

pub parts_lt : (x y : ℤ) → over x + under y < over y + under x → x <ℤ y
parts_lt (pos a) (pos b) h = record { lt = lt→ltb a b (omega arith) }
parts_lt (pos a) (negsuc b) h = absurd (omega arith)
parts_lt (negsuc a) (pos b) h = record { lt = tt }
parts_lt (negsuc a) (negsuc b) h = record { lt = lt→ltb b a (omega arith) }

-- ---- the difference, and its laws

infixl 60 ◌⊖◌
pub ◌⊖◌ : ℕ → ℕ → ℤ
a ⊖ b = sub_ℕ a b

⊖-parts : (a b : ℕ) → over (a ⊖ b) + b ≡ a + under (a ⊖ b)
unfolding ◌⊖◌
⊖-parts a b = sub_parts a b

pub split : (z : ℤ) → z ≡ over z ⊖ under z
split z = balanced z (over z ⊖ under z) (omega (arith, ⊖-parts (over z) (under z)))

pub pos-⊖ : (n : ℕ) → pos n ≡ n ⊖ 0
pos-⊖ n = balanced (pos n) (n ⊖ 0) (omega (arith, ⊖-parts n 0))

pub negsuc-⊖ : (n : ℕ) → negsuc n ≡ 0 ⊖ suc n
negsuc-⊖ n = balanced (negsuc n) (0 ⊖ suc n) (omega (arith, ⊖-parts 0 (suc n)))

pub ⊖-add : (a b c d : ℕ) → (a ⊖ b) +ℤ (c ⊖ d) ≡ (a + c) ⊖ (b + d)
⊖-add a b c d =
    balanced ((a ⊖ b) +ℤ (c ⊖ d)) ((a + c) ⊖ (b + d))
    (omega (arith, ⊖-parts a b, ⊖-parts c d, ⊖-parts (a + c) (b + d), sum (a ⊖ b) (c ⊖ d)))

pub ⊖-neg : (a b : ℕ) → neg_ℤ (a ⊖ b) ≡ b ⊖ a
⊖-neg a b = balanced (neg_ℤ (a ⊖ b)) (b ⊖ a) (omega (arith, ⊖-parts a b, ⊖-parts b a, neg_over (a ⊖ b), neg_under (a ⊖ b)))

cross : (p n a b q m c d : ℕ) → p + b ≡ a + n → q + d ≡ c + m → p * q + n * m + (a * d + b * c) ≡ a * c + b * d + (p * m + n * q)
cross p n a b q m c d h k =
    omega (arith, ap (λ (x : ℕ). x * q) h, ap (λ (x : ℕ). x * m) h, ap (λ (x : ℕ). a * x) k, ap (λ (x : ℕ). b * x) k)

pub ⊖-mul : (a b c d : ℕ) → (a ⊖ b) *ℤ (c ⊖ d) ≡ (a * c + b * d) ⊖ (a * d + b * c)
⊖-mul a b c d =
    let x = a ⊖ b in
    let y = c ⊖ d in
    let crossed = cross (over x) (under x) a b (over y) (under y) c d (⊖-parts a b) (⊖-parts c d) in
    balanced (x *ℤ y) ((a * c + b * d) ⊖ (a * d + b * c))
    (omega (arith, ⊖-parts (a * c + b * d) (a * d + b * c), prod x y, crossed))

pub ⊖-eq : (a b c d : ℕ) → (a ⊖ b ≡ c ⊖ d) ↔ (a + d ≡ c + b)
⊖-eq a b c d =
    ((λ e. omega (arith, ⊖-parts a b, ⊖-parts c d, ap over e, ap under e)), (λ e. balanced (a ⊖ b) (c ⊖ d) (omega (arith, ⊖-parts a b, ⊖-parts c d))))

pub ⊖-le : (a b c d : ℕ) → (a ⊖ b ≤ℤ c ⊖ d) ↔ (a + d ≤ c + b)
⊖-le a b c d =
    ((λ h. omega (arith, ⊖-parts a b, ⊖-parts c d, le_parts (a ⊖ b) (c ⊖ d) h)), (λ h. parts_le (a ⊖ b) (c ⊖ d) (omega (arith, ⊖-parts a b, ⊖-parts c d))))

pub ⊖-lt : (a b c d : ℕ) → (a ⊖ b <ℤ c ⊖ d) ↔ (a + d < c + b)
⊖-lt a b c d =
    ((λ h. omega (arith, ⊖-parts a b, ⊖-parts c d, lt_parts (a ⊖ b) (c ⊖ d) h)), (λ h. parts_lt (a ⊖ b) (c ⊖ d) (omega (arith, ⊖-parts a b, ⊖-parts c d))))

-- `rw (split x, split y) (simp differences (omega arith))`: a linear statement over x and y, hypotheses before arrows
pub ruleset differences = (pos-⊖, negsuc-⊖, ⊖-add, ⊖-neg, ⊖-mul, ⊖-eq, ⊖-le, ⊖-lt)

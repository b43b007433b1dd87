-- A solver for equations of ℤ that hold in every commutative ring: `solve 3 (λ a b c. a :* (b :- c) := a :* b :- a :* c) tt x y z`.
-- An expression is brought to a sum of monomials with coefficients; an equation holds where the difference of its sides has no
-- coefficient but zero, which antt computes. Assumes nothing.
use Rattle.std.specs.Prelude.{◌≡◌, Bool, true, false, ◌&&◌, cond, ℕ, zero, suc, T, leb, eqb, ℤ, negsuc, ◌+ℤ◌, ◌-ℤ◌, ◌*ℤ◌}
use Rattle.std.proofs.Math.Path.{refl, sym, ap, ap₂}
use Rattle.std.proofs.Common.{◌∙◌, arith, eqb→eq}
use mathlib.Core.List.{List, [], ◌∷◌}
use Rattle.std.proofs.Math.IntN.{pos, neg_ℤ, zero-*ℤ, +ℤ_idl, +ℤ_idr}
use Rattle.ints.specs.Flags.{T_left, T_right}
use Rattle.ints.specs.Difference.{differences, split}

-- ---- expressions and equations over numbered unknowns

infixl 60 ◌:+◌ ◌:-◌
infixl 70 ◌:*◌
infix 50 ◌:=◌
pub data Expr : Type 0 where
  unknown : ℕ → Expr
  constant : ℤ → Expr
  ◌:+◌ : Expr → Expr → Expr
  ◌:-◌ : Expr → Expr → Expr
  ◌:*◌ : Expr → Expr → Expr
  neg : Expr → Expr

pub data Equation : Type 0 where
  ◌:=◌ : Expr → Expr → Equation

-- a numeral
abbrev pub # : ℕ → Expr
# n = constant (pos n)

abbrev pub value_at : List ℤ → ℕ → ℤ
value_at [] i = pos 0
value_at (x ∷ ρ) zero = x
value_at (x ∷ ρ) (suc i) = value_at ρ i

abbrev pub value_of : Expr → List ℤ → ℤ
value_of (unknown i) ρ = value_at ρ i
value_of (constant c) ρ = c
value_of (a :+ b) ρ = value_of a ρ +ℤ value_of b ρ
value_of (a :- b) ρ = value_of a ρ -ℤ value_of b ρ
value_of (a :* b) ρ = value_of a ρ *ℤ value_of b ρ
value_of (neg a) ρ = neg_ℤ (value_of a ρ)

abbrev pub Holds : Equation → List ℤ → Type 0
Holds (a := b) ρ = value_of a ρ ≡ value_of b ρ

-- ---- normal form: a sum of coefficients times sorted lists of unknowns

pub data Sum : Type 0 where
  nothing : Sum
  term : ℤ → List ℕ → Sum → Sum

abbrev pub same : List ℕ → List ℕ → Bool
same [] [] = true
same [] (j ∷ n) = false
same (i ∷ m) [] = false
same (i ∷ m) (j ∷ n) = eqb i j && same m n

abbrev pub insert : ℕ → List ℕ → List ℕ
insert i [] = i ∷ []
insert i (j ∷ m) = cond (leb i j) (i ∷ j ∷ m) (j ∷ insert i m)

abbrev pub merge : List ℕ → List ℕ → List ℕ
merge [] n = n
merge (i ∷ m) n = insert i (merge m n)

abbrev pub add_term : ℤ → List ℕ → Sum → Sum
add_term c m nothing = term c m nothing
add_term c m (term d n p) = cond (same m n) (term (c +ℤ d) n p) (term d n (add_term c m p))

abbrev pub add : Sum → Sum → Sum
add nothing q = q
add (term c m p) q = add_term c m (add p q)

abbrev pub scale : ℤ → List ℕ → Sum → Sum
scale c m nothing = nothing
scale c m (term d n p) = term (c *ℤ d) (merge m n) (scale c m p)

abbrev pub multiply : Sum → Sum → Sum
multiply nothing q = nothing
multiply (term c m p) q = add (scale c m q) (multiply p q)

abbrev pub normal : Expr → Sum
normal (unknown i) = term (pos 1) (i ∷ []) nothing
normal (constant c) = term c [] nothing
normal (a :+ b) = add (normal a) (normal b)
normal (a :- b) = add (normal a) (scale (negsuc 0) [] (normal b))
normal (a :* b) = multiply (normal a) (normal b)
normal (neg a) = scale (negsuc 0) [] (normal a)

abbrev pub is_zero : ℤ → Bool
is_zero (pos zero) = true
is_zero (pos (suc n)) = false
is_zero (negsuc n) = false

abbrev pub is_nothing : Sum → Bool
is_nothing nothing = true
is_nothing (term c m p) = is_zero c && is_nothing p

-- the test that antt computes
abbrev pub sides_agree : Equation → Bool
sides_agree (a := b) = is_nothing (normal (a :- b))

-- ---- the laws of ℤ that this rests on

*-assoc : (x y z : ℤ) → (x *ℤ y) *ℤ z ≡ x *ℤ (y *ℤ z)
*-assoc x y z = rw (split x, split y, split z) (simp differences (omega arith))

*-left-comm : (x y z : ℤ) → x *ℤ (y *ℤ z) ≡ y *ℤ (x *ℤ z)
*-left-comm x y z = rw (split x, split y, split z) (simp differences (omega arith))

*-over-+ : (x y z : ℤ) → x *ℤ (y +ℤ z) ≡ x *ℤ y +ℤ x *ℤ z
*-over-+ x y z = rw (split x, split y, split z) (simp differences (omega arith))

+-times : (x y z : ℤ) → (x +ℤ y) *ℤ z ≡ x *ℤ z +ℤ y *ℤ z
+-times x y z = rw (split x, split y, split z) (simp differences (omega arith))

one_times : (x : ℤ) → pos 1 *ℤ x ≡ x
one_times x = rw (split x) (simp differences (omega arith))

times_one : (x : ℤ) → x *ℤ pos 1 ≡ x
times_one x = rw (split x) (simp differences (omega arith))

times_zero : (x : ℤ) → pos 0 ≡ x *ℤ pos 0
times_zero x = rw (split x) (simp differences (omega arith))

minus_one_times : (x : ℤ) → negsuc 0 *ℤ x ≡ neg_ℤ x
minus_one_times x = rw (split x) (simp differences (omega arith))

like_terms : (c d x y : ℤ) → (c +ℤ d) *ℤ x +ℤ y ≡ c *ℤ x +ℤ (d *ℤ x +ℤ y)
like_terms c d x y = rw (split c, split d, split x, split y) (simp differences (omega arith))

past : (a b x y : ℤ) → x ≡ a +ℤ y → b +ℤ x ≡ a +ℤ (b +ℤ y)
past a b x y = rw (split a, split b, split x, split y) (simp differences (omega arith))

apart : (a x y z : ℤ) → x ≡ y +ℤ z → a +ℤ x ≡ a +ℤ y +ℤ z
apart a x y z = rw (split a, split x, split y, split z) (simp differences (omega arith))

times : (c d x y p : ℤ) → c *ℤ d *ℤ (x *ℤ y) +ℤ c *ℤ x *ℤ p ≡ c *ℤ x *ℤ (d *ℤ y +ℤ p)
times c d x y p = simp (*-assoc, *-over-+, *-left-comm)

equal_by_difference : (x y : ℤ) → x -ℤ y ≡ pos 0 → x ≡ y
equal_by_difference x y = rw (split x, split y) (simp differences (omega arith))

-- ---- the normal form has the value of the expression

cond_is : {A : Type 0} (P : A → Type 0) (t : Bool) (a b : A) → (T t → P a) → P b → P (cond t a b)
cond_is P true a b f g = f tt
cond_is P false a b f g = g

same_sound : (m n : List ℕ) → T (same m n) → m ≡ n
same_sound [] [] t = refl
same_sound [] (j ∷ n) t = absurd t
same_sound (i ∷ m) [] t = absurd t
same_sound (i ∷ m) (j ∷ n) t = ap₂ ◌∷◌ (eqb→eq i j (T_left (eqb i j) (same m n) t)) (same_sound m n (T_right (eqb i j) (same m n) t))

module _ (ρ : List ℤ) where
  product : List ℕ → ℤ
  product [] = pos 1
  product (i ∷ m) = value_at ρ i *ℤ product m

  total : Sum → ℤ
  total nothing = pos 0
  total (term c m p) = c *ℤ product m +ℤ total p

  product_insert : (i : ℕ) (m : List ℕ) → product (insert i m) ≡ value_at ρ i *ℤ product m
  unfolding product
  product_insert i [] = refl
  product_insert i (j ∷ m) =
      cond_is (λ n. product n ≡ value_at ρ i *ℤ (value_at ρ j *ℤ product m)) (leb i j) (i ∷ j ∷ m) (j ∷ insert i m) (λ t. refl)
      (ap (λ x. value_at ρ j *ℤ x) (product_insert i m) ∙ *-left-comm (value_at ρ j) (value_at ρ i) (product m))

  product_merge : (m n : List ℕ) → product (merge m n) ≡ product m *ℤ product n
  unfolding product
  product_merge [] n = sym (one_times (product n))
  product_merge (i ∷ m) n =
      product_insert i (merge m n) ∙ ap (λ x. value_at ρ i *ℤ x) (product_merge m n) ∙ sym (*-assoc (value_at ρ i) (product m) (product n))

  total_add_term : (c : ℤ) (m : List ℕ) (p : Sum) → total (add_term c m p) ≡ c *ℤ product m +ℤ total p
  unfolding total
  total_add_term c m nothing = refl
  total_add_term c m (term d n p) =
      cond_is (λ q. total q ≡ c *ℤ product m +ℤ (d *ℤ product n +ℤ total p)) (same m n) (term (c +ℤ d) n p) (term d n (add_term c m p))
      (λ t. like_terms c d (product n) (total p) ∙ ap (λ x. c *ℤ product x +ℤ (d *ℤ product n +ℤ total p)) (sym (same_sound m n t)))
      (past (c *ℤ product m) (d *ℤ product n) (total (add_term c m p)) (total p) (total_add_term c m p))

  total_add : (p q : Sum) → total (add p q) ≡ total p +ℤ total q
  unfolding total
  total_add nothing q = sym (+ℤ_idl (total q))
  total_add (term c m p) q = total_add_term c m (add p q) ∙ apart (c *ℤ product m) (total (add p q)) (total p) (total q) (total_add p q)

  total_scale : (c : ℤ) (m : List ℕ) (p : Sum) → total (scale c m p) ≡ c *ℤ product m *ℤ total p
  unfolding total
  total_scale c m nothing = times_zero (c *ℤ product m)
  total_scale c m (term d n p) =
      ap₂ (λ x y. c *ℤ d *ℤ x +ℤ y) (product_merge m n) (total_scale c m p) ∙ times c d (product m) (product n) (total p)

  total_multiply : (p q : Sum) → total (multiply p q) ≡ total p *ℤ total q
  unfolding total
  total_multiply nothing q = sym (zero-*ℤ (total q))
  total_multiply (term c m p) q =
      total_add (scale c m q) (multiply p q) ∙ ap₂ (λ x y. x +ℤ y) (total_scale c m q) (total_multiply p q) ∙ sym (+-times (c *ℤ product m) (total p) (total q))

  total_neg : (p : Sum) → total (scale (negsuc 0) [] p) ≡ neg_ℤ (total p)
  unfolding product
  total_neg p = total_scale (negsuc 0) [] p ∙ minus_one_times (total p)

  normal_sound : (e : Expr) → total (normal e) ≡ value_of e ρ
  unfolding total product
  normal_sound (unknown i) = +ℤ_idr (pos 1 *ℤ (value_at ρ i *ℤ pos 1)) ∙ one_times (value_at ρ i *ℤ pos 1) ∙ times_one (value_at ρ i)
  normal_sound (constant c) = +ℤ_idr (c *ℤ pos 1) ∙ times_one c
  normal_sound (a :+ b) = total_add (normal a) (normal b) ∙ ap₂ (λ x y. x +ℤ y) (normal_sound a) (normal_sound b)
  normal_sound (a :- b) =
      total_add (normal a) (scale (negsuc 0) [] (normal b)) ∙ ap₂ (λ x y. x +ℤ y) (normal_sound a) (total_neg (normal b) ∙ ap neg_ℤ (normal_sound b))
  normal_sound (a :* b) = total_multiply (normal a) (normal b) ∙ ap₂ (λ x y. x *ℤ y) (normal_sound a) (normal_sound b)
  normal_sound (neg a) = total_neg (normal a) ∙ ap neg_ℤ (normal_sound a)

  is_zero_sound : (c x : ℤ) → T (is_zero c) → c *ℤ x ≡ pos 0
  is_zero_sound (pos zero) x t = zero-*ℤ x
  is_zero_sound (pos (suc n)) x t = absurd t
  is_zero_sound (negsuc n) x t = absurd t

  is_nothing_sound : (p : Sum) → T (is_nothing p) → total p ≡ pos 0
  unfolding total
  is_nothing_sound nothing t = refl
  is_nothing_sound (term c m p) t =
      ap₂ (λ x y. x +ℤ y) (is_zero_sound c (product m) (T_left (is_zero c) (is_nothing p) t)) (is_nothing_sound p (T_right (is_zero c) (is_nothing p) t))

  agree_sound : (e : Equation) → T (sides_agree e) → Holds e ρ
  agree_sound (a := b) t =
      equal_by_difference (value_of a ρ) (value_of b ρ) (sym (normal_sound (a :- b)) ∙ is_nothing_sound (normal (a :- b)) t)

-- ---- the entry: an equation as a function of its n unknowns

abbrev pub Over : ℕ → Type 0
Over zero = Equation
Over (suc n) = Expr → Over n

abbrev pub numbered : (n i : ℕ) → Over n → Equation
numbered zero i f = f
numbered (suc n) i f = numbered n (suc i) (f (unknown i))

abbrev pub ForAll : ℕ → (List ℤ → Type 0) → Type 0
ForAll zero P = P []
ForAll (suc n) P = (x : ℤ) → ForAll n (λ ρ. P (x ∷ ρ))

for_all : (n : ℕ) (P : List ℤ → Type 0) → ((ρ : List ℤ) → P ρ) → ForAll n P
for_all zero P f = f []
for_all (suc n) P f = λ x. for_all n (λ ρ. P (x ∷ ρ)) (λ ρ. f (x ∷ ρ))

pub solve : (n : ℕ) (f : Over n) → T (sides_agree (numbered n 0 f)) → ForAll n (Holds (numbered n 0 f))
solve n f t = for_all n (Holds (numbered n 0 f)) (λ ρ. agree_sound ρ (numbered n 0 f) t)

-- with an equation a = b at hand: x = y where x − y is a multiple of a − b, which `solve` shows
pub eq_by : (x y k a b : ℤ) → x -ℤ y ≡ k *ℤ (a -ℤ b) → a ≡ b → x ≡ y
eq_by x y k a b e h = equal_by_difference x y (e ∙ ap (λ z. k *ℤ (z -ℤ b)) h ∙ solve 2 (λ k b. k :* (b :- b) := # 0) tt k b)

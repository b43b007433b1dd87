-- What the machine reads back from the bits of an expression, at each step, is the number itself: `Exact x y` says so of x, as
-- the code has it, and y, as a definition has it, where its tests `ok` pass. `exact (search exacts depth 30) tt` closes the
-- equation of a result with its definition. Assumes nothing.
use Rattle.std.specs.Prelude.{◌≡◌, refl, Bool, true, ◌&&◌, ◌^◌, T, ltb, ℤ, pos, neg_ℤ, ◌+ℤ◌, ◌-ℤ◌, ◌*ℤ◌}
use Rattle.std.proofs.Common.{◌∙◌, ap, ap₂, to_z-of_z}
use Rattle.std.proofs.Math.IntN.{+ℤ_idl}
use Rattle.std.specs.Int.{Width, w32}
use mir.Val.{SFits, to_z, of_z, hbits}
use Rattle.ints.specs.Flags.{T_left, T_right}
use Rattle.ints.specs.Bound.{Bound, bounds, b_neg, b_add, b_mul, b_own32, fits}

pub record Exact (x y : ℤ) : Type 0 where
  pub size : Bound y
  pub ok : Bool
  pub same : T ok → x ≡ y

-- a part of which the bound is known
abbrev pub e_atom : {z : ℤ} → Bound z → Exact z z
e_atom p = record { size = p; ok = true; same = λ t. refl }

pub read_same : (w : Width) {x y : ℤ} (b : Bound y) → T (ltb b.size (2 ^ hbits w)) → x ≡ y → to_z w (of_z w x) ≡ y
read_same w b t e = ap (λ z. to_z w (of_z w z)) e ∙ to_z-of_z (fits w b t)

abbrev pub e_read : {x y : ℤ} (w : Width) → Exact x y → Exact (to_z w (of_z w x)) y
e_read w p =
    let small = ltb p.size.size (2 ^ hbits w) in
    record { size = p.size; ok = p.ok && small; same = λ t. read_same w p.size (T_right p.ok small t) (p.same (T_left p.ok small t)) }

abbrev pub e_neg : {x y : ℤ} → Exact x y → Exact (neg_ℤ x) (neg_ℤ y)
e_neg p = record { size = b_neg p.size; ok = p.ok; same = λ t. ap neg_ℤ (p.same t) }

-- `-x` is `0 - x` to the machine
abbrev pub e_minus : {x y : ℤ} → Exact x y → Exact (pos 0 -ℤ x) (neg_ℤ y)
e_minus {x} p = record { size = b_neg p.size; ok = p.ok; same = λ t. +ℤ_idl (neg_ℤ x) ∙ ap neg_ℤ (p.same t) }

abbrev pub e_add : {x y x' y' : ℤ} → Exact x x' → Exact y y' → Exact (x +ℤ y) (x' +ℤ y')
e_add p q =
    record { size = b_add p.size q.size; ok = p.ok && q.ok; same = λ t. ap₂ ◌+ℤ◌ (p.same (T_left p.ok q.ok t)) (q.same (T_right p.ok q.ok t)) }

abbrev pub e_sub : {x y x' y' : ℤ} → Exact x x' → Exact y y' → Exact (x -ℤ y) (x' -ℤ y')
e_sub p q = e_add p (e_neg q)

abbrev pub e_mul : {x y x' y' : ℤ} → Exact x x' → Exact y y' → Exact (x *ℤ y) (x' *ℤ y')
e_mul p q =
    record { size = b_mul p.size q.size; ok = p.ok && q.ok; same = λ t. ap₂ ◌*ℤ◌ (p.same (T_left p.ok q.ok t)) (q.same (T_right p.ok q.ok t)) }

pub ruleset exacts = (e_read, e_minus, e_add, e_sub, e_neg, e_mul, e_atom, bounds)

-- listed beside `exacts` where a callee ensures what its result is
abbrev pub e_eq : {x y z : ℤ} → x ≡ y → Exact y z → Exact x z
e_eq e p = record { size = p.size; ok = p.ok; same = λ t. e ∙ p.same t }

-- listed beside `exacts` or `bounds` for an i32 of which only its type is known
abbrev pub e_own32 : {z : ℤ} → SFits w32 z → Exact (to_z w32 (of_z w32 z)) z
e_own32 h = record { size = b_own32 h; ok = true; same = λ t. to_z-of_z h }

pub ruleset wide32 = (b_own32, e_own32)

pub exact : {x y : ℤ} (e : Exact x y) → T e.ok → x ≡ y
exact e t = e.same t

-- The weight from the sizes of its parts: 0 where there is nothing to weigh, else a nearest whole number. Assumes nothing.
use mathlib.Core.Path.{◌≡◌, refl, ◌∙◌, sym, ap₂}
use mathlib.Core.Bool.{true, false}
use Prim.Native.Nat.{ℕ, ◌+◌, ◌*◌, ◌<◌, ◌≤◌}
use native.Mathlib.Omega.{arith}
use lib.IntN.{ℤ, pos, negsuc, nat_abs}
use lib.Signed.{◌≤ℤ◌}
use Rattle.ints.specs.Order.{signed, of_le}
use Rattle.ints.specs.Bound.{between_abs}
use Rattle.rounding.specs.Round.{nearest_of, round}
use Rattle.rounding.proofs.RoundLaws.{round_by, round_below}
use Rattle.rounding.specs.Weight.{weight_of, weighable, weight_or0}
use Rattle.rounding.proofs.WeightLaws.{weighable_true, weight_or0_is}

pub not_secondary : (s p : ℤ) → weighable s ≡ false → weight_or0 s p ≡ pos 0
unfolding weight_or0
not_secondary s p e = simp e

pub not_primary : (s p : ℤ) → weighable s ≡ true → weighable p ≡ false → weight_or0 s p ≡ pos 0
unfolding weight_or0
not_primary s p e f = simp (e, f)

-- ---- both can be weighed, and m and n are their sizes

pub record Weighed (s p : ℤ) (m n : ℕ) : Type 0 where
  pub secondary : weighable s ≡ true
  pub primary : weighable p ≡ true
  pub part : m ≡ nat_abs s
  pub other : n ≡ nat_abs p

pub weighed_small : {s p : ℤ} {m n : ℕ} → Weighed s p m n → m + n ≤ 4000000000000000
weighed_small {s} {p} w =
    omega (arith, w.part, w.other, between_abs s (weighable_true s w.secondary), between_abs p (weighable_true p w.primary))

as_sizes : (s p : ℤ) → pos 0 ≤ℤ s → pos 0 ≤ℤ p → weight_of s p ≡ round (pos (100000 * nat_abs s)) (pos (nat_abs s + nat_abs p))
unfolding weight_of
as_sizes (pos s) (pos p) h k = refl
as_sizes (pos s) (negsuc p) h k = absurd (omega (signed, of_le k))
as_sizes (negsuc s) p h k = absurd (omega (signed, of_le h))

weight_is : {s p : ℤ} {m n : ℕ} → Weighed s p m n → weight_or0 s p ≡ round (pos (100000 * m)) (pos (m + n))
weight_is {s} {p} w =
    weight_or0_is s p w.secondary w.primary
    ∙ as_sizes s p (weighable_true s w.secondary).above (weighable_true p w.primary).above
    ∙ sym (ap₂ (λ x y. round (pos (100000 * x)) (pos (x + y))) w.part w.other)

pub weight_none : {s p : ℤ} {m n : ℕ} → Weighed s p m n → m + n ≡ 0 → weight_or0 s p ≡ pos 0
weight_none {m = m} {n = n} w e = weight_is w ∙ round_below (pos (100000 * m)) (pos (m + n)) (omega signed)

pub weight_some : {s p : ℤ} {m n : ℕ} → Weighed s p m n → 0 < m + n → weight_or0 s p ≡ pos (nearest_of (100000 * m) (m + n))
weight_some {m = m} {n = n} w l = weight_is w ∙ round_by (pos (100000 * m)) (pos (m + n)) (omega signed)

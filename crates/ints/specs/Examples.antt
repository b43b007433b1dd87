-- A checked example of each way of proving a fact about integers (src/examples.rt has those of code). Nothing cites them.
-- Assumes nothing.
use Rattle.std.specs.Prelude.{◌≡◌, true, false, ℕ, ◌*◌, ◌<◌, T, leb, ℤ, pos, ◌+ℤ◌, ◌-ℤ◌, ◌*ℤ◌, ◌≤ℤ◌, ◌<ℤ◌}
use Rattle.std.proofs.Common.{arith}
use Rattle.std.specs.Int.Signed.{le_z, lt_z}
use Rattle.ints.specs.Flags.{all_below_lem}
use Rattle.ints.specs.Difference.{differences, split}
use Rattle.ints.specs.Ring.{◌:+◌, ◌:-◌, ◌:*◌, ◌:=◌, #, solve, eq_by}
use Rattle.ints.specs.Order.{signed, sum, diff, prod}
use Rattle.ints.specs.Range.{Between, Within, in_range, in_range_true, in_range_yes}

-- ---- equations: `solve`

products : (x y z : ℤ) → pos 3 *ℤ x *ℤ (y -ℤ z) +ℤ pos 7 ≡ pos 3 *ℤ (x *ℤ y -ℤ z *ℤ x) +ℤ pos 7
products = solve 3 (λ x y z. # 3 :* x :* (y :- z) :+ # 7 := # 3 :* (x :* y :- z :* x) :+ # 7) tt

thirty_two_monomials :
    (a b c d e f g h : ℤ) →
    (a +ℤ b +ℤ c +ℤ d) *ℤ (e +ℤ f +ℤ g +ℤ h) *ℤ (a -ℤ e) ≡ (a -ℤ e) *ℤ (h +ℤ f +ℤ g +ℤ e) *ℤ (d +ℤ c +ℤ b +ℤ a)
thirty_two_monomials =
    solve 8 (λ a b c d e f g h. (a :+ b :+ c :+ d) :* (e :+ f :+ g :+ h) :* (a :- e) := (a :- e) :* (h :+ f :+ g :+ e) :* (d :+ c :+ b :+ a)) tt

twenty_unknowns :
    (x0 x1 x2 x3 x4 x5 x6 x7 x8 x9 x10 x11 x12 x13 x14 x15 x16 x17 x18 x19 : ℤ) →
    pos 2 *ℤ x0 +ℤ pos 3 *ℤ x1 +ℤ pos 4 *ℤ x2 +ℤ pos 5 *ℤ x3 +ℤ pos 6 *ℤ x4 +ℤ pos 7 *ℤ x5 +ℤ pos 8 *ℤ x6 +ℤ pos 9 *ℤ x7 +ℤ pos 10 *ℤ x8 +ℤ pos 11 *ℤ x9
    +ℤ pos 12 *ℤ x10 +ℤ pos 13 *ℤ x11 +ℤ pos 14 *ℤ x12 +ℤ pos 15 *ℤ x13 +ℤ pos 16 *ℤ x14 +ℤ pos 17 *ℤ x15 +ℤ pos 18 *ℤ x16 +ℤ pos 19 *ℤ x17 +ℤ pos 20 *ℤ x18 +ℤ pos 21 *ℤ x19
    ≡ pos 19 *ℤ x17 +ℤ pos 17 *ℤ x15 +ℤ pos 13 *ℤ x11 +ℤ pos 20 *ℤ x18 +ℤ pos 9 *ℤ x7 +ℤ pos 8 *ℤ x6 +ℤ pos 21 *ℤ x19 +ℤ pos 5 *ℤ x3 +ℤ pos 16 *ℤ x14 +ℤ pos 2 *ℤ x0
    +ℤ pos 11 *ℤ x9 +ℤ pos 7 *ℤ x5 +ℤ pos 18 *ℤ x16 +ℤ pos 10 *ℤ x8 +ℤ pos 15 *ℤ x13 +ℤ pos 4 *ℤ x2 +ℤ pos 3 *ℤ x1 +ℤ pos 14 *ℤ x12 +ℤ pos 6 *ℤ x4 +ℤ pos 12 *ℤ x10
twenty_unknowns =
    solve 20 (λ x0 x1 x2 x3 x4 x5 x6 x7 x8 x9 x10 x11 x12 x13 x14 x15 x16 x17 x18 x19.
    # 2 :* x0 :+ # 3 :* x1 :+ # 4 :* x2 :+ # 5 :* x3 :+ # 6 :* x4 :+ # 7 :* x5 :+ # 8 :* x6 :+ # 9 :* x7 :+ # 10 :* x8 :+ # 11 :* x9
    :+ # 12 :* x10 :+ # 13 :* x11 :+ # 14 :* x12 :+ # 15 :* x13 :+ # 16 :* x14 :+ # 17 :* x15 :+ # 18 :* x16 :+ # 19 :* x17 :+ # 20 :* x18 :+ # 21 :* x19
    := # 19 :* x17 :+ # 17 :* x15 :+ # 13 :* x11 :+ # 20 :* x18 :+ # 9 :* x7 :+ # 8 :* x6 :+ # 21 :* x19 :+ # 5 :* x3 :+ # 16 :* x14 :+ # 2 :* x0
    :+ # 11 :* x9 :+ # 7 :* x5 :+ # 18 :* x16 :+ # 10 :* x8 :+ # 15 :* x13 :+ # 4 :* x2 :+ # 3 :* x1 :+ # 14 :* x12 :+ # 6 :* x4 :+ # 12 :* x10) tt

-- with an equation at hand: the difference of the sides is a multiple of the difference of its sides
from_an_equation : (a b c d : ℤ) → a ≡ b +ℤ c → a *ℤ d -ℤ c *ℤ d ≡ b *ℤ d
from_an_equation a b c d h =
    eq_by (a *ℤ d -ℤ c *ℤ d) (b *ℤ d) d a (b +ℤ c) (solve 4 (λ a b c d. a :* d :- c :* d :- b :* d := d :* (a :- (b :+ c))) tt a b c d) h

-- ---- orders: `omega signed`, each operation listed once

within_a_sum : (x y k : ℤ) → Within 50000 x → y ≡ x +ℤ k → Within 10 k → Within 50010 y
within_a_sum x y k h e w = omega (signed, sum x k)

from_a_difference : (a b c : ℤ) → Within 7 (a -ℤ b) → b ≤ℤ c → a ≤ℤ (c +ℤ pos 7)
from_a_difference a b c h k = omega (signed, diff a b, sum c (pos 7))

by_a_numeral : (x y : ℤ) → Within 50 (pos 100 *ℤ x -ℤ y) → Between (pos 0) (pos 1000) y → Within 10 x
by_a_numeral x y h k = omega (signed, diff (pos 100 *ℤ x) y, prod (pos 100) x)

-- ---- orders: by differences, each variable listed once and the hypotheses before arrows

by_differences : (x y k : ℤ) → x ≤ℤ pos 50000 → y ≡ x +ℤ pos 100000 *ℤ k → k ≤ℤ pos 10 → y ≤ℤ pos 1050000
by_differences x y k = rw (split x, split y, split k) (simp differences (omega arith))

-- ---- tests: an outcome is an order, and an order an outcome

outcome_to_order : (x y : ℤ) → le_z x y ≡ false → y <ℤ x
outcome_to_order x y e = omega signed

order_to_outcome : (x : ℤ) → x ≤ℤ pos 5 → lt_z x (pos 6) ≡ true
order_to_outcome x h = omega signed

-- ---- ranges: the test and what it shows

narrower_range : (x : ℤ) → in_range (pos 1) (pos 9) x ≡ true → in_range (pos 0) (pos 10) x ≡ true
narrower_range x e = let h = in_range_true (pos 1) (pos 9) x e in in_range_yes (pos 0) (pos 10) x (omega signed)

-- ---- tables

-- a fact of every number below a numeral, by a test that computes
below_its_double : (k : ℕ) → k < 12 → T (leb k (2 * k))
below_its_double k h = all_below_lem 12 (λ (n : ℕ). leb n (2 * n)) tt k h

-- Ranges: `in_range low high z` is the test low ≤ z ≤ high, and `Between low high z` what it shows. `Within n z` is the range ±n.
-- `omega signed` reads and proves both. Assumes nothing.
use Rattle.std.specs.Prelude.{◌≡◌, Bool, true, ◌&&◌, ℕ, ℤ, pos, neg_ℤ, ◌≤ℤ◌}
use Rattle.std.proofs.Common.{sym, subst}
use Rattle.std.specs.Int.Signed.{le_z}
use Rattle.ints.specs.Flags.{both}
use Rattle.ints.specs.Order.{signed, le_z_true}

unfoldable pub in_range : ℤ → ℤ → ℤ → Bool
in_range low high z = le_z low z && le_z z high

pub record Between (low high z : ℤ) : Type 0 where
  pub above : low ≤ℤ z
  pub below : z ≤ℤ high

-- ±n, with a numeral n (for any other, list `minus (pos n)` in `omega`)
abbrev pub Within : ℕ → ℤ → Type 0
Within n z = Between (neg_ℤ (pos n)) (pos n) z

pub in_range_true : (low high z : ℤ) → in_range low high z ≡ true → Between low high z
unfolding in_range
in_range_true low high z e =
    let p = both (le_z low z) (le_z z high) e in
    record { above = le_z_true low z p.0; below = le_z_true z high p.1 }

pub in_range_yes : (low high z : ℤ) → Between low high z → in_range low high z ≡ true
unfolding in_range
in_range_yes low high z h =
    let p : le_z low z ≡ true = omega signed in
    let q : le_z z high ≡ true = omega signed in
    simp (p, q)

-- the range of a number that is known to be another
pub between_same : {low high x y : ℤ} → x ≡ y → Between low high y → Between low high x
between_same {low} {high} e h = subst (λ (z : ℤ). Between low high z) (sym e) h

-- What the laws of the nearest whole number speak of (proofs/NearestLaws.antt).
use Rattle.std.specs.Prelude.{ℕ, ◌+◌, ◌*◌, ◌≤◌}

-- q is a whole number nearest to n / b: 2 |n − b × q| ≤ b
pub record Near (n b q : ℕ) : Type 0 where
  pub above : 2 * n ≤ 2 * (b * q) + b
  pub below : 2 * (b * q) ≤ 2 * n + b

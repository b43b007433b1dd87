-- In how many places two lists of numbers differ. Assumes nothing.
use Rattle.std.specs.Prelude.{cond, List, [], ◌∷◌, ℕ, ◌+◌, ℤ}
use Rattle.ints.specs.Machine.{eq_z}

-- one for each place at which they differ
abbrev pub differing : List ℤ → List ℤ → ℕ
differing [] ys = 0
differing (x ∷ xs) [] = 0
differing (x ∷ xs) (y ∷ ys) = cond (eq_z x y) 0 1 + differing xs ys

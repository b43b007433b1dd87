-- Numbers as digits in a base, the highest first: the characters of a number in decimal are such digits, and so are the bytes of a
-- record's field. Their laws stand in proofs/DigitLaws.antt.
use Rattle.std.specs.Prelude.{List, [], ◌∷◌, ◌++◌, ℕ, zero, suc, ◌+◌, ◌*◌, ◌/◌, ◌%◌, ◌^◌, ◌<◌, length}

-- the last `count` digits of n
unfoldable pub digits : ℕ → ℕ → ℕ → List ℕ
digits base zero n = []
digits base (suc count) n = digits base count (n / base) ++ (n % base ∷ [])

-- the number that digits make, each times the value of its place
unfoldable pub value : ℕ → List ℕ → ℕ
value base [] = 0
value base (d ∷ ds) = d * base ^ length ds + value base ds

-- every one is below the base
abbrev pub Digits : ℕ → List ℕ → Type 0
Digits base [] = Unit
Digits base (d ∷ ds) = (d < base) × Digits base ds

-- Laws of bit maps: a map and its bits determine each other, its ones are counted, and a bit that a kind lacks makes it too large.
-- Assumes nothing.
use mathlib.Core.Path.{◌≡◌, refl, sym, ap, ◌∙◌}
use mathlib.Core.Bool.{Bool, true, false, cond}
use mathlib.Core.List.{List, [], ◌∷◌}
use Prim.Native.Nat.{ℕ, zero, suc, ◌+◌, ◌*◌, ◌/◌, ◌%◌, ◌^◌, ◌<◌, ◌≤◌}
use native.Mathlib.Omega.{arith}
use native.Mathlib.Nat.{pow-suc, one-le-pow}
use lib.Count.{ones, ones_step}
use lib.Dec.{eqb, leb, leb→le}
use lib.ListN.{length, drop}
use borrow.Author.Tests.{le-leb, lt-leb, leb-true, leb-false}
use Rattle.ints.specs.Flags.{T_false}
use Rattle.postings.specs.Kinds.{any_stands}
use Rattle.postings.specs.BitMaps.{bits_from, bit_map_of}

-- how many stand
abbrev pub count : List Bool → ℕ
count [] = 0
count (bit ∷ bits) = cond bit 1 0 + count bits

digit : (m : ℕ) → m < 2 → cond (eqb m 1) 1 0 ≡ m
digit zero h = refl
digit (suc zero) h = refl
digit (suc (suc m)) h = absurd (omega arith)

-- ---- a map and its bits

pub map_of_bits : (k n : ℕ) → n < 2 ^ k → bit_map_of (bits_from k n) ≡ n
unfolding bit_map_of bits_from
map_of_bits zero n h = omega arith
map_of_bits (suc k) n h =
    let l : n / 2 < 2 ^ k = omega (arith, pow-suc 2 k) in
    omega (arith, digit (n % 2) (omega arith), map_of_bits k (n / 2) l)

pub bits_of_map : (bits : List Bool) → bits_from (length bits) (bit_map_of bits) ≡ bits
unfolding bit_map_of bits_from
bits_of_map [] = refl
bits_of_map (true ∷ bits) =
    let low : (1 + 2 * bit_map_of bits) % 2 ≡ 1 = omega arith in
    let rest : (1 + 2 * bit_map_of bits) / 2 ≡ bit_map_of bits = omega arith in
    (λ i. eqb (low i) 1 ∷ (ap (bits_from (length bits)) rest ∙ bits_of_map bits) i)
bits_of_map (false ∷ bits) =
    let low : (0 + 2 * bit_map_of bits) % 2 ≡ 0 = omega arith in
    let rest : (0 + 2 * bit_map_of bits) / 2 ≡ bit_map_of bits = omega arith in
    (λ i. eqb (low i) 1 ∷ (ap (bits_from (length bits)) rest ∙ bits_of_map bits) i)

pub map_small : (bits : List Bool) → bit_map_of bits < 2 ^ length bits
unfolding bit_map_of
map_small [] = omega arith
map_small (true ∷ bits) = omega (arith, map_small bits, pow-suc 2 (length bits))
map_small (false ∷ bits) = omega (arith, map_small bits, pow-suc 2 (length bits))

-- ---- the ones

pub ones_of_map : (bits : List Bool) → ones (bit_map_of bits) ≡ count bits
unfolding bit_map_of ones
ones_of_map [] = refl
ones_of_map (true ∷ bits) =
    let rest : (1 + 2 * bit_map_of bits) / 2 ≡ bit_map_of bits = omega arith in
    ones_step (1 + 2 * bit_map_of bits) ∙ omega (arith, ap ones rest, ones_of_map bits)
ones_of_map (false ∷ bits) =
    let rest : (0 + 2 * bit_map_of bits) / 2 ≡ bit_map_of bits = omega arith in
    ones_step (0 + 2 * bit_map_of bits) ∙ omega (arith, ap ones rest, ones_of_map bits)

pub ones_of_bits : (k n : ℕ) → n < 2 ^ k → ones n ≡ count (bits_from k n)
ones_of_bits k n h = ap ones (sym (map_of_bits k n h)) ∙ ones_of_map (bits_from k n)

-- ---- bits that a kind lacks

-- two tests that hold of the same numbers are one
leb_same : (a b c d : ℕ) → (a ≤ b → c ≤ d) → (c ≤ d → a ≤ b) → leb a b ≡ leb c d
leb_same a b c d f g = go (leb a b) refl
  where
    go : (t : Bool) → leb a b ≡ t → leb a b ≡ leb c d
    go true e = e ∙ sym (le-leb c d (f (leb-true a b e)))
    go false e = e ∙ sym (T_false (leb c d) (λ t. let h = g (leb→le c d t) in let k = leb-false a b e in omega arith))

any_stands_lem : (bits : List Bool) → any_stands bits ≡ leb 1 (bit_map_of bits)
unfolding bit_map_of
any_stands_lem [] = refl
any_stands_lem (true ∷ bits) = sym (le-leb 1 (1 + 2 * bit_map_of bits) (omega arith))
any_stands_lem (false ∷ bits) = any_stands_lem bits ∙ leb_same 1 (bit_map_of bits) 1 (0 + 2 * bit_map_of bits) (λ h. omega arith) (λ h. omega arith)

pub beyond : (c : ℕ) (bits : List Bool) → any_stands (drop c bits) ≡ leb (2 ^ c) (bit_map_of bits)
unfolding bit_map_of
beyond zero bits = any_stands_lem bits
beyond (suc c) [] = sym (lt-leb (2 ^ suc c) 0 (one-le-pow (suc c) 2 (omega arith)))
beyond (suc c) (bit ∷ bits) = beyond c bits ∙ go bit
  where
    go : (t : Bool) → leb (2 ^ c) (bit_map_of bits) ≡ leb (2 ^ suc c) (cond t 1 0 + 2 * bit_map_of bits)
    go true = leb_same (2 ^ c) (bit_map_of bits) (2 ^ suc c) (1 + 2 * bit_map_of bits) (λ h. omega (arith, pow-suc 2 c)) (λ h. omega (arith, pow-suc 2 c))
    go false = leb_same (2 ^ c) (bit_map_of bits) (2 ^ suc c) (0 + 2 * bit_map_of bits) (λ h. omega (arith, pow-suc 2 c)) (λ h. omega (arith, pow-suc 2 c))

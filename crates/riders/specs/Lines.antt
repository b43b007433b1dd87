-- A bill's line over the factors of its runs, and each run's part of it (01, Electric book and Steam book, Bill): one definition for any
-- number of runs. Law: the parts make the line. Assumes nothing.
use Rattle.std.specs.Prelude.{◌≡◌, refl, List, [], ◌∷◌, ℕ, zero, suc, ℤ, pos, ◌+ℤ◌, ◌-ℤ◌, ◌*ℤ◌, length, take}
use Rattle.std.proofs.Common.{ap, ◌∙◌}
use Rattle.ints.specs.Order.{signed}
use Rattle.ints.specs.Ring.{solve, ◌:+◌, ◌:-◌, ◌:*◌, ◌:=◌, #}
use Rattle.rounding.specs.Round.{round}
use Rattle.rounding.proofs.RoundLaws.{round_exact}
use Rattle.amounts.specs.declared.Points.{Points}

-- factors together
abbrev pub together : List Points → ℤ
together [] = pos 0
together (f ∷ factors) = f.0 +ℤ together factors

-- the line of u: round(u × (f1 + f2 + ..) / 100)
unfoldable pub line_of : ℤ → List Points → ℤ
line_of u factors = round (u *ℤ together factors) (pos 100)

-- the part of the run with i runs before it: the line of the factors up to it less that of those before it
unfoldable pub part_of : ℤ → List Points → ℕ → ℤ
part_of u factors i = line_of u (take (suc i) factors) -ℤ line_of u (take i factors)

-- ---- the parts make the line

-- f 0 + f 1 + .., n of them
abbrev pub sum_of : ℕ → (ℕ → ℤ) → ℤ
sum_of zero f = pos 0
sum_of (suc n) f = sum_of n f +ℤ f n

-- the first apart from the others
pub sum_first : (f : ℕ → ℤ) (n : ℕ) → sum_of (suc n) f ≡ f 0 +ℤ sum_of n (λ (i : ℕ). f (suc i))
sum_first f zero = solve 1 (λ x. # 0 :+ x := x :+ # 0) tt (f 0)
sum_first f (suc n) =
    ap (λ (z : ℤ). z +ℤ f (suc n)) (sum_first f n)
    ∙ solve 3 (λ first others last. first :+ others :+ last := first :+ (others :+ last)) tt (f 0) (sum_of n (λ (i : ℕ). f (suc i))) (f (suc n))

-- differences from one to the next add up to that of the last from the first
telescopes : (f : ℕ → ℤ) (n : ℕ) → sum_of n (λ (i : ℕ). f (suc i) -ℤ f i) ≡ f n -ℤ f 0
telescopes f zero = solve 1 (λ x. # 0 := x :- x) tt (f 0)
telescopes f (suc n) =
    ap (λ (z : ℤ). z +ℤ (f (suc n) -ℤ f n)) (telescopes f n)
    ∙ solve 3 (λ first last next. last :- first :+ (next :- last) := next :- first) tt (f 0) (f n) (f (suc n))

take_all : {A : Type 0} (xs : List A) → take (length xs) xs ≡ xs
take_all [] = refl
take_all {A} (x ∷ xs) = ap {B = List A} (λ (r : List A). x ∷ r) (take_all xs)

-- without a factor there is no line
pub no_line : (u : ℤ) → line_of u [] ≡ pos 0
unfolding line_of
no_line u = ap (λ (z : ℤ). round z (pos 100)) (solve 1 (λ u. u :* # 0 := # 100 :* # 0) tt u) ∙ round_exact (pos 0) (pos 100) (omega signed)

pub parts_make_line : (u : ℤ) (factors : List Points) → sum_of (length factors) (part_of u factors) ≡ line_of u factors
unfolding part_of
parts_make_line u factors =
    telescopes (λ (i : ℕ). line_of u (take i factors)) (length factors)
    ∙ (λ i. line_of u (take_all factors i) -ℤ no_line u i)
    ∙ solve 1 (λ x. x :- # 0 := x) tt (line_of u factors)

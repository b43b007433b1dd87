-- What `==` tells of a field, and of an array's fields place by place, as differing lists of numbers. Assumes nothing.
use Rattle.std.specs.Prelude.{◌≡◌, refl, Bool, cond, not, List, [], ◌∷◌, ℤ, length, map, count_by}
use Rattle.std.proofs.Common.{arith, ◌∙◌}
use Rattle.std.proofs.lemmas.Grind.{common_steps}
use Rattle.std.specs.Ordering.{int_eq}
use Rattle.std.specs.Bool.{beq}
use Rattle.std.specs.List.{zip}
use Rattle.ints.specs.Machine.{eq_z}
use Rattle.steam_rules.specs.Fours.{as_four}
use Rattle.comparisons.specs.Differing.{differing}
use Rattle.comparisons.specs.Fields.{flag_number, four_of}

equal_numbers : (x y : ℤ) → int_eq x y ≡ eq_z x y
equal_numbers x y = grind (arith, common_steps)

pub one_number : (x y : ℤ) → differing (x ∷ []) (y ∷ []) ≡ cond (int_eq x y) 0 1
one_number x y = let e = equal_numbers x y in grind (arith, common_steps)

pub one_flag : (x y : Bool) → differing (flag_number x ∷ []) (flag_number y ∷ []) ≡ cond (beq x y) 0 1
one_flag x y = grind (arith, common_steps)

places : {A : Type 0} (number : A → ℤ) (xs ys : List A) → length xs ≡ length ys
    → count_by (λ (pair : A × A). not (int_eq (number pair.0) (number pair.1))) (zip xs ys) ≡ differing (map number xs) (map number ys)
places number [] ys h = refl
places number (x ∷ xs) [] h = absurd (omega arith)
places number (x ∷ xs) (y ∷ ys) h =
    let rest = places number xs ys (omega arith) in
    let first = equal_numbers (number x) (number y) in
    grind (arith, common_steps)

pub four_places : {A : Type 0} (number : A → ℤ) (none : A) (xs ys : List A) → length xs ≡ 4 → length ys ≡ 4
    → count_by (λ (pair : A × A). not (int_eq (number pair.0) (number pair.1))) (zip xs ys) ≡ differing (four_of number none xs) (four_of number none ys)
four_places number none xs ys h k =
    places number xs ys (omega arith) ∙ (λ i. differing (map number (as_four none xs h i)) (map number (as_four none ys k i)))

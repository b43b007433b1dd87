-- Laws of `sets l i xs`: the list l after the elements of xs were stored one after the other from place i on. Code that writes into
-- a lent buffer ensures what it stored as one `sets`. Assumes nothing.
use Rattle.std.specs.Prelude.{◌≡◌, List, [], ◌∷◌, ◌++◌, ℕ, suc, ◌+◌, ◌≤◌, length, set, drop}
use Rattle.std.proofs.Common.{ap, ◌∙◌, arith}
use Rattle.std.proofs.lemmas.List.Edits.{sets, sets-eq}
use Rattle.std.proofs.lemmas.List.{set_comm}

module _ {A : Type 0} where
  -- two runs, one behind the other
  pub sets_append : (l : List A) (i : ℕ) (xs ys : List A) → sets l i (xs ++ ys) ≡ sets (sets l i xs) (i + length xs) ys
  sets_append l i [] ys =
      let e : i ≡ i + 0 = omega arith in
      ap (λ (k : ℕ). sets l k ys) e
  sets_append l i (x ∷ xs) ys =
      let e : suc i + length xs ≡ i + suc (length xs) = omega arith in
      sets_append (set l i x) (suc i) xs ys ∙ ap (λ (k : ℕ). sets (sets (set l i x) (suc i) xs) k ys) e

  -- the last element may be stored first
  pub sets_last : (l : List A) (i : ℕ) (xs : List A) (a : A) → sets l i (xs ++ (a ∷ [])) ≡ sets (set l (i + length xs) a) i xs
  sets_last l i [] a =
      let e : i ≡ i + 0 = omega arith in
      ap (λ (k : ℕ). set l k a) e
  sets_last l i (x ∷ xs) a =
      let e : suc i + length xs ≡ i + suc (length xs) = omega arith in
      sets_last (set l i x) (suc i) xs a
      ∙ ap (λ (k : ℕ). sets (set (set l i x) k a) (suc i) xs) e
      ∙ ap (λ (m : List A). sets m (suc i) xs) (set_comm l i (i + suc (length xs)) x a (λ q. omega arith))

  -- a run from the front is those elements, with what stands past them as it was
  pub sets_front : (l xs : List A) → length xs ≤ length l → sets l 0 xs ≡ xs ++ drop (length xs) l
  sets_front l xs h =
      let e : 0 + length xs ≡ length xs = omega arith in
      sets-eq xs l 0 (omega arith) ∙ ap (λ (k : ℕ). xs ++ drop k l) e

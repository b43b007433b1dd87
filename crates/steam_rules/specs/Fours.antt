-- Arrays of four: a test of each element, what it tells of each, and an element stored. Assumes nothing.
use Rattle.std.specs.Prelude.{◌≡◌, refl, Bool, true, ◌&&◌, List, [], ◌∷◌, ℕ, zero, suc, ◌<◌, eqb, length, get_or}
use Rattle.std.proofs.Common.{sym, ap, ◌∙◌, subst, arith, eqb-true}
use Rattle.std.specs.List.{list_all}
use Rattle.std.proofs.Math.Bool.{and-true}
use Rattle.std.proofs.Math.ListN.{set, length-set}
use Rattle.std.proofs.Props.{props}
use Rattle.ints.specs.Flags.{both}
use Rattle.steam_rules.specs.Limits.{all_four}

module _ {A : Type 0} where
  -- the elements of an array of four
  pub as_four : (d : A) (xs : List A) → length xs ≡ 4 → xs ≡ get_or xs 0 d ∷ get_or xs 1 d ∷ get_or xs 2 d ∷ get_or xs 3 d ∷ []
  as_four d [] e = absurd (omega arith)
  as_four d (x ∷ []) e = absurd (omega arith)
  as_four d (x ∷ y ∷ []) e = absurd (omega arith)
  as_four d (x ∷ y ∷ z ∷ []) e = absurd (omega arith)
  as_four d (x ∷ y ∷ z ∷ w ∷ []) e = refl
  as_four d (x ∷ y ∷ z ∷ w ∷ v ∷ xs) e = absurd (omega arith)

  pub tested_four :
      (test : A → Bool) (d : A) (xs : List A) → length xs ≡ 4 →
      test (get_or xs 0 d) && (test (get_or xs 1 d) && (test (get_or xs 2 d) && test (get_or xs 3 d))) ≡ all_four test xs
  tested_four test d xs e =
      ap (λ (t : Bool). test (get_or xs 0 d) && (test (get_or xs 1 d) && (test (get_or xs 2 d) && t))) (sym (and-true (test (get_or xs 3 d))))
      ∙ ap (all_four test) (sym (as_four d xs e))

  -- what is so of each element
  abbrev Each : (A → Type 0) → List A → Type 0
  Each P [] = Unit
  Each P (x ∷ xs) = P x × Each P xs

  pub record Four (P : A → Type 0) (xs : List A) : Type 0 where
    pub count : length xs ≡ 4
    pub each : Each P xs

  -- a fact with at most one proof is so of the four with at most one
  each_prop : (P : A → Type 0) → ((x : A) → IsProp (P x)) → (xs : List A) → IsProp (Each P xs)
  each_prop P prop [] = hlevel
  each_prop P prop (x ∷ xs) =
      let one = prop x in
      let rest = each_prop P prop xs in
      hlevel (one, rest)

  pub four_prop : (P : A → Type 0) → ((x : A) → IsProp (P x)) → (xs : List A) → IsProp (Four P xs)
  four_prop P prop xs =
      let each = each_prop P prop xs in
      hlevel (props, each)

  each_at : (P : A → Type 0) (d : A) (xs : List A) → Each P xs → (i : ℕ) → i < length xs → P (get_or xs i d)
  each_at P d [] es i h = absurd (omega arith)
  each_at P d (x ∷ xs) es zero h = es.0
  each_at P d (x ∷ xs) es (suc i) h = each_at P d xs es.1 i (omega arith)

  pub at : {P : A → Type 0} (d : A) {xs : List A} → Four P xs → (i : ℕ) → i < 4 → P (get_or xs i d)
  at {P} d {xs} fs i h = each_at P d xs fs.each i (let e = fs.count in omega arith)

  -- of all four, one by one
  pub one_by_one : {P : A → Type 0} (d : A) {xs : List A} → Four P xs → P (get_or xs 0 d) × P (get_or xs 1 d) × P (get_or xs 2 d) × P (get_or xs 3 d)
  one_by_one d fs = (at d fs 0 (omega arith), at d fs 1 (omega arith), at d fs 2 (omega arith), at d fs 3 (omega arith))

  pub four_of : {P : A → Type 0} (d : A) (xs : List A) → length xs ≡ 4 → P (get_or xs 0 d) × P (get_or xs 1 d) × P (get_or xs 2 d) × P (get_or xs 3 d) → Four P xs
  four_of {P} d xs e h = record { count = e; each = subst (Each P) (sym (as_four d xs e)) (h.0, (h.1, (h.2, (h.3, tt)))) }

  each_tested : (test : A → Bool) (P : A → Type 0) → ((x : A) → test x ≡ true → P x) → (xs : List A) → list_all test xs ≡ true → Each P xs
  each_tested test P tells [] e = tt
  each_tested test P tells (x ∷ xs) e =
      let h = both (test x) (list_all test xs) e in
      (tells x h.0, each_tested test P tells xs h.1)

  pub four_tested : (test : A → Bool) (P : A → Type 0) → ((x : A) → test x ≡ true → P x) → (xs : List A) → all_four test xs ≡ true → Four P xs
  four_tested test P tells xs e =
      let h = both (eqb (length xs) 4) (list_all test xs) e in
      record { count = eqb-true (length xs) 4 h.0; each = each_tested test P tells xs h.1 }

  each_yes : (test : A → Bool) (P : A → Type 0) → ((x : A) → P x → test x ≡ true) → (xs : List A) → Each P xs → list_all test xs ≡ true
  each_yes test P tests [] es = refl
  each_yes test P tests (x ∷ xs) es = simp (tests x es.0, each_yes test P tests xs es.1)

  pub four_yes : (test : A → Bool) (P : A → Type 0) → ((x : A) → P x → test x ≡ true) → (xs : List A) → Four P xs → all_four test xs ≡ true
  four_yes test P tests xs fs = simp (fs.count, each_yes test P tests xs fs.each)

-- what is stored passes the test, so the array does
module _ {A : Type 0} (test : A → Bool) where
  set_all : (xs : List A) (i : ℕ) (x : A) → list_all test xs ≡ true → test x ≡ true → list_all test (set xs i x) ≡ true
  set_all [] i x e h = refl
  set_all (y ∷ ys) zero x e h = simp (h, (both (test y) (list_all test ys) e).1)
  set_all (y ∷ ys) (suc i) x e h =
      let p = both (test y) (list_all test ys) e in
      simp (p.0, set_all ys i x p.1 h)

  pub set_four : (xs : List A) (i : ℕ) (x : A) → all_four test xs ≡ true → test x ≡ true → all_four test (set xs i x) ≡ true
  set_four xs i x e h =
      let p = both (eqb (length xs) 4) (list_all test xs) e in
      simp (length-set xs i x, p.0, set_all xs i x p.1 h)

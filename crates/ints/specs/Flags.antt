-- What the outcome of a test tells: a Bool that is true or false, as the fact `T` and back, the parts of a conjunction, and a test of
-- every number below a bound.
-- Assumes nothing.
use Rattle.std.specs.Prelude.{◌≡◌, refl, Bool, true, false, not, ◌&&◌, ℕ, zero, suc, ◌<◌, T, eqb}
use Rattle.std.proofs.Common.{sym, subst, arith, eqb-true}
use Rattle.std.proofs.lemmas.Bool.{eqb-false}

pub T_true : (t : Bool) → T t → t ≡ true
T_true true h = refl
T_true false h = absurd h

pub T_false : (t : Bool) → (T t → ⊥) → t ≡ false
T_false true h = absurd (h tt)
T_false false h = refl

pub true_T : {t : Bool} → t ≡ true → T t
true_T e = subst T (sym e) tt

pub false_T : {t : Bool} → t ≡ false → T (not t)
false_T e = subst (λ (t : Bool). T (not t)) (sym e) tt

pub T_left : (s t : Bool) → T (s && t) → T s
T_left true t h = tt
T_left false t h = h

pub T_right : (s t : Bool) → T (s && t) → T t
T_right true t h = h
T_right false t h = absurd h

pub both : (s t : Bool) → s && t ≡ true → (s ≡ true) × (t ≡ true)
both s t e = (T_true s (T_left s t (true_T e)), T_true t (T_right s t (true_T e)))

-- the test f holds of every number below n: it computes, so a fact of every entry of a table is `all_below_lem n f tt`
abbrev pub all_below : ℕ → (ℕ → Bool) → Bool
all_below zero f = true
all_below (suc n) f = f n && all_below n f

pub all_below_lem : (n : ℕ) (f : ℕ → Bool) → T (all_below n f) → (k : ℕ) → k < n → T (f k)
all_below_lem zero f h k l = absurd (omega arith)
all_below_lem (suc n) f h k l = go (eqb k n) refl (all_below_lem n f (T_right (f n) (all_below n f) h) k)
  where
    go : (t : Bool) → eqb k n ≡ t → (k < n → T (f k)) → T (f k)
    go true e more = subst (λ (m : ℕ). T (f m)) (sym (eqb-true k n e)) (T_left (f n) (all_below n f) h)
    go false e more =
        let d = eqb-false k n e in
        let l : k < n = omega arith in
        more l

-- no conjunction with what fails
pub and_false : (t : Bool) → t && false ≡ false
and_false true = refl
and_false false = refl

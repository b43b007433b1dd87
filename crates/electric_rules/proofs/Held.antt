-- What each kind of posting makes of the cents that a level holds: a bill takes its line away, in the parts that the runs lose; an
-- adjustment, a share and interest are added; a handover moves cents within the level. Assumes nothing.
use mathlib.Core.Path.{◌≡◌, refl, ap, ◌∙◌}
use Rattle.std.specs.Prelude.{cond, Option, Some, None, is_some}
use mathlib.Core.List.{List, ◌∷◌}
use Prim.Native.Nat.{ℕ, suc}
use lib.Dec.{T}
use lib.IntN.{ℤ, pos, neg_ℤ, ◌+ℤ◌, ◌-ℤ◌}
use Rattle.ints.specs.Ring.{Over, ForAll, Holds, numbered, sides_agree, solve, eq_by, ◌:+◌, ◌:-◌, ◌:*◌, ◌:=◌, #, neg}
use Rattle.riders.specs.Lines.{part_of, parts_make_line}
use Rattle.riders.specs.Runs.{no_run}
use Rattle.electric_rules.specs.declared.EnteringRun.{EnteringRun}
use Rattle.electric_rules.specs.declared.EnteringRun.TheVariants.{First, Second}
use Rattle.electric_rules.specs.declared.Level.{Level}
use Rattle.electric_rules.specs.Levels.{held_by, factors_of, level_line, billed_level, adjusted_level, owed_by, settled_level, bearing_of, accrued_level, handed_over}

abbrev five_and : ℕ → ℕ
five_and n = suc (suc (suc (suc (suc n))))

module _ (l : Level) where
  -- `solve` over the level's cents C, I, Q, d1, d2, and n unknowns more
  solve_cents :
      (n : ℕ) (f : Over (five_and n)) → T (sides_agree (numbered (five_and n) 0 f)) →
      ForAll n (λ (more : List ℤ). Holds (numbered (five_and n) 0 f) (l.carried.0 ∷ l.interest.0 ∷ l.pending.due.0 ∷ l.first.due.0 ∷ l.second.due.0 ∷ more))
  solve_cents n f t = solve (five_and n) f t l.carried.0 l.interest.0 l.pending.due.0 l.first.due.0 l.second.due.0

  pub held_billed : (u : ℤ) → held_by (billed_level u l) ≡ held_by l -ℤ level_line u l
  unfolding held_by level_line
  held_billed u =
      solve_cents 2 (λ c i q d1 d2 x y. c :+ i :+ q :+ (d1 :- x) :+ (d2 :- y) := c :+ i :+ q :+ d1 :+ d2 :- (# 0 :+ x :+ y)) tt
      (part_of u (factors_of l) 0) (part_of u (factors_of l) 1)
      ∙ ap (λ (line : ℤ). held_by l -ℤ line) (parts_make_line u (factors_of l))

  pub held_adjusted : (amount : ℤ) → held_by (adjusted_level amount l) ≡ held_by l +ℤ amount
  unfolding held_by
  held_adjusted = solve_cents 1 (λ c i q d1 d2 x. c :+ x :+ i :+ q :+ d1 :+ d2 := c :+ i :+ q :+ d1 :+ d2 :+ x) tt

  -- what is owed takes the place of what was pending, so nothing may be
  pub held_settled : (share estimate : ℤ) → l.pending.due.0 ≡ pos 0 → held_by (settled_level share estimate l) ≡ held_by l +ℤ share
  unfolding held_by owed_by
  held_settled share estimate =
      eq_by _ _ (neg_ℤ (pos 1)) _ _
      (solve_cents 1 (λ c i q d1 d2 x. # 0 :+ # 0 :+ (x :+ c :+ i) :+ d1 :+ d2 :- (c :+ i :+ q :+ d1 :+ d2 :+ x) := neg (# 1) :* (q :- # 0)) tt share)

  pub held_accrued : (interest : ℤ) → held_by (accrued_level interest l) ≡ held_by l +ℤ interest
  unfolding held_by
  held_accrued = solve_cents 1 (λ c i q d1 d2 x. c :+ (i :+ x) :+ q :+ d1 :+ d2 := c :+ i :+ q :+ d1 :+ d2 :+ x) tt

  -- all that is held but accrued interest bears interest, and so does the provisional share
  pub bearing_held : (provisional : ℤ) → bearing_of provisional l ≡ held_by l -ℤ l.interest.0 +ℤ provisional
  unfolding held_by bearing_of
  bearing_held = solve_cents 1 (λ c i q d1 d2 x. c :+ q :+ d1 :+ d2 :+ x := c :+ i :+ q :+ d1 :+ d2 :- i :+ x) tt

  -- and nothing is pending where a run enters
  pub record HandedOver (entering : Option EnteringRun) : Type 0 where
    pub held : held_by (handed_over entering l) ≡ held_by l
    pub interest : (handed_over entering l).interest ≡ l.interest
    pub pending : (handed_over entering l).pending ≡ cond (is_some entering) no_run l.pending

  pub handed_over_lem : (entering : Option EnteringRun) → HandedOver entering
  unfolding held_by
  handed_over_lem None = record { held = refl; interest = refl; pending = refl }
  handed_over_lem (Some First) =
      record {
        held = solve_cents 0 (λ c i q d1 d2. c :+ d1 :+ i :+ # 0 :+ q :+ d2 := c :+ i :+ q :+ d1 :+ d2) tt;
        interest = refl;
        pending = refl;
      }
  handed_over_lem (Some Second) =
      record {
        held = solve_cents 0 (λ c i q d1 d2. c :+ d2 :+ i :+ # 0 :+ d1 :+ q := c :+ i :+ q :+ d1 :+ d2) tt;
        interest = refl;
        pending = refl;
      }

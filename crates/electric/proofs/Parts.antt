-- A level is the same where the amounts are that a step makes anew, and the level that a posting names is the one that the rules name. Assumes
-- nothing.
use Rattle.std.specs.Prelude.{◌≡◌, refl, Bool, true, false, cond, ℤ, pos, Result}
use Rattle.std.proofs.Common.{ap, sym, subst, ◌∙◌}
use mir.Syntax.{w64}
use mir.Val.{SFits, to_z, of_z}
use mir.Facts.{to_z-of_z}
use Rattle.ints.specs.Bound.{b_between, fits64}
use Rattle.ints.specs.Range.{Between}
use Rattle.refusals.specs.declared.Refusal.{Refusal}
use Rattle.postings.specs.declared.Answer.{Answer}
use Rattle.riders.specs.Posts.{TakenWithin}
use Rattle.electric_rules.specs.declared.Level.{Level}
use Rattle.electric_rules.specs.declared.ElectricBook.{ElectricBook}
use Rattle.electric_rules.specs.Book.{level_of}
use Rattle.electric_rules.proofs.Changed.{named_in_limits, level_decides}
use Rattle.electric_rules.specs.Limits.{level_in_limits, in_limits}
use Rattle.electric_rules.specs.Next.{is_secondary, level_at, with_levels}

pub same_carried : (l : Level) {a b : ℤ} → a ≡ b → level_of a l.interest.0 l.pending l.first l.second ≡ level_of b l.interest.0 l.pending l.first l.second
same_carried l e = λ i. level_of (e i) l.interest.0 l.pending l.first l.second

pub same_interest : (l : Level) {a b : ℤ} → a ≡ b → level_of l.carried.0 a l.pending l.first l.second ≡ level_of l.carried.0 b l.pending l.first l.second
same_interest l e = λ i. level_of l.carried.0 (e i) l.pending l.first l.second

module _ (b : ElectricBook) (named : ℤ) (ranged : Between (pos 0) (pos 1) named) where
  pub name_read : to_z w64 (of_z w64 named) ≡ named
  name_read =
      let f : SFits w64 named = fits64 (b_between ranged) tt in
      to_z-of_z f

  module _ {l : Level} (e : l ≡ level_at (to_z w64 (of_z w64 named)) b) where
    pub level_is : l ≡ level_at named b
    level_is = e ∙ ap (λ (n : ℤ). level_at n b) name_read

    pub level_kept : in_limits b ≡ true → level_in_limits l ≡ true
    level_kept within = ap level_in_limits level_is ∙ named_in_limits b within named

-- what is taken in the place of a part of the book is taken of the book, where the part decides
module _ {Part : Type 0} (b : ElectricBook) (with : Part → ElectricBook) (old : Part) (place : with old ≡ b) where
  part_taken :
      {within : Bool} (next : Part) (answer : Answer) {result : Result Answer Refusal} {left : Part} →
      in_limits (with next) ≡ within → TakenWithin within answer next old result left → TakenWithin (in_limits (with next)) answer (with next) b result (with left)
  part_taken {within} next answer {result} {left} e t = subst (λ (w : Bool). TakenWithin w answer (with next) b result (with left)) (sym e) (t.0, ap with t.1 ∙ go within)
    where
      go : (w : Bool) → with (cond w next old) ≡ cond w (with next) b
      go true = refl
      go false = place

module _ (b : ElectricBook) (within : in_limits b ≡ true) (named : ℤ) (next : Level → Level) (answer : Level → Answer) where
  abbrev Named : Bool → Result Answer Refusal → ElectricBook → Type 0
  Named secondary result left =
      let l = cond secondary b.secondary b.primary in
      let after = cond secondary (with_levels b (next l) b.primary) (with_levels b b.secondary (next l)) in
      TakenWithin (in_limits after) (answer l) after b result left

  pub secondary_taken : {result : Result Answer Refusal} {left : Level} → is_secondary named ≡ true → TakenWithin (level_in_limits (next b.secondary)) (answer b.secondary) (next b.secondary) b.secondary result left → Named (is_secondary named) result (with_levels b left b.primary)
  secondary_taken {result} {left} e t = subst (λ (s : Bool). Named s result (with_levels b left b.primary)) (sym e) (part_taken b (λ l. with_levels b l b.primary) b.secondary refl (next b.secondary) (answer b.secondary) (level_decides b within (pos 0) (next b.secondary)) t)

  pub primary_taken : {result : Result Answer Refusal} {left : Level} → is_secondary named ≡ false → TakenWithin (level_in_limits (next b.primary)) (answer b.primary) (next b.primary) b.primary result left → Named (is_secondary named) result (with_levels b b.secondary left)
  primary_taken {result} {left} e t = subst (λ (s : Bool). Named s result (with_levels b b.secondary left)) (sym e) (part_taken b (λ l. with_levels b b.secondary l) b.primary refl (next b.primary) (answer b.primary) (level_decides b within (pos 1) (next b.primary)) t)

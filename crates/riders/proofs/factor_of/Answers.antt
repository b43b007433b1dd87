-- `factor_of` gives a quotient within the limits of a factor, and refuses any other, those that have no room in 32 bits too. Assumes nothing.
use Rattle.std.specs.Prelude.{◌≡◌, refl, Bool, true, false, ℤ}
use Rattle.std.specs.Result.{OkIff}
use Rattle.std.proofs.Common.{rules, ap, sym, subst}
use mir.Syntax.{w32, w64}
use mir.Val.{SFits}
use mir.Facts.{to_z-of_z}
use Rattle.ints.specs.Bound.{bounds, fits32}
use Rattle.refusals.specs.Rows.{stored_or_12}
use Rattle.amounts.specs.Amounts.{points, points_in_limits, points_within}
use Rattle.riders.proofs.factor_of.Goals as goal

beyond : (q : ℤ) → (SFits w32 q → ⊥) → points_in_limits (points q) ≡ false
beyond q h = go (points_in_limits (points q)) (λ e. e)
  where
    go : (t : Bool) → (t ≡ true → points_in_limits (points q) ≡ true) → t ≡ false
    go false e = refl
    go true e = absurd (h (let w = points_within (points q) (e refl) in fits32 (search (bounds, w) depth 30) tt))

pub returns-in-Err : goal.returns-in-Err
returns-in-Err c =
    let f : SFits w64 c.args.quotient = search rules in
    let tried = subst (λ z. OkIff c.try_from.result (SFits w32 z) z) (to_z-of_z f) c.try_from.ensures in
    let none = subst (λ r. OkIff r (SFits w32 c.args.quotient) c.args.quotient) c.in-Err.is tried in
    sym (ap (λ (t : Bool). stored_or_12 t (points c.args.quotient)) (beyond _ none))

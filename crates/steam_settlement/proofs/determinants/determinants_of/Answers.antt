-- `steam_settlement::determinants::determinants_of` is D within the limits, and 0 outside. Assumes nothing.
use Rattle.std.specs.Prelude.{◌≡◌, Bool, cond, ◌&&◌, pos}
use Rattle.std.proofs.Common.{rules, sym, ap, ◌∙◌}
use mir.Syntax.{w64}
use mir.Val.{SFits}
use mir.Facts.{to_z-of_z}
use Rattle.ints.specs.Flags.{both}
use Rattle.ints.specs.Range.{in_range_true}
use Rattle.steam_rules.specs.Book.{mmbtu, same_mmbtu}
use Rattle.steam_rules.specs.Settlement.{determinants_of}
use Rattle.steam_rules.specs.Fours.{one_by_one}
use Rattle.steam_rules.specs.Limits.{mmbtu_in_limits, quarters_in_limits}
use Rattle.steam_rules.specs.Ranges.{mmbtu_within, quarters_within}
use Rattle.steam_settlement.specs.Determinants.{adjustment_in_range, determinants_or0}
use Rattle.steam_settlement.proofs.determinants.determinants_of.Goals as goal
use Rattle.steam_settlement.proofs.determinants.determinants_of.Goals.{After-in_range}

abbrev all_within : After-in_range → Bool
all_within c = let s = c.args in mmbtu_in_limits s.sales && (quarters_in_limits s.quarters && adjustment_in_range s.adjustment.0)

tested_within : (c : After-in_range) → c.in_limits.result && (c.four_in_limits.result && c.in_range.result) ≡ all_within c
unfolding adjustment_in_range quarters_in_limits
tested_within c =
    let f : SFits w64 c.args.adjustment.0 = search rules in
    let ranged = c.in_range.ensures ∙ ap adjustment_in_range (to_z-of_z f) in
    λ i. c.in_limits.ensures i && (c.four_in_limits.ensures i && ranged i)

pub returns-then-not-within : goal.returns-then-not-within
unfolding determinants_or0
returns-then-not-within c =
    let s = c.args in
    let out = sym (tested_within (goal.at.returns-then-not-within c).After-in_range) ∙ c.if-not-within.true in
    same_mmbtu (sym (ap (λ (t : Bool). cond t (determinants_of s.sales.0 s.quarters s.adjustment.0) (pos 0)) out))

pub invariant_of-determinants : goal.invariant_of-determinants
unfolding adjustment_in_range
invariant_of-determinants c =
    let s = c.args in
    let within = sym (tested_within (goal.at.invariant_of-determinants c).After-in_range) ∙ c.if-not-within.false in
    let sold = both (mmbtu_in_limits s.sales) _ within in
    let rest = both (quarters_in_limits s.quarters) _ sold.1 in
    record {
      sales_within = mmbtu_within s.sales sold.0;
      quarters_within = one_by_one (mmbtu (pos 0)) (quarters_within s.quarters rest.0);
      adjustment_within = in_range_true _ _ _ rest.1;
    }

pub returns : goal.returns
unfolding determinants_or0
returns c =
    let s = c.args in
    let within = sym (tested_within (goal.at.returns c).After-in_range) ∙ c.if-not-within.false in
    c.determinants.ensures ∙ same_mmbtu (sym (ap (λ (t : Bool). cond t (determinants_of s.sales.0 s.quarters s.adjustment.0) (pos 0)) within))

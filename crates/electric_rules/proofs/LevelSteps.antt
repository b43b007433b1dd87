-- A level and its tally: each kind of posting changes both by the same cents, so it keeps what they share. Assumes nothing.
use mathlib.Core.Path.{◌≡◌, refl, sym, ap, ◌∙◌}
use mathlib.Core.Bool.{Bool, true, false, not, ◌||◌, true≢false}
use Rattle.std.specs.Prelude.{Option, is_some}
use lib.Dec.{T}
use lib.IntN.{ℤ, pos, ◌+ℤ◌, ◌-ℤ◌}
use Rattle.ints.specs.Ring.{solve, eq_by, ◌:+◌, ◌:-◌, ◌:*◌, ◌:=◌, #}
use Rattle.riders.specs.Balances.{line_billed, amount_added, cents_moved}
use Rattle.riders.specs.Waiting.{none_pending}
use Rattle.electric_rules.proofs.Held.{held_billed, held_adjusted, held_settled, held_accrued, bearing_held, handed_over_lem}
use Rattle.electric_rules.specs.declared.EnteringRun.{EnteringRun}
use Rattle.electric_rules.specs.declared.Level.{Level}
use Rattle.electric_rules.specs.Levels.{held_by, level_line, billed_level, adjusted_level, settled_level, bearing_of, interest_on, accrued_level, handed_over}
use Rattle.electric_rules.specs.Tally.{LevelTally, line_counted, share_counted, balance_of, interest_counted, adjustment_counted}
use Rattle.electric_rules.specs.Claim.{LevelBalances}

-- in a clear month nothing is pending
pub record LevelKept (clear : Bool) (l : Level) (t : LevelTally) : Type 0 where
  pub balances : LevelBalances l t
  pub accrued : l.interest.0 ≡ t.new_interest
  pub pending : clear ≡ true → l.pending.due.0 ≡ pos 0

module _ {clear : Bool} (l : Level) (t : LevelTally) (k : LevelKept clear l t) where
  pub billed_keeps : (u : ℤ) → LevelKept clear (billed_level u l) (line_counted (level_line u l) t)
  unfolding line_counted
  billed_keeps u =
      record {
        balances = line_billed t.billed (held_by l) k.balances (level_line u l) (held_billed l u);
        accrued = k.accrued;
        pending = k.pending;
      }

  pub adjusted_keeps : (amount : ℤ) → LevelKept clear (adjusted_level amount l) (adjustment_counted amount t)
  unfolding adjustment_counted
  adjusted_keeps amount =
      record {
        balances =
            amount_added t.billed (held_by l) k.balances amount (held_adjusted l amount)
            ∙ solve 4 (λ s i a x. s :+ i :+ a :+ x := s :+ i :+ (a :+ x)) tt t.shares t.interest t.adjustments amount;
        accrued = k.accrued;
        pending = k.pending;
      }

  -- book and tally reckon the same share
  pub settled_keeps : (share counted estimate : ℤ) → share ≡ counted → clear ≡ true → LevelKept false (settled_level share estimate l) (share_counted counted t)
  unfolding share_counted
  settled_keeps share counted estimate same c =
      record {
        balances =
            amount_added t.billed (held_by l) k.balances counted (held_settled l share estimate (k.pending c) ∙ ap (λ (x : ℤ). held_by l +ℤ x) same)
            ∙ solve 4 (λ s i a x. s :+ i :+ a :+ x := s :+ x :+ i :+ a) tt t.shares t.interest t.adjustments counted;
        accrued = refl;
        pending = λ c. absurd (true≢false (sym c));
      }

  -- the tally reckons interest on the balance that bears it
  same_balance : (provisional : ℤ) → bearing_of provisional l ≡ balance_of provisional t
  unfolding balance_of
  same_balance provisional =
      bearing_held l provisional
      ∙ ap (λ (z : ℤ). held_by l -ℤ z +ℤ provisional) k.accrued
      ∙ eq_by _ _ (pos 1) _ _
      (solve 7 (λ b h s i a n x. h :- n :+ x :- (s :+ a :+ i :- n :- b :+ x) := # 1 :* (b :+ h :- (s :+ i :+ a))) tt
      t.billed (held_by l) t.shares t.interest t.adjustments t.new_interest provisional)
      k.balances

  -- book and tally reckon the same interest
  accrued_keeps : (interest counted : ℤ) → interest ≡ counted → LevelKept clear (accrued_level interest l) (interest_counted counted t)
  unfolding interest_counted
  accrued_keeps interest counted same =
      record {
        balances =
            amount_added t.billed (held_by l) k.balances counted (held_accrued l interest ∙ ap (λ (x : ℤ). held_by l +ℤ x) same)
            ∙ solve 4 (λ s i a x. s :+ i :+ a :+ x := s :+ (i :+ x) :+ a) tt t.shares t.interest t.adjustments counted;
        accrued = λ i. k.accrued i +ℤ same i;
        pending = k.pending;
      }

  handed_keeps : (after : Bool) (entering : Option EnteringRun) → T (not after || (is_some entering || clear)) → LevelKept after (handed_over entering l) t
  handed_keeps after entering h =
      let handed = handed_over_lem l entering in
      record {
        balances = cents_moved t.billed (held_by l) k.balances handed.held;
        accrued = (λ i. (handed.interest i).0) ∙ k.accrued;
        pending = λ c. (λ i. (handed.pending i).due.0) ∙ none_pending after (is_some entering) clear l.pending h k.pending c;
      }

-- a month's end: interest, then the run that enters; of book and tally the provisional share is the same
pub ended_keeps :
    {before : Bool} (l : Level) (t : LevelTally) → LevelKept before l t → (rate : ℤ) {provisional counted : ℤ} → provisional ≡ counted →
    (after : Bool) (entering : Option EnteringRun) → T (not after || (is_some entering || before)) →
    LevelKept after (handed_over entering (accrued_level (interest_on rate (bearing_of provisional l)) l)) (interest_counted (interest_on rate (balance_of counted t)) t)
ended_keeps l t k rate {provisional} {counted} e after entering h =
    let same = same_balance l t k provisional ∙ ap (λ (z : ℤ). balance_of z t) e in
    handed_keeps _ _ (accrued_keeps l t k _ _ (ap (interest_on rate) same)) after entering h

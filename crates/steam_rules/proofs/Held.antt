-- What each kind of posting makes of the cents that the book holds: a bill takes its line away, in the parts that the runs lose; an adjustment
-- and a share are added; a run that enters, a reconciliation's last month and a reconciliation that begins move cents within the book.
-- Assumes nothing.
use mathlib.Core.Path.{◌≡◌, refl, sym, ap, ◌∙◌}
use mathlib.Core.List.{List, [], ◌∷◌}
use Prim.Native.Nat.{ℕ, zero, suc, ◌+◌, ◌<◌}
use Rattle.std.specs.Prelude.{Option, Some, None, IfSome}
use native.Mathlib.Omega.{arith}
use lib.Dec.{T}
use lib.IntN.{ℤ, pos, neg_ℤ, ◌+ℤ◌, ◌-ℤ◌}
use lib.ListN.{length, get_or, set, length-append}
use Rattle.ints.specs.Ring.{Over, ForAll, Holds, numbered, sides_agree, solve, eq_by, ◌:+◌, ◌:-◌, ◌:*◌, ◌:=◌, #, neg}
use Rattle.amounts.specs.Amounts.{cents}
use Rattle.amounts.specs.declared.Cents.{Cents}
use Rattle.postings.specs.declared.Posting.{Posting}
use Rattle.riders.specs.Lines.{part_of, sum_of, sum_first, parts_make_line}
use Rattle.steam_rules.specs.declared.SteamBook.{SteamBook}
use Rattle.steam_rules.specs.Settlement.{share_of}
use Rattle.steam_rules.specs.Next.{factors_of, bill_line, dues_less, bill_posted, settle_posted, entered, month_lost, reconciled, adjust_posted, reconcile_posted}
use Rattle.steam_rules.specs.Claim.{sum_cents, held_by}

-- ---- dues together

-- each due less its part
less_sum : (part : ℕ → ℤ) (dues : List Cents) → sum_cents (dues_less part dues) ≡ sum_cents dues -ℤ sum_of (length dues) part
less_sum part [] = refl
less_sum part (due ∷ dues) =
    let later : ℕ → ℤ = λ i. part (suc i) in
    ap (λ (z : ℤ). due.0 -ℤ part 0 +ℤ z) (less_sum later dues)
    ∙ solve 4 (λ d p ds ps. d :- p :+ (ds :- ps) := d :+ ds :- (p :+ ps)) tt due.0 (part 0) (sum_cents dues) (sum_of (length dues) later)
    ∙ ap (λ (z : ℤ). due.0 +ℤ sum_cents dues -ℤ z) (sym (sum_first part (length dues)))

-- one due in another's place
set_sum : (dues : List Cents) (i : ℕ) (due : Cents) → i < length dues → sum_cents (set dues i due) +ℤ (get_or dues i (cents (pos 0))).0 ≡ sum_cents dues +ℤ due.0
set_sum [] i due h = absurd (omega arith)
set_sum (first ∷ dues) zero due h = solve 3 (λ d ds new. new :+ ds :+ d := d :+ ds :+ new) tt first.0 (sum_cents dues) due.0
set_sum (first ∷ dues) (suc i) due h =
    let old = (get_or dues i (cents (pos 0))).0 in
    solve 3 (λ d ds old. d :+ ds :+ old := d :+ (ds :+ old)) tt first.0 (sum_cents (set dues i due)) old
    ∙ ap (λ (z : ℤ). first.0 +ℤ z) (set_sum dues i due (omega arith))
    ∙ solve 3 (λ d ds new. d :+ (ds :+ new) := d :+ ds :+ new) tt first.0 (sum_cents dues) due.0

-- ---- the book

abbrev four_and : ℕ → ℕ
four_and n = suc (suc (suc (suc n)))

module _ (b : SteamBook) where
  -- `solve` over the book's cents A, Q, the four d together, the reconciliation's d, and n unknowns more
  solve_cents :
      (n : ℕ) (f : Over (four_and n)) → T (sides_agree (numbered (four_and n) 0 f)) →
      ForAll n (λ (more : List ℤ). Holds (numbered (four_and n) 0 f) (b.carried.0 ∷ b.pending.due.0 ∷ sum_cents b.dues ∷ b.reconciliation.run.due.0 ∷ more))
  solve_cents n f t = solve (four_and n) f t b.carried.0 b.pending.due.0 (sum_cents b.dues) b.reconciliation.run.due.0

  -- four runs and the reconciliation lose the line
  pub held_billed : (p : Posting) → length b.factors ≡ 4 → length b.dues ≡ 4 → held_by (bill_posted b p) ≡ held_by b -ℤ bill_line p.first b
  unfolding held_by bill_posted bill_line
  held_billed p f d =
      let part = part_of p.first (factors_of b) in
      let five : length (factors_of b) ≡ 5 = length-append b.factors _ ∙ ap (λ (n : ℕ). n + 1) f in
      let line : sum_of (length b.dues) part +ℤ part 4 ≡ bill_line p.first b =
      ap (λ (n : ℕ). sum_of n part +ℤ part 4) d ∙ ap (λ (n : ℕ). sum_of n part) (sym five) ∙ parts_make_line p.first (factors_of b) in
      ap (λ (z : ℤ). b.carried.0 +ℤ b.pending.due.0 +ℤ z +ℤ (b.reconciliation.run.due.0 -ℤ part 4)) (less_sum part b.dues)
      ∙ solve_cents 2 (λ a q ds r ps p. a :+ q :+ (ds :- ps) :+ (r :- p) := a :+ q :+ ds :+ r :- (ps :+ p)) tt
      (sum_of (length b.dues) part) (part 4)
      ∙ ap (λ (z : ℤ). held_by b -ℤ z) line

  -- the share takes the place of what was pending, so nothing may be
  pub held_settled : (p : Posting) → b.pending.due.0 ≡ pos 0 → held_by (settle_posted b p) ≡ held_by b +ℤ share_of b.period
  unfolding held_by settle_posted
  held_settled p =
      eq_by _ _ (neg_ℤ (pos 1)) _ _
      (solve_cents 1 (λ a q ds r x. a :+ x :+ ds :+ r :- (a :+ q :+ ds :+ r :+ x) := neg (# 1) :* (q :- # 0)) tt (share_of b.period))

  pub held_entered : (run : Option ℕ) → length b.dues ≡ 4 → IfSome run (λ (place : ℕ). place < 4) → held_by (entered run b) ≡ held_by b
  unfolding held_by entered
  held_entered None d of_four = refl
  held_entered (Some i) d of_four =
      eq_by _ _ (pos 1) _ _
      (solve_cents 2 (λ a q ds r old new. a :+ old :+ # 0 :+ new :+ r :- (a :+ q :+ ds :+ r) := # 1 :* (new :+ old :- (ds :+ q))) tt
      (get_or b.dues i (cents (pos 0))).0 (sum_cents (set b.dues i b.pending.due)))
      (set_sum b.dues i b.pending.due (omega arith))

  -- the last month leaves its cents to the carried account
  held_month_lost : (months : ℕ) → held_by (month_lost months b) ≡ held_by b
  unfolding held_by
  held_month_lost zero = refl
  held_month_lost (suc zero) = solve_cents 0 (λ a q ds r. a :+ r :+ q :+ ds :+ # 0 := a :+ q :+ ds :+ r) tt
  held_month_lost (suc (suc left)) = refl

  pub held_reconciled : held_by (reconciled b) ≡ held_by b
  unfolding reconciled
  held_reconciled = held_month_lost b.reconciliation.months

  pub held_adjusted : (p : Posting) → held_by (adjust_posted b p) ≡ held_by b +ℤ p.first
  unfolding held_by adjust_posted
  held_adjusted p = solve_cents 1 (λ a q ds r x. a :+ x :+ q :+ ds :+ r := a :+ q :+ ds :+ r :+ x) tt p.first

  -- the carried account takes the place of the reconciliation's cents, so there may be none
  pub held_reconciling : (p : Posting) → b.reconciliation.run.due.0 ≡ pos 0 → held_by (reconcile_posted b p) ≡ held_by b
  unfolding held_by reconcile_posted
  held_reconciling p =
      eq_by _ _ (neg_ℤ (pos 1)) _ _
      (solve_cents 0 (λ a q ds r. # 0 :+ q :+ ds :+ a :- (a :+ q :+ ds :+ r) := neg (# 1) :* (r :- # 0)) tt)

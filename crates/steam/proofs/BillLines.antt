-- A bill's lines over the five runs and what each run loses, as the code works them out, with their sizes. Assumes nothing.
use mathlib.Core.Path.{◌≡◌, refl, sym, ap, ◌∙◌, subst}
use mathlib.Core.List.{List, [], ◌∷◌, ◌++◌}
use Prim.Native.Nat.{ℕ}
use native.Mathlib.Omega.{arith}
use lib.IntN.{ℤ, pos, neg_ℤ, ◌+ℤ◌, ◌-ℤ◌}
use lib.ListN.{length, get_or, take}
use Rattle.ints.specs.Ring.{solve, ◌:+◌, ◌:=◌, #}
use Rattle.ints.specs.Range.{Between, Within, between_same}
use Rattle.ints.specs.Bound.{bounds, within_by}
use Rattle.rounding.proofs.RoundLaws.{rounds}
use Rattle.amounts.specs.Amounts.{cents, points}
use Rattle.amounts.specs.declared.Cents.{Cents}
use Rattle.amounts.specs.declared.Points.{Points}
use Rattle.riders.specs.Lines.{together, line_of, part_of, no_line}
use Rattle.steam_rules.specs.declared.SteamBook.{SteamBook}
use Rattle.steam_rules.specs.Next.{factors_of, dues_less}
use Rattle.steam_rules.specs.Fours.{Four, as_four, at, one_by_one}
use Rattle.steam_rules.specs.Ranges.{PointsWithin, CentsWithin, BookWithin}
use Rattle.steam.specs.declared.bills.Factors.{Factors}
use Rattle.steam.specs.declared.bills.Billed.{Billed}
use Rattle.steam.specs.declared.bills.UpTo.{UpTo}
use Rattle.steam.specs.Lines.{as_factors, totals_of, lines_of}

-- what is due under run i + 1
abbrev pub due_at : SteamBook → ℕ → ℤ
due_at b i = (get_or b.dues i (cents (pos 0))).0

-- ---- the factors up to each run together

pub same_factors : {a b : ℤ} → a ≡ b → as_factors a ≡ as_factors b
same_factors e = λ i. as_factors (e i)

pub record TotalsWithin (t : UpTo Factors) : Type 0 where
  pub first : Within 500000 t.first.0
  pub second : Within 500000 t.second.0
  pub third : Within 500000 t.third.0
  pub fourth : Within 500000 t.fourth.0
  pub all : Within 500000 t.all.0

module _ (fs : List Points) (last : Points) where
  -- the factor of run i + 1
  abbrev factor_at : ℕ → Points
  factor_at i = get_or fs i (points (pos 0))

  -- the five factors, one by one
  pub five : length fs ≡ 4 → factor_at 0 ∷ factor_at 1 ∷ factor_at 2 ∷ factor_at 3 ∷ last ∷ [] ≡ fs ++ (last ∷ [])
  five count = ap (λ (gs : List Points). gs ++ (last ∷ [])) (sym (as_four (points (pos 0)) fs count))

  -- the code's sums, each one factor more than the one before
  pub totals_are :
      {one two three four all : Factors} → length fs ≡ 4 → one ≡ as_factors (pos 0 +ℤ (factor_at 0).0) → two ≡ as_factors (one.0 +ℤ (factor_at 1).0) →
      three ≡ as_factors (two.0 +ℤ (factor_at 2).0) → four ≡ as_factors (three.0 +ℤ (factor_at 3).0) → all ≡ as_factors (four.0 +ℤ last.0) →
      ◌≡◌ {A = UpTo Factors} (record { first = one; second = two; third = three; fourth = four; all = all }) (totals_of (fs ++ (last ∷ [])))
  totals_are count e₁ e₂ e₃ e₄ e₅ =
      let f = (factor_at 0).0 in
      let g = (factor_at 1).0 in
      let h = (factor_at 2).0 in
      let k = (factor_at 3).0 in
      let s₁ = e₁ ∙ same_factors (solve 1 (λ f. # 0 :+ f := f :+ # 0) tt f) in
      let s₂ = e₂ ∙ (λ i. as_factors ((s₁ i).0 +ℤ g)) ∙ same_factors (solve 2 (λ f g. f :+ # 0 :+ g := f :+ (g :+ # 0)) tt f g) in
      let s₃ = e₃ ∙ (λ i. as_factors ((s₂ i).0 +ℤ h)) ∙ same_factors (solve 3 (λ f g h. f :+ (g :+ # 0) :+ h := f :+ (g :+ (h :+ # 0))) tt f g h) in
      let s₄ = e₄ ∙ (λ i. as_factors ((s₃ i).0 +ℤ k)) ∙ same_factors (solve 4 (λ f g h k. f :+ (g :+ (h :+ # 0)) :+ k := f :+ (g :+ (h :+ (k :+ # 0)))) tt f g h k) in
      let s₅ =
      e₅ ∙ (λ i. as_factors ((s₄ i).0 +ℤ last.0))
      ∙ same_factors (solve 5 (λ f g h k l. f :+ (g :+ (h :+ (k :+ # 0))) :+ l := f :+ (g :+ (h :+ (k :+ (l :+ # 0))))) tt f g h k last.0) in
      (λ i. record { first = s₁ i; second = s₂ i; third = s₃ i; fourth = s₄ i; all = s₅ i }) ∙ ap totals_of (five count)

  pub totals_within : {t : UpTo Factors} → Four PointsWithin fs → PointsWithin last → t ≡ totals_of (fs ++ (last ∷ [])) → TotalsWithin t
  totals_within w l e =
      let s = e ∙ ap totals_of (sym (five w.count)) in
      let f = at (points (pos 0)) w 0 (omega arith) in
      let g = at (points (pos 0)) w 1 (omega arith) in
      let h = at (points (pos 0)) w 2 (omega arith) in
      let k = at (points (pos 0)) w 3 (omega arith) in
      record {
        first = between_same (λ i. (s i).first.0) (within_by (search (bounds, f) depth 30) tt);
        second = between_same (λ i. (s i).second.0) (within_by (search (bounds, f, g) depth 30) tt);
        third = between_same (λ i. (s i).third.0) (within_by (search (bounds, f, g, h) depth 30) tt);
        fourth = between_same (λ i. (s i).fourth.0) (within_by (search (bounds, f, g, h, k) depth 30) tt);
        all = between_same (λ i. (s i).all.0) (within_by (search (bounds, f, g, h, k, l) depth 30) tt);
      }

-- ---- the lines

module _ (u : ℤ) (b : SteamBook) where
  -- the line of the first runs
  abbrev line_up_to : ℕ → ℤ
  line_up_to i = line_of u (take i (factors_of b))

  module _ (count : length b.factors ≡ 4) where
    -- all five make the bill's own line
    all_five : line_up_to 5 ≡ line_of u (factors_of b)
    all_five = subst (λ (fs : List Points). line_of u (take 5 fs) ≡ line_of u fs) (five b.factors b.reconciliation.run.factor count) refl

    -- ---- what each run loses

    pub dues_fall :
        length b.dues ≡ 4 →
        cents (due_at b 0 -ℤ (line_up_to 1 -ℤ pos 0)) ∷ cents (due_at b 1 -ℤ (line_up_to 2 -ℤ line_up_to 1)) ∷ cents (due_at b 2 -ℤ (line_up_to 3 -ℤ line_up_to 2))
        ∷ cents (due_at b 3 -ℤ (line_up_to 4 -ℤ line_up_to 3))
        ∷ []
        ≡ dues_less (part_of u (factors_of b)) b.dues
    unfolding part_of
    dues_fall four =
        ap
        (λ (none : ℤ).
        cents (due_at b 0 -ℤ (line_up_to 1 -ℤ none)) ∷ cents (due_at b 1 -ℤ (line_up_to 2 -ℤ line_up_to 1)) ∷ cents (due_at b 2 -ℤ (line_up_to 3 -ℤ line_up_to 2))
        ∷ cents (due_at b 3 -ℤ (line_up_to 4 -ℤ line_up_to 3))
        ∷ [])
        (sym (no_line u))
        ∙ ap (dues_less (part_of u (factors_of b))) (sym (as_four (cents (pos 0)) b.dues four))

    pub rest_falls : (due : ℤ) → due -ℤ (line_of u (factors_of b) -ℤ line_up_to 4) ≡ due -ℤ part_of u (factors_of b) 4
    unfolding part_of
    rest_falls due = ap (λ (z : ℤ). due -ℤ (z -ℤ line_up_to 4)) (sym all_five)

  -- ---- sizes

  pub record LinesWithin (lines : UpTo Cents) : Type 0 where
    pub first : Within 60000000000 lines.first.0
    pub second : Within 60000000000 lines.second.0
    pub third : Within 60000000000 lines.third.0
    pub fourth : Within 60000000000 lines.fourth.0
    pub all : Within 60000000000 lines.all.0

  line_within : (fs : List Points) → Between (neg_ℤ (pos 10000000)) (pos 10000000) u → Within 500000 (together fs) → Within 60000000000 (line_of u fs)
  unfolding line_of
  line_within fs us h = within_by (search (bounds, rounds, us, h) depth 30) tt

  pub lines_within : (lines : UpTo Cents) → BookWithin b → Between (neg_ℤ (pos 10000000)) (pos 10000000) u → lines ≡ lines_of u (factors_of b) → LinesWithin lines
  lines_within lines w us e =
      let t = totals_within b.factors b.reconciliation.run.factor {t = totals_of (factors_of b)} w.runs.factors w.runs.reconciliation.factor refl in
      record {
        first = between_same (λ i. (e i).first.0) (line_within _ us t.first);
        second = between_same (λ i. (e i).second.0) (line_within _ us t.second);
        third = between_same (λ i. (e i).third.0) (line_within _ us t.third);
        fourth = between_same (λ i. (e i).fourth.0) (line_within _ us t.fourth);
        all = between_same (λ i. (e i).all.0) (line_within _ us t.all);
      }

-- of a bill with its lines: the lines, and what is due under runs 1 to 4
module _ (billed : Billed) where
  pub lines_small : LinesWithin billed.bill.posting.first billed.bill.book billed.lines
  lines_small = lines_within _ _ billed.lines billed.bill.book_within billed.bill.ranged.0 billed.lines_are

  pub dues_small : CentsWithin (cents (due_at billed.bill.book 0)) × CentsWithin (cents (due_at billed.bill.book 1)) × CentsWithin (cents (due_at billed.bill.book 2)) × CentsWithin (cents (due_at billed.bill.book 3))
  dues_small = one_by_one (cents (pos 0)) billed.bill.book_within.runs.dues

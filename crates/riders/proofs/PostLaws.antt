-- What a posting gives, as the code works it out: the rows before 12, then the effect, which tests row 12 by the parts that it changes. For any
-- book whose table ends in row 12. Assumes nothing.
use Rattle.std.specs.Prelude.{◌≡◌, refl, Bool, true, false, Option, Some, None, Result, Ok, Err}
use Rattle.std.proofs.Math.Path.{sym}
use Rattle.std.proofs.Common.{ap, ◌∙◌, subst}
use Rattle.std.proofs.Math.Bool.{not}
use mathlib.Core.List.{[], ◌∷◌, ◌++◌}
use Rattle.refusals.specs.Rows.{row, refusal_by, before, by_table, given_by}
use Rattle.refusals.specs.declared.Refusal.{Refusal}
use Rattle.refusals.specs.declared.Refusal.TheVariants.{NextOutOfLimits}
use Rattle.refusals.proofs.TableLaws.{at_row, past_row, decided_earlier, decided_later, gives_asked, gives_refusal, table_accepts, table_refuses}
use Rattle.postings.specs.Kinds.{kind_of}
use Rattle.postings.specs.declared.kinds.Kind.{Kind}
use Rattle.postings.specs.declared.Answer.{Answer}
use Rattle.postings.specs.declared.Posted.{Posted}
use Rattle.postings.specs.declared.Posting.{Posting}
use Rattle.riders.specs.Posts.{TakenWithin}
use Rattle.riders.specs.Rules.{Rules, posted, answer_given, book_given, given_as, answered_by, left_by, given_of, answered_given, left_given}

-- ---- by the table: a row before 12 refuses, or 12 does, or the next book is stored

module _ {Held : Type 0} (rules : Rules Held) (b : Held) (p : Posting) where
  refused_by : (refusal : Refusal) → refusal_by (rules.rows b p) ≡ Some refusal → Err refusal ≡ given_of rules b p
  unfolding given_of
  refused_by refusal e = sym (gives_refusal (rules.rows b p) (Ok (posted (rules.answer b p) (rules.next b p))) Err refusal e)

  accepted_by : refusal_by (rules.rows b p) ≡ None → Ok (posted (rules.answer b p) (rules.next b p)) ≡ given_of rules b p
  unfolding given_of
  accepted_by e = sym (gives_asked (rules.rows b p) (Ok (posted (rules.answer b p) (rules.next b p))) Err e)

  module _
      (in_limits : Held → Bool)
      (table : rules.rows b p ≡ before NextOutOfLimits (rules.rows b p) ++ (row NextOutOfLimits (not (in_limits (rules.next b p))) ∷ []))
    where
      pub refused_before : (refusal : Refusal) → refusal_by (before NextOutOfLimits (rules.rows b p)) ≡ Some refusal → Err refusal ≡ given_of rules b p
      refused_before refusal e = refused_by refusal (ap refusal_by table ∙ decided_earlier (before NextOutOfLimits (rules.rows b p)) _ refusal e)

      module _ (none : refusal_by (before NextOutOfLimits (rules.rows b p)) ≡ None) where
        last : refusal_by (rules.rows b p) ≡ refusal_by (row NextOutOfLimits (not (in_limits (rules.next b p))) ∷ [])
        last = ap refusal_by table ∙ decided_later (before NextOutOfLimits (rules.rows b p)) _ none

        pub refused_12 : in_limits (rules.next b p) ≡ false → Err NextOutOfLimits ≡ given_of rules b p
        refused_12 f = refused_by NextOutOfLimits (last ∙ at_row NextOutOfLimits [] (ap not f))

        pub stored : in_limits (rules.next b p) ≡ true → Ok (posted (rules.answer b p) (rules.next b p)) ≡ given_of rules b p
        unfolding refusal_by
        stored f = accepted_by (last ∙ past_row NextOutOfLimits [] (ap not f))

-- ---- a posting that is taken: its answer and the book that is left, by what the code found

module _ {Held : Type 0} (rules : Rules Held) (b : Held) (p : Posting) where
  -- both are the rules' own
  abbrev pub Taken : Result Answer Refusal → Held → Type 0
  Taken answer left = (answer ≡ answered_by rules b p) × (left ≡ left_by rules b p)

  taken : {given : Result (Posted Held) Refusal} → given ≡ given_of rules b p → Taken (answer_given given) (book_given b given)
  taken given = (sym (answered_given rules b p given), sym (left_given rules b p given))

  -- what was given is what was taken
  pub given_taken : {answer : Result Answer Refusal} {left : Held} → Taken answer left → given_as answer left ≡ given_of rules b p
  unfolding answered_by left_by given_of by_table
  given_taken {answer} {left} t = ap (λ (a : Result Answer Refusal). given_as a left) t.0 ∙ ap (given_as (answered_by rules b p)) t.1 ∙ go (refusal_by (rules.rows b p))
    where
      go : (o : Option Refusal) → given_as (given_by o (Ok (rules.answer b p)) Err) (given_by o (rules.next b p) (λ refusal. b)) ≡ given_by o (Ok (posted (rules.answer b p) (rules.next b p))) Err
      go None = refl
      go (Some refusal) = refl

  -- and what is said of the answer and the book taken is said of what was given
  pub said_of_given : {Reply : Type 0} (reply : Result Answer Refusal → Held → Reply) {answer : Result Answer Refusal} {left : Held} → Taken answer left → reply answer left ≡ reply (answer_given (given_of rules b p)) (book_given b (given_of rules b p))
  said_of_given reply {answer} {left} t = ap (λ (a : Result Answer Refusal). reply a left) (t.0 ∙ answered_given rules b p refl) ∙ ap (reply (answer_given (given_of rules b p))) (t.1 ∙ left_given rules b p refl)

  module _
      (in_limits : Held → Bool)
      (table : rules.rows b p ≡ before NextOutOfLimits (rules.rows b p) ++ (row NextOutOfLimits (not (in_limits (rules.next b p))) ∷ []))
    where
      -- the kind of a posting that no row before 12 refuses, or the refusal of the first row that does
      abbrev pub by_rows : Result Kind Refusal
      by_rows = by_table (before NextOutOfLimits (rules.rows b p)) (Ok (kind_of p.kind)) Err

      pub refused_early : {refusal : Refusal} → Err refusal ≡ by_rows → Taken (Err refusal) b
      refused_early e = taken (refused_before rules b p in_limits table _ (table_refuses _ _ e))

      module _ {kind : Kind} (e : Ok kind ≡ by_rows) where
        accepted : (refusal_by (before NextOutOfLimits (rules.rows b p)) ≡ None) × (kind ≡ kind_of p.kind)
        accepted = table_accepts _ _ e

        -- what the rows before have shown of the posting's kind
        pub known : (Shown : Kind → Type 0) → (refusal_by (before NextOutOfLimits (rules.rows b p)) ≡ None → Shown (kind_of p.kind)) → Shown kind
        known Shown shown = subst Shown (sym accepted.1) (shown accepted.0)

        -- and what the effect owes: the answer and the next book of the kind, or row 12's refusal
        module _ (answer : Kind → Answer) (next : Kind → Held) (own : (answer (kind_of p.kind) ≡ rules.answer b p) × (next (kind_of p.kind) ≡ rules.next b p)) where
          pub decided : {result : Result Answer Refusal} {left : Held} → TakenWithin (in_limits (next kind)) (answer kind) (next kind) b result left → Taken result left
          decided {result} {left} h = go (in_limits (rules.next b p)) refl (subst (λ (n : Held). TakenWithin (in_limits n) (rules.answer b p) n b result left) next_is (subst (λ (a : Answer). TakenWithin (in_limits (next kind)) a (next kind) b result left) answer_is h))
            where
              answer_is : answer kind ≡ rules.answer b p
              answer_is = ap answer accepted.1 ∙ own.0

              next_is : next kind ≡ rules.next b p
              next_is = ap next accepted.1 ∙ own.1

              go : (within : Bool) → in_limits (rules.next b p) ≡ within → TakenWithin within (rules.answer b p) (rules.next b p) b result left → Taken result left
              go true e h = let t = taken (stored rules b p in_limits table accepted.0 e) in (h.0 ∙ t.0, h.1 ∙ t.1)
              go false e h = let t = taken (refused_12 rules b p in_limits table accepted.0 e) in (h.0 ∙ t.0, h.1 ∙ t.1)

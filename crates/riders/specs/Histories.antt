-- A history (01, The tally): a list of postings, each given to the book that the one before it gave back, accepted or refused, and a
-- tally that is fed each posting, whether it was accepted and, for a bill, the line answered: never the book, and no other answer. For the
-- rules of any book, and any tally. Law: what one posting keeps of book and tally, a list of them keeps. Assumes nothing.
use Rattle.std.specs.Prelude.{Bool, cond, ℤ, pos, get_or, Result, is_ok}
use mathlib.Core.List.{List, [], ◌∷◌}
use Rattle.refusals.specs.declared.Refusal.{Refusal}
use Rattle.postings.specs.Answers.{answer_values}
use Rattle.postings.specs.Kinds.{is_kind, kind_of}
use Rattle.postings.specs.declared.kinds.Kind.{Kind}
use Rattle.postings.specs.declared.kinds.Kind.TheVariants.{Bill}
use Rattle.postings.specs.declared.Posting.{Posting}
use Rattle.postings.specs.declared.Answer.{Answer}
use Rattle.riders.specs.Rules.{Rules, answered_by, left_by}

-- whether a posting was accepted: it was answered, and not refused
abbrev pub was_accepted : Result Answer Refusal → Bool
was_accepted answer = is_ok answer

-- the line answered, the one value of a bill's answer; 0 for any other kind
abbrev pub line_answered : Kind → Result Answer Refusal → ℤ
line_answered kind answer = cond (is_kind Bill kind) (get_or (answer_values answer) 0 (pos 0)) (pos 0)

-- what the tally is fed of a posting
pub record Entry : Type 0 where
  pub posting : Posting
  pub accepted : Bool
  pub line : ℤ

abbrev pub entry_of : Posting → Result Answer Refusal → Entry
entry_of p answer = record { posting = p; accepted = was_accepted answer; line = line_answered (kind_of p.kind) answer }

module _ {Held : Type 0} (rules : Rules Held) where
  -- the book after the list
  unfoldable pub book_after : Held → List Posting → Held
  book_after b [] = b
  book_after b (p ∷ ps) = book_after (left_by rules b p) ps

  -- an entry for each posting
  unfoldable pub entries_of : Held → List Posting → List Entry
  entries_of b [] = []
  entries_of b (p ∷ ps) = entry_of p (answered_by rules b p) ∷ entries_of (left_by rules b p) ps

-- the tally after the entries, by what it makes of one
unfoldable pub tally_after : {Tally : Type 0} → (Tally → Entry → Tally) → Tally → List Entry → Tally
tally_after count t [] = t
tally_after count t (e ∷ entries) = tally_after count (count t e) entries

-- ---- what one posting keeps, a list keeps

module _
    {Held Tally : Type 0} (rules : Rules Held) (count : Tally → Entry → Tally) (Keeps : Held → Tally → Type 0)
    (one : (b : Held) (t : Tally) (p : Posting) → Keeps b t → Keeps (left_by rules b p) (count t (entry_of p (answered_by rules b p))))
  where
    pub kept_after : (b : Held) (t : Tally) (ps : List Posting) → Keeps b t → Keeps (book_after rules b ps) (tally_after count t (entries_of rules b ps))
    unfolding book_after entries_of tally_after
    kept_after b t [] k = k
    kept_after b t (p ∷ ps) k = kept_after (left_by rules b p) (count t (entry_of p (answered_by rules b p))) ps (one b t p k)

-- The run of a journal, for any book: the lines stored so far, and those that are to come, are all its lines. Assumes nothing.
use mathlib.Core.Path.{◌≡◌, refl, sym, ap, subst, ◌∙◌}
use mathlib.Core.Bool.{Bool, cond}
use mathlib.Core.List.{List, [], ◌++◌, append_assoc, append-nil}
use Prim.Native.Nat.{ℕ, zero, suc, ◌+◌, ◌*◌, ◌<◌, ◌≤◌}
use native.Mathlib.Omega.{arith}
use lib.Dec.{leb}
use lib.ListN.{length}
use borrow.Author.Tests.{le-leb, lt-leb}
use Rattle.std.specs.Prelude.{Result, Ok, Err, IfOk}
use Rattle.refusals.specs.declared.Refusal.{Refusal}
use Rattle.postings.specs.declared.Book.{Book}
use Rattle.postings.specs.declared.Answer.{Answer}
use Rattle.riders.specs.Rules.{Rules, answered_by, left_by}
use Rattle.records.specs.declared.Found.{Found}
use Rattle.records.specs.Records.{read_of, found_on}
use Rattle.journal.proofs.Storing.{prints_nothing, prints_then, prints_as}
use Rattle.journal.specs.Lines.{record_line}
use Rattle.journal.specs.Journal.{lines_read, lines_from, EnoughSteps}
use Rattle.journal.specs.Steps.{Prints}
use Rattle.journal.specs.declared.page.Page.{Page}

-- a record that was read has two bytes at least, and all its bytes remain
pub read_on : (kinds : Book) (bytes : List ℕ) (place : ℕ) {found : Found} → Ok found ≡ read_of kinds bytes place → (place + 2 ≤ found.place) × (found.place ≤ length bytes)
read_on kinds bytes place {found} e = subst (λ (read : Result Found Refusal). IfOk read (λ (f : Found). (place + 2 ≤ f.place) × (f.place ≤ length bytes))) (sym e) (found_on kinds bytes place)

module _ {B : Type 0} (kinds : Book) (rules : Rules B) (bytes : List ℕ) where
  abbrev pub lines : ℕ → B → ℕ → ℕ → List ℕ
  lines more b place number = lines_from kinds rules more b bytes place number

  -- ---- the lines from a place on, by what is read there

  no_lines : (more : ℕ) (b : B) (place number : ℕ) → length bytes ≤ place → lines more b place number ≡ []
  unfolding lines_from
  no_lines zero b place number h = refl
  no_lines (suc more) b place number h = simp (le-leb (length bytes) place h)

  -- ---- more steps than there are bytes change nothing

  same_lines : (n m : ℕ) (b : B) (place number : ℕ) → length bytes ≤ place + n → length bytes ≤ place + m → lines n b place number ≡ lines m b place number
  unfolding lines_from
  same_lines zero m b place number h k = sym (no_lines m b place number (omega arith))
  same_lines (suc n) zero b place number h k = no_lines (suc n) b place number (omega arith)
  same_lines (suc n) (suc m) b place number h k =
      ap (cond (leb (length bytes) place) [])
      (go (read_of kinds bytes place) refl (λ next after l q. same_lines n m next after (number + 1) l q))
    where
      go :
          (read : Result Found Refusal) → read_of kinds bytes place ≡ read →
          ((next : B) (after : ℕ) → length bytes ≤ after + n → length bytes ≤ after + m → lines n next after (number + 1) ≡ lines m next after (number + 1)) →
          lines_read kinds rules (λ next after. lines n next after (number + 1)) b number read ≡ lines_read kinds rules (λ next after. lines m next after (number + 1)) b number read
      go (Ok found) e same =
          let on = read_on kinds bytes place (sym e) in
          ap (λ (l : List ℕ). record_line number found.posting.kind (answered_by rules b found.posting) ++ l)
          (same (left_by rules b found.posting) found.place (omega (arith, on.0, h)) (omega (arith, on.0, k)))
      go (Err refusal) e same = refl

  module _ (more : ℕ) (b : B) (place number : ℕ) (h : place < length bytes) where
    step : {read : Result Found Refusal} → read ≡ read_of kinds bytes place → lines (suc more) b place number ≡ lines_read kinds rules (λ next after. lines more next after (number + 1)) b number read
    unfolding lines_from
    step e =
        ap (λ (t : Bool). cond t [] (lines_read kinds rules (λ next after. lines more next after (number + 1)) b number (read_of kinds bytes place))) (lt-leb (length bytes) place h)
        ∙ ap (lines_read kinds rules (λ next after. lines more next after (number + 1)) b number) (sym e)

    line_read :
        {found : Found} → Ok found ≡ read_of kinds bytes place → (answer : Result Answer Refusal) → answer ≡ answered_by rules b found.posting →
        (next : B) → next ≡ left_by rules b found.posting →
        lines (suc more) b place number ≡ record_line number found.posting.kind answer ++ lines more next found.place (number + 1)
    line_read {found} e answer a next n = step e ∙ sym (λ i. record_line number found.posting.kind (a i) ++ lines more (n i) found.place (number + 1))

    line_refused : {refusal : Refusal} → Err refusal ≡ read_of kinds bytes place → lines (suc more) b place number ≡ record_line number 0 (Err refusal)
    line_refused e = step e

  -- ---- what a turn keeps

  -- a record has two bytes at least, and its line 82 at most
  pub record Kept (whole : List ℕ) (start : Page) (b : B) (place number : ℕ) (page : Page) : Type 0 where
    pub before : List ℕ
    pub more : ℕ
    pub stored : Prints before (41 * place) start page
    pub to_come : before ++ lines more b place number ≡ whole
    pub enough : length bytes ≤ place + more
    pub within : place ≤ length bytes
    pub counted : number ≤ place

  pub begun : (start : Page) (b : B) (place : ℕ) → 1 ≤ place → place ≤ length bytes → Kept (lines (length bytes) b place 1) start b place 1 start
  begun start b place h w =
      record {
        before = [];
        more = length bytes;
        stored = prints_nothing;
        to_come = refl;
        enough = omega arith;
        within = w;
        counted = h;
      }

  module _ {whole : List ℕ} {start : Page} {b : B} {place number : ℕ} {page : Page} (k : Kept whole start b place number page) where
    -- no byte remains
    pub ended : length bytes ≤ place → Prints whole (41 * length bytes + 82) start page
    ended h =
        prints_as k.stored
        (sym (append-nil k.before) ∙ ap (λ (l : List ℕ). k.before ++ l) (sym (no_lines k.more b place number h)) ∙ k.to_come)
        (omega (arith, k.within))

    module _ (h : place < length bytes) (after : Page) where
      -- a reading refusal ends the run
      pub stopped : (refusal : Refusal) → Err refusal ≡ read_of kinds bytes place → Prints (record_line number 0 (Err refusal)) 82 page after → Prints whole (41 * length bytes + 82) start after
      stopped refusal e p = go k.more refl
        where
          go : (more : ℕ) → k.more ≡ more → Prints whole (41 * length bytes + 82) start after
          go zero q = absurd (omega (arith, k.enough))
          go (suc more) q =
              prints_as (prints_then k.stored p)
              (ap (λ (l : List ℕ). k.before ++ l) (sym (line_refused more b place number h e))
              ∙ ap (λ (m : ℕ). k.before ++ lines m b place number) (sym q) ∙ k.to_come)
              (omega (arith, k.within))

      -- a record's line is stored, and the next book takes the next record
      pub again :
          (found : Found) → Ok found ≡ read_of kinds bytes place → (answer : Result Answer Refusal) → answer ≡ answered_by rules b found.posting →
          (next : B) → next ≡ left_by rules b found.posting →
          Prints (record_line number found.posting.kind answer) 82 page after → Kept whole start next found.place (number + 1) after
      again found e answer a next n p = go k.more refl
        where
          go : (more : ℕ) → k.more ≡ more → Kept whole start next found.place (number + 1) after
          go zero q = absurd (omega (arith, k.enough))
          go (suc more) q =
              let line = record_line number found.posting.kind answer in
              let on = read_on kinds bytes place e in
              record {
                before = k.before ++ line;
                more = more;
                stored = prints_as (prints_then k.stored p) refl (omega (arith, on.0));
                to_come =
                    append_assoc k.before line (lines more next found.place (number + 1))
                    ∙ ap (λ (l : List ℕ). k.before ++ l) (sym (line_read more b place number h e answer a next n))
                    ∙ ap (λ (m : ℕ). k.before ++ lines m b place number) (sym q) ∙ k.to_come;
                enough = omega (arith, on.0, k.enough);
                within = on.1;
                counted = omega (arith, on.0, k.counted);
              }

pub enough_steps : {B : Type 0} (kinds : Book) (rules : Rules B) → EnoughSteps kinds rules
enough_steps = same_lines

-- What an input opens, by how it begins, and room enough for its journal. Assumes nothing.
use mathlib.Core.Path.{◌≡◌, refl, sym, ap, ◌∙◌, subst}
use mathlib.Core.Bool.{Bool, true, false, cond, ◌||◌, true≢false}
use mathlib.Core.List.{List, [], ◌∷◌}
use Prim.Native.Nat.{ℕ, ◌+◌, ◌*◌, ◌<◌, ◌≤◌}
use native.Mathlib.Omega.{arith}
use lib.Dec.{ltb}
use lib.ListN.{length}
use borrow.Author.Tests.{eqb-false, ltb-false, lt-ltb, le-ltb, eq-eqb, ne_eqb}
use Rattle.std.specs.Prelude.{Some, Result, Ok, Err, is_err}
use Rattle.std.specs.Result.{result_unwrap_or}
use Rattle.std.proofs.lemmas.Option.{none-some, same_Some}
use Rattle.std.proofs.lemmas.Bool.{ltb-true}
use Rattle.refusals.specs.Rows.{row, refusal_by, by_table}
use Rattle.refusals.specs.declared.Refusal.{Refusal}
use Rattle.refusals.specs.declared.Refusal.TheVariants.{NoRecord, OutOfRange}
use Rattle.refusals.proofs.TableLaws.{at_row, past_row, accepted, gives_asked, gives_refusal, row_refuses, table_accepts, table_refuses, none_holds}
use lib.IntN.{pos}
use Rattle.steam_rules.specs.declared.SteamBook.{SteamBook}
use Rattle.steam_rules.specs.declared.Mmbtu.{Mmbtu}
use Rattle.steam_rules.specs.Book.{mmbtu, four}
use Rattle.electric_rules.specs.declared.ElectricBook.{ElectricBook}
use Rattle.journal.specs.Lines.{opening_refused}
use Rattle.journal.specs.Journal.{journal_rows, journal_of, opens_steam, bad_opening, bad_quarters, bad_division, first_byte, quarters_in, printed, room_of, opened_book, opened_by}
use Rattle.journal.specs.Steps.{Prints}
use Rattle.journal.specs.declared.page.Page.{Page}
use Rattle.journal.proofs.Storing.{prints_as}
use Rattle.journal.specs.declared.opening.FreshBook.{FreshBook}
use Rattle.journal.specs.declared.opening.FreshBook.TheVariants.{Electric, Steam}
use Rattle.electric_rules.specs.Book as electric
use Rattle.steam_rules.specs.Opening as steam
use Rattle.steam_rules.specs.Book as steam_book

room_some : (n : ℕ) → 82 ≤ room_of n
unfolding room_of
room_some n = go (ltb 65536 n)
  where
    go : (t : Bool) → 82 ≤ cond t 82 (41 * n + 82)
    go true = omega arith
    go false = omega arith

room_within : (n : ℕ) → n ≤ 65536 → room_of n ≡ 41 * n + 82
unfolding room_of
room_within n h = simp (le-ltb 65536 n h)

-- ---- what is printed, by what is opened

journal_opened : (bytes : List ℕ) {opened : Result FreshBook Refusal} → opened ≡ opened_by bytes → printed bytes opened ≡ journal_of bytes
unfolding journal_of
journal_opened bytes e = ap (printed bytes) e

-- ---- the quarters behind byte 02

abbrev quarters_by : List ℕ → Result (List Mmbtu) Refusal
quarters_by bytes = by_table (row OutOfRange (ltb (length bytes) 33) ∷ []) (Ok (quarters_in bytes)) Err

pub quarters_given : (bytes : List ℕ) {quarters : List Mmbtu} → Ok quarters ≡ quarters_by bytes → (quarters ≡ quarters_in bytes) × (33 ≤ length bytes)
quarters_given bytes e =
    let given = table_accepts _ _ e in
    (given.1, ltb-false (length bytes) 33 (none_holds _ given.0).0)

pub quarters_refused : (bytes : List ℕ) {refusal : Refusal} → Err refusal ≡ quarters_by bytes → (refusal ≡ OutOfRange) × (length bytes < 33)
unfolding refusal_by
quarters_refused bytes {refusal} e = go (ltb (length bytes) 33) refl (table_refuses _ _ e)
  where
    go : (t : Bool) → ltb (length bytes) 33 ≡ t → refusal_by (row OutOfRange t ∷ []) ≡ Some refusal → (refusal ≡ OutOfRange) × (length bytes < 33)
    go true h e = (sym (same_Some OutOfRange refusal e), ltb-true (length bytes) 33 h)
    go false h e = absurd (none-some refusal e)

-- ---- what is opened, by the input's bytes

module _ (bytes : List ℕ) where
  pub too_long : 65536 < length bytes → Err OutOfRange ≡ opened_by bytes
  unfolding opened_by
  too_long h = sym (gives_refusal (journal_rows bytes) (Ok (opened_book bytes)) Err OutOfRange (at_row OutOfRange _ (lt-ltb 65536 (length bytes) h)))

  module _ (within : length bytes ≤ 65536) where
    pub empty : length bytes ≡ 0 → Err NoRecord ≡ opened_by bytes
    unfolding opened_by
    empty h =
        sym
        (gives_refusal (journal_rows bytes) (Ok (opened_book bytes)) Err NoRecord
        (past_row OutOfRange _ (le-ltb 65536 (length bytes) within) ∙ at_row NoRecord _ (eq-eqb (length bytes) 0 h)))

    module _ (some : length bytes ≡ 0 → ⊥) where
      bad : bad_opening bytes ≡ true → Err OutOfRange ≡ opened_by bytes
      unfolding opened_by
      bad h =
          sym
          (gives_refusal (journal_rows bytes) (Ok (opened_book bytes)) Err OutOfRange
          (past_row OutOfRange _ (le-ltb 65536 (length bytes) within) ∙ past_row NoRecord _ (ne_eqb (length bytes) 0 some) ∙ at_row OutOfRange _ h))

      good : bad_opening bytes ≡ false → Ok (opened_book bytes) ≡ opened_by bytes
      unfolding opened_by
      good h = sym (gives_asked (journal_rows bytes) (Ok (opened_book bytes)) Err (accepted (journal_rows bytes) (le-ltb 65536 (length bytes) within, (ne_eqb (length bytes) 0 some, (h, tt)))))

      -- ---- byte 02

      module _ (is_steam : first_byte bytes ≡ 2) where
        pub cut_short : length bytes < 33 → Err OutOfRange ≡ opened_by bytes
        unfolding bad_quarters
        cut_short h = bad (ap (λ (t : Bool). cond t (bad_quarters bytes) (bad_division bytes)) (eq-eqb (first_byte bytes) 2 is_steam) ∙ ap (λ (t : Bool). t || is_err (steam.opened_of (quarters_in bytes))) (lt-ltb (length bytes) 33 h))

        pub steam_refused : (refusal : Refusal) → 33 ≤ length bytes → steam.opened_of (quarters_in bytes) ≡ Err refusal → Err refusal ≡ opened_by bytes
        unfolding bad_quarters steam.opened_of
        steam_refused refusal h e =
            ap Err (row_refuses OutOfRange (steam_book.fresh_of (quarters_in bytes)) _ e)
            ∙ bad (ap (λ (t : Bool). cond t (bad_quarters bytes) (bad_division bytes)) (eq-eqb (first_byte bytes) 2 is_steam) ∙ (λ i. le-ltb (length bytes) 33 h i || is_err (e i)))

        pub steam_opens : (fresh : SteamBook) → 33 ≤ length bytes → steam.opened_of (quarters_in bytes) ≡ Ok fresh → Ok (Steam fresh) ≡ opened_by bytes
        unfolding bad_quarters
        steam_opens fresh h e =
            (λ i. Ok (Steam (result_unwrap_or (sym e i) (steam_book.fresh_of (four (mmbtu (pos 0)))))))
            ∙ ap (λ (t : Bool). Ok (cond t (Steam (steam.handed_back (quarters_in bytes))) (Electric (electric.handed_back (first_byte bytes))))) (sym (eq-eqb (first_byte bytes) 2 is_steam))
            ∙ good (ap (λ (t : Bool). cond t (bad_quarters bytes) (bad_division bytes)) (eq-eqb (first_byte bytes) 2 is_steam) ∙ (λ i. le-ltb (length bytes) 33 h i || is_err (e i)))

      -- ---- any other byte

      module _ (other : first_byte bytes ≡ 2 → ⊥) where
        pub electric_refused : (refusal : Refusal) → electric.opened_of (first_byte bytes) ≡ Err refusal → Err refusal ≡ opened_by bytes
        unfolding bad_division electric.opened_of
        electric_refused refusal e =
            ap Err (row_refuses OutOfRange (electric.fresh_of (first_byte bytes)) _ e)
            ∙ bad (ap (λ (t : Bool). cond t (bad_quarters bytes) (bad_division bytes)) (ne_eqb (first_byte bytes) 2 other) ∙ ap is_err e)

        pub electric_opens : (fresh : ElectricBook) → electric.opened_of (first_byte bytes) ≡ Ok fresh → Ok (Electric fresh) ≡ opened_by bytes
        unfolding bad_division
        electric_opens fresh e =
            (λ i. Ok (Electric (result_unwrap_or (sym e i) (electric.fresh_of 0))))
            ∙ ap (λ (t : Bool). Ok (cond t (Steam (steam.handed_back (quarters_in bytes))) (Electric (electric.handed_back (first_byte bytes))))) (sym (ne_eqb (first_byte bytes) 2 other))
            ∙ good (ap (λ (t : Bool). cond t (bad_quarters bytes) (bad_division bytes)) (ne_eqb (first_byte bytes) 2 other) ∙ ap is_err e)

-- by these the check finds most of what `opened` has to show
pub ruleset openings = (too_long, empty, cut_short, steam_opens, electric_opens, quarters_given, quarters_refused)

-- ---- what an opened book tells of the input, and of its journal

-- where the records begin
abbrev pub start_of : FreshBook → ℕ
start_of (Electric fresh) = 1
start_of (Steam fresh) = 33

pub opened_there : (bytes : List ℕ) {book : FreshBook} → Ok book ≡ opened_by bytes → (start_of book ≤ length bytes) × (length bytes ≤ 65536)
unfolding opened_by bad_quarters
opened_there bytes {book} e =
    let given = table_accepts (journal_rows bytes) (opened_book bytes) e in
    let none = none_holds (journal_rows bytes) given.0 in
    let some = eqb-false (length bytes) 0 none.1.0 in
    (subst (λ (b : FreshBook). start_of b ≤ length bytes) (sym given.1) (by_byte (opens_steam bytes) (omega arith) none.1.1.0), ltb-false 65536 (length bytes) none.0)
  where
    quarters_there : (t u : Bool) → ltb (length bytes) 33 ≡ t → t || u ≡ false → 33 ≤ length bytes
    quarters_there true u h e = absurd (true≢false e)
    quarters_there false u h e = ltb-false (length bytes) 33 h

    by_byte :
        (t : Bool) → 1 ≤ length bytes → cond t (bad_quarters bytes) (bad_division bytes) ≡ false →
        start_of (cond t (Steam (steam.handed_back (quarters_in bytes))) (Electric (electric.handed_back (first_byte bytes)))) ≤ length bytes
    by_byte true some bad = quarters_there (ltb (length bytes) 33) _ refl bad
    by_byte false some bad = some

-- the lines of the records behind the opening are the journal, and there is room enough for them
pub records_printed :
    (bytes : List ℕ) {book : FreshBook} {old new : Page} → Ok book ≡ opened_by bytes →
    Prints (printed bytes (Ok book)) (41 * length bytes + 82) old new → Prints (journal_of bytes) (room_of (length bytes)) old new
records_printed bytes e p = prints_as p (journal_opened bytes e) (omega (arith, room_within (length bytes) (opened_there bytes e).1))

-- likewise what is printed for none
pub refusal_printed :
    (bytes : List ℕ) {refusal : Refusal} {old new : Page} → Err refusal ≡ opened_by bytes →
    Prints (opening_refused refusal) 82 old new → Prints (journal_of bytes) (room_of (length bytes)) old new
refusal_printed bytes e p = prints_as p (journal_opened bytes e) (room_some (length bytes))

-- Texts set into blanks, one behind the other, make a line, and lines with their line feeds the rows. Assumes nothing.
use Rattle.std.specs.Prelude.{◌≡◌, refl, codes, List, [], ◌∷◌, ◌++◌, ℕ, ◌+◌, ◌*◌, ◌-◌, ◌≤◌, length, set, take, drop}
use Rattle.std.proofs.Common.{sym, ap, ◌∙◌, arith}
use Rattle.std.proofs.lemmas.List.{length-append, length-take, length-replicate, take-replicate, drop-replicate, replicate-append-replicate, append-nil, append_assoc}
use Rattle.std.proofs.lemmas.List.Edits.{sets, sets-eq}
use lib.Seq.{take-append-add, drop-append-add}
use Rattle.refusals.specs.Stores.{sets_append}
use Rattle.sheet_rows.specs.Cells.{cell_text}
use Rattle.sheet_rows.specs.Rows.{blanks, set_left, set_right, Row, row_text, rows_text}

length_blanks : (count : ℕ) → length (blanks count) ≡ count
length_blanks count = length-replicate {A = ℕ} count 32

-- ---- one text set into blanks, with a gap before it

set_in :
    (done text : List ℕ) (gap n at : ℕ) → at ≡ length done + gap → gap + length text ≤ n →
    sets (done ++ blanks n) at text ≡ done ++ blanks gap ++ text ++ blanks (n - (gap + length text))
set_in done text gap n at e h =
    let l = done ++ blanks n in
    let fits : at + length text ≤ length l = omega (arith, e, length-append done (blanks n), length_blanks n) in
    let next : at + length text ≡ length done + (gap + length text) = omega (arith, e) in
    sets-eq text l at fits
    ∙ (λ i. take (e i) l ++ text ++ drop (next i) l)
    ∙ (λ i. take-append-add done (blanks n) gap i ++ text ++ drop-append-add done (blanks n) (gap + length text) i)
    ∙ (λ i. (done ++ take-replicate {X = ℕ} gap n 32 (omega arith) i) ++ text ++ drop-replicate {X = ℕ} (gap + length text) n 32 i)

-- a text that is set left in a field
set_first :
    (done text : List ℕ) (width n m at : ℕ) → at ≡ length done → width + m ≡ n →
    sets (done ++ blanks n) at (take width text) ≡ done ++ set_left width text ++ blanks m
unfolding set_left
set_first done text width n m at e h =
    let cut = length-take width text in
    let gap : n - (0 + length (take width text)) ≡ width - length text + m = omega (arith, cut) in
    set_in done (take width text) 0 n at (omega arith) (omega (arith, cut))
    ∙ (λ i. append-nil done i ++ take width text ++ blanks (gap i))
    ∙ ap (λ (l : List ℕ). done ++ take width text ++ l) (sym (replicate-append-replicate {A = ℕ} (width - length text) m 32))
    ∙ sym (append_assoc (done ++ take width text) (blanks (width - length text)) (blanks m))
    ∙ ap (λ (l : List ℕ). l ++ blanks m) (append_assoc done (take width text) (blanks (width - length text)))

-- a text that is set right in a field of fifteen
pub set_last :
    (done text : List ℕ) (n m end : ℕ) → length done + 15 ≡ end → 15 + m ≡ n →
    sets (done ++ blanks n) (end - length (take 15 text)) (take 15 text) ≡ done ++ set_right 15 text ++ blanks m
unfolding set_right
set_last done text n m end e h =
    let cut = length-take 15 text in
    let rest : n - (15 - length text + length (take 15 text)) ≡ m = omega (arith, cut) in
    set_in done (take 15 text) (15 - length text) n (end - length (take 15 text)) (omega (arith, cut)) (omega (arith, cut))
    ∙ (λ i. append_assoc done (blanks (15 - length text)) (take 15 text) i ++ blanks (rest i))

pub length_right : (text : List ℕ) → length (set_right 15 text) ≡ 15
unfolding set_right
length_right text = omega (arith, length-append (blanks (15 - length text)) (take 15 text), length_blanks (15 - length text), length-take 15 text)

pub length_left : (width : ℕ) (text : List ℕ) → length (set_left width text) ≡ width
unfolding set_left
length_left width text = omega (arith, length-append (take width text) (blanks (width - length text)), length_blanks (width - length text), length-take width text)

-- ---- the row

abbrev right_of : List ℕ → ℕ → List ℕ → List ℕ
right_of text end l = sets l (end - length (take 15 text)) (take 15 text)

module _ (r : Row) where
  abbrev head : List ℕ
  head = set_left 4 r.number ++ set_left 31 r.label

  abbrev totalled : List ℕ
  totalled = head ++ set_right 15 (cell_text r.total)

  abbrev levelled : List ℕ
  levelled = totalled ++ set_right 15 (cell_text r.secondary)

  length_head : length head ≡ 35
  length_head = omega (arith, length-append (set_left 4 r.number) (set_left 31 r.label), length_left 4 r.number, length_left 31 r.label)

  length_totalled : length totalled ≡ 50
  length_totalled = omega (arith, length_head, length-append head (set_right 15 (cell_text r.total)), length_right (cell_text r.total))

  length_levelled : length levelled ≡ 65
  length_levelled = omega (arith, length_totalled, length-append totalled (set_right 15 (cell_text r.secondary)), length_right (cell_text r.secondary))

  pub length_row : length (row_text r) ≡ 80
  unfolding row_text
  length_row = omega (arith, length_levelled, length-append levelled (set_right 15 (cell_text r.primary)), length_right (cell_text r.primary))

  -- the steps by which it is laid out
  pub row_laid :
      {a b c d laid : List ℕ} → a ≡ sets (blanks 80) 0 (take 4 r.number) → b ≡ sets a 4 (take 31 r.label) →
      c ≡ sets b (50 - length (take 15 (cell_text r.total))) (take 15 (cell_text r.total)) →
      d ≡ sets c (65 - length (take 15 (cell_text r.secondary))) (take 15 (cell_text r.secondary)) →
      laid ≡ sets d (80 - length (take 15 (cell_text r.primary))) (take 15 (cell_text r.primary)) → laid ≡ row_text r
  unfolding row_text
  row_laid ea eb ec ed el =
      let fa = ea ∙ set_first [] r.number 4 80 76 0 (omega arith) (omega arith) in
      let fb = eb ∙ ap (λ (l : List ℕ). sets l 4 (take 31 r.label)) fa ∙ set_first (set_left 4 r.number) r.label 31 76 45 4 (omega (arith, length_left 4 r.number)) (omega arith) in
      let fc = ec ∙ ap (right_of (cell_text r.total) 50) fb ∙ set_last head (cell_text r.total) 45 30 50 (omega (arith, length_head)) (omega arith) in
      let fd = ed ∙ ap (right_of (cell_text r.secondary) 65) fc ∙ set_last totalled (cell_text r.secondary) 30 15 65 (omega (arith, length_totalled)) (omega arith) in
      el ∙ ap (right_of (cell_text r.primary) 80) fd ∙ set_last levelled (cell_text r.primary) 15 0 80 (omega (arith, length_levelled)) (omega arith)
      ∙ append-nil (levelled ++ set_right 15 (cell_text r.primary))

-- ---- rows

pub length_rows : (rows : List Row) → length (rows_text rows) ≡ 81 * length rows
unfolding rows_text
length_rows [] = refl
length_rows (r ∷ rows) =
    omega (arith, length_row r, length-append (row_text r) (codes "\n"), length-append (row_text r ++ codes "\n") (rows_text rows), length_rows rows)

-- a row, its line feed and the rows below, stored one behind the other
pub rows_stored :
    (r : Row) (rows : List Row) (page : List ℕ) (at : ℕ) {first all : List ℕ} → first ≡ sets page at (row_text r) →
    all ≡ sets (set first (at + 80) 10) (at + 81) (rows_text rows) → all ≡ sets page at (rows_text (r ∷ rows))
unfolding rows_text
rows_stored r rows page at {first} e f =
    let end : at + 80 ≡ at + length (row_text r) = omega (arith, length_row r) in
    let next : at + 81 ≡ at + length (row_text r ++ codes "\n") = omega (arith, length_row r, length-append (row_text r) (codes "\n")) in
    let fed : set first (at + 80) 10 ≡ sets page at (row_text r ++ codes "\n") = (λ i. set (e i) (end i) 10) ∙ sym (sets_append page at (row_text r) (codes "\n")) in
    f ∙ (λ i. sets (fed i) (next i) (rows_text rows)) ∙ sym (sets_append page at (row_text r ++ codes "\n") (rows_text rows))

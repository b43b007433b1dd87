-- The text of a cell, stored at the front of a buffer. Assumes nothing.
use Rattle.std.specs.Prelude.{◌≡◌, refl, codes, List, ◌++◌, ℕ, ◌+◌, ◌<◌, ◌≤◌, length, set, take, drop, min}
use Rattle.std.proofs.Common.{sym, ap, ◌∙◌, arith}
use Rattle.std.proofs.lemmas.List.{length-append, length-take, take-take, take-append-drop}
use Rattle.std.proofs.lemmas.List.Edits.{sets}
use lib.Seq.{take-append_seam}
use Rattle.refusals.specs.Stores.{sets_append}
use Rattle.amounts.specs.Text.{text_left}
use Rattle.amounts.proofs.Texts.{stored, left_front}

-- a text that was stored, with its length, is that of the cell
pub stored_as :
    (buffer : List ℕ) {text cell after : List ℕ} {count most : ℕ} → text ≡ cell → (count ≡ length text) × (count ≤ most) × (after ≡ text_left text buffer) → most ≤ 25 →
    (count ≡ length cell) × (count ≤ 25) × (after ≡ text_left cell buffer)
stored_as buffer e p h = (p.0 ∙ ap length e, omega (arith, p.1), p.2 ∙ ap (λ (text : List ℕ). text_left text buffer) e)

-- a percent sign behind it
pub percent_behind :
    (buffer text : List ℕ) {after whole : List ℕ} {count next most : ℕ} → (count ≡ length text) × (count ≤ most) × (after ≡ text_left text buffer) → most < length buffer →
    (next ≡ count + 1) × (whole ≡ set after count 37) → (next ≡ length (text ++ codes "%")) × (next ≤ most + 1) × (whole ≡ text_left (text ++ codes "%") buffer)
percent_behind buffer text {after} {whole} {count} p room q =
    let long = length-append text (codes "%") in
    let is : after ≡ sets buffer 0 text = p.2 ∙ sym (stored text buffer (sets buffer 0 text) (omega (arith, p.0, p.1)) refl) in
    let at : count ≡ 0 + length text = omega (arith, p.0) in (
      omega (arith, p.0, q.0, long),
      omega (arith, p.1, q.0),
      stored (text ++ codes "%") buffer whole (omega (arith, p.0, p.1, long)) (q.1 ∙ (λ i. set (is i) (at i) 37) ∙ sym (sets_append buffer 0 text (codes "%"))),
    )

-- what is taken of it from the front, at most fifteen
pub front_taken :
    (text buffer : List ℕ) {after : List ℕ} {count cut : ℕ} → count ≡ length text → after ≡ text_left text buffer → count ≤ length buffer → cut ≡ min count 15 →
    (cut ≡ length (take 15 text)) × (take cut after ≡ take 15 text)
front_taken text buffer {after} {count} {cut} e left room f =
    let whole : take count after ≡ text = ap (take count) left ∙ left_front text buffer count e room in
    let short : cut ≡ length (take 15 text) = omega (arith, length-take 15 text) in
    let all : take cut text ≡ take 15 text =
    (λ i. take (short i) (sym (take-append-drop 15 text) i)) ∙ take-append_seam (take 15 text) (drop 15 text) in
    (short, sym (take-take cut count after (omega arith)) ∙ ap (take cut) whole ∙ all)

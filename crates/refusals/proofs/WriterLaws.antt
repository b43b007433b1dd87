-- Laws of a writer by its table: what code has to show of its answer and of the buffer that it leaves. Assumes nothing.
use Rattle.std.specs.Prelude.{◌≡◌, List, ◌++◌, ℕ, ◌≤◌, length, drop, Some, None, Result, Ok, Err}
use Rattle.std.proofs.Common.{sym, ap, ◌∙◌}
use Rattle.std.proofs.lemmas.List.Edits.{sets}
use Rattle.refusals.specs.Rows.{Row, refusal_by}
use Rattle.refusals.proofs.TableLaws.{gives_asked, gives_refusal}
use Rattle.refusals.specs.Stores.{sets_front}
use Rattle.refusals.specs.declared.Refusal.{Refusal}
use Rattle.refusals.specs.Writer.{buffer_left, written_by}

pub writer_refuses : (rows : List Row) (bytes buffer : List ℕ) (refusal : Refusal) → refusal_by rows ≡ Some refusal → (Err refusal ≡ written_by rows bytes) × (buffer ≡ buffer_left rows bytes buffer)
writer_refuses rows bytes buffer refusal e = (sym (gives_refusal rows (Ok (length bytes)) Err refusal e), sym (gives_refusal rows _ (λ (r : Refusal). buffer) refusal e))

pub writer_accepts : (rows : List Row) (bytes buffer after : List ℕ) (n : ℕ) → refusal_by rows ≡ None → length bytes ≤ length buffer → n ≡ length bytes → after ≡ sets buffer 0 bytes → (Ok n ≡ written_by rows bytes) × (after ≡ buffer_left rows bytes buffer)
writer_accepts rows bytes buffer after n e h l s = (
  ap {B = Result ℕ Refusal} Ok l ∙ sym (gives_asked rows (Ok (length bytes)) Err e),
  s ∙ sets_front buffer bytes h ∙ sym (gives_asked rows (bytes ++ drop (length bytes) buffer) (λ (r : Refusal). buffer) e),
)

-- `put` stores the text where it is to stand. Assumes nothing.
use Rattle.std.proofs.Common.{sym, ◌∙◌, arith, append_assoc, ◌+◌, ◌++◌, length, take, drop}
use Rattle.std.proofs.lemmas.List.Edits.{sets-eq}
use borrow.Rule.Slice.PartMut.{Post-is}
use Rattle.sheet_rows.proofs.put.Goals as goal

pub returns : goal.returns
returns c =
    let l = c.args.bytes.now in
    let text = c.args.text.now in
    let at = c.args.at in
    (λ i. take at l ++ (c.copy_from_slice.ensures.after i ++ Post-is at (at + length text) l (omega arith) i))
    ∙ sym (append_assoc (take at l) text (drop (at + length text) l))
    ∙ sym (sets-eq text l at c.requires)

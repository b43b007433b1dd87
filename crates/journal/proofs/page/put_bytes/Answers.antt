-- `page::put_bytes` copies the word where it fits. Assumes nothing.
use mathlib.Core.Path.{refl, sym, ap, ◌∙◌}
use mathlib.Core.List.{◌++◌}
use lib.ListN.{length, drop}
use borrow.Author.Rules.{rules}
use Rattle.refusals.specs.Stores.{sets_front}
use Rattle.amounts.proofs.Texts.{kept, stored}
use Rattle.journal.proofs.page.put_bytes.Goals as goal

pub returns-then-word-part : goal.returns-then-word-part
returns-then-word-part c =
    let word = c.args.word.now in
    let part = c.args.part.now in
    let copied = ap (λ (l : _). l ++ drop (length word) part) c.copy_from_slice.ensures.after in
    (refl, stored word part _ (search rules) (copied ∙ sym (sets_front part word (search rules))))

pub returns-else-word-part : goal.returns-else-word-part
returns-else-word-part c =
    (refl, kept _ _ (search rules))

-- `Page::put_records` prints the lines of the records, turn by turn. Assumes nothing.
use mathlib.Core.Path.{sym, ap, ◌∙◌}
use native.Mathlib.Omega.{arith}
use Rattle.journal.proofs.Running.{read_on, ended, stopped, again}
use Rattle.postings.specs.declared.Book.{Book}
use Rattle.records.specs.Records.{read_of}
use Rattle.journal.proofs.page.Page.put_records.Goals as goal

pub loop-place-smaller : goal.loop-place-smaller
loop-place-smaller g c =
    let on = read_on _ _ _ (sym c.in-Ok.is ∙ c.read_record.ensures) in
    omega (arith, on.0, c.loop-place-test.true)

pub loop-place-preserved : goal.loop-place-preserved
loop-place-preserved g c =
    again _ _ _ c.loop-place.invariant c.loop-place-test.true _ c.in-Ok.found
    (sym c.in-Ok.is ∙ c.read_record.ensures ∙ ap (λ (kinds : Book). read_of kinds c.args.input.now c.loop-place.place) c.KINDS.ensures)
    _ c.take-answer.ensures.0 _ c.take-answer.ensures.1 c.put_line.ensures

pub returns-in-Err : goal.returns-in-Err
returns-in-Err g c =
    stopped _ _ _ c.loop-place.invariant c.loop-place-test.true _ c.in-Err.refusal
    (sym c.in-Err.is ∙ c.read_record.ensures ∙ ap (λ (kinds : Book). read_of kinds c.args.input.now c.loop-place.place) c.KINDS.ensures)
    c.put_line-in-Err.ensures

pub returns : goal.returns
returns g c = ended _ _ _ c.loop-place.invariant c.loop-place-test.false

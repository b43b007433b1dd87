-- `Ledger::post` gives what was taken: the answer and the book that is left, or the refusal. Assumes nothing.
use Rattle.std.specs.Prelude.{◌≡◌, Err}
use Rattle.std.proofs.Common.{rules as common, ◌∙◌}
use Rattle.riders.proofs.PostLaws.{given_taken}
use Rattle.ledger.proofs.Ledger.post.Goals as goal

pub returns-in_err-answer : goal.returns-in_err-answer
returns-in_err-answer g c =
    let refused : c.from_residual.result ≡ Err c.in_err-answer.field-0.0 = search common in
    refused ∙ given_taken g.Self.Ledger.rules c.args.self c.args.posting {answer = Err c.in_err-answer.field-0.0} c.in_err-answer.ensures

pub returns : goal.returns
returns g c = given_taken g.Self.Ledger.rules c.args.self c.args.posting c.in_ok-answer.ensures

-- The reply to a posting that was taken is the reply to what the rules give. Assumes nothing.
use mathlib.Core.Path.{◌∙◌}
use Rattle.riders.proofs.PostLaws.{said_of_given}
use Rattle.electric_rules.specs.Refusals.{rules}
use Rattle.host.specs.Replies.{electric_reply_of}
use Rattle.host.proofs.electric_book.neapscroll_electric_post.Goals as goal

pub returns : goal.returns
returns c = c.reply.ensures ∙ said_of_given rules c.args.book c.args.posting electric_reply_of c.take-answer.ensures

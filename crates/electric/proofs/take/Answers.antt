-- `electric::take` answers and leaves what the rules say: a row before the next book refuses, or the limits of the next book decide. Assumes
-- nothing.
use Rattle.std.specs.Prelude.{◌≡◌, refl, Err, true, false}
use Rattle.std.proofs.Common.{rules as common, ◌∙◌}
use Rattle.refusals.specs.Rows.{before, number_of}
use Rattle.postings.specs.Ranged.{Ranged}
use Rattle.postings.specs.declared.kinds.Kind.{Kind}
use Rattle.postings.specs.declared.Book.TheVariants.{Electric}
use Rattle.riders.specs.Months.{forbidden}
use Rattle.riders.specs.Posts.{allowed}
use Rattle.riders.proofs.PostLaws as posts
use Rattle.electric_rules.specs.Calendar.{settles}
use Rattle.electric_rules.specs.Limits.{in_limits}
use Rattle.electric_rules.specs.Next.{next_at, answer_at}
use Rattle.electric_rules.specs.Refusals.{rules}
use Rattle.electric.proofs.take.Goals as goal

pub returns-in_err-kind : goal.returns-in_err-kind
unfolding before number_of
returns-in_err-kind c =
    let refused : c.from_residual.result ≡ Err c.in_err-kind.field-0.0 = search common in
    let early = posts.refused_early rules c.args.book.now c.args.posting in_limits refl c.in_err-kind.ensures in
    (refused ∙ early.0, early.1)

pub effect-requires : goal.effect-requires
unfolding before number_of
effect-requires c =
    let b = c.args.book.now in
    let p = c.args.posting in
    posts.known rules b p in_limits refl c.in_ok-kind.ensures (λ (kind : Kind). (in_limits b ≡ true) × Ranged Electric kind p × (forbidden kind (settles b.month) b.settled ≡ false)) (allowed Electric in_limits (settles b.month) b.settled b p _)

pub returns : goal.returns
unfolding before number_of
returns c =
    let b = c.args.book.now in
    let p = c.args.posting in
    posts.decided rules b p in_limits refl c.in_ok-kind.ensures (λ (kind : Kind). answer_at kind b p) (λ (kind : Kind). next_at kind b p) (refl, refl) c.effect.ensures

-- `amounts::text::show` hands on the text, which is ASCII. Assumes nothing.
use Rattle.std.proofs.Common.{◌≡◌, ◌∙◌, refl, sym, ap, subst, take, Result, Ok, Err, IsOk, MatchResult}
use Rattle.std.specs.Str.{IsUtf8}
use Rattle.std.proofs.lemmas.Str.{IsUtf8-from_ascii}
use Rattle.amounts.proofs.Texts.{left_front, ascii_text}
use Rattle.amounts.proofs.text.show.Given.{Over}
use Rattle.amounts.proofs.text.show.Goals as goal
use Rattle.amounts.proofs.text.show.Goals.{After-from_utf8}

is_ok : {A E : Type 0} (r : Result A E) (P : A → Type 0) (Q : E → Type 0) → MatchResult r P Q → ((e : E) → Q e → ⊥) → IsOk r
is_ok (Ok x) P Q h never = refl
is_ok (Err e) P Q h never = absurd (never e h)

module _ (g : Over) (c : After-from_utf8 g) where
  front : take c.put-length.result c.put-length.new.buffer ≡ g.A.Amount.text c.args.amount
  front = let put = c.put-length.ensures in ap (take c.put-length.result) put.2 ∙ left_front _ _ _ put.0 put.1

  is_text : IsUtf8 (take c.put-length.result c.put-length.new.buffer)
  is_text = subst IsUtf8 (sym (front ∙ g.met.A.Amount.text_by_number c.args.amount)) (IsUtf8-from_ascii _ (ascii_text g.A.Amount.PLACES (g.A.Amount.number c.args.amount)))

pub unwrap-requires : goal.unwrap-requires
unwrap-requires g c = is_ok _ _ _ c.from_utf8.ensures.cases (λ e never. never.0 (is_text g (goal.at.unwrap-requires g c).After-from_utf8))

pub returns : goal.returns
returns g c =
    let same = (rw c.unwrap.ensures at c.from_utf8.ensures.cases).0 ∙ front g (goal.at.returns g c).After-from_utf8 in
    rw (← same) c.pad.ensures.writes

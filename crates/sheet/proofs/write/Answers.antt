-- `write` refuses as the settlement does, else writes its sheet. Assumes nothing.
use Rattle.std.proofs.Common.{◌≡◌, ◌∙◌, sym, ap, subst, rules as common, true, ℕ, List, Err, None, map}
use Rattle.refusals.specs.Rows.{refusal_by}
use Rattle.refusals.specs.declared.Refusal.{Refusal}
use Rattle.refusals.proofs.TableLaws.{gives_asked, table_accepts, table_refuses}
use Rattle.amounts.specs.Text.{text_written, text_left}
use Rattle.riders.specs.Rules.{answered_by, left_by}
use Rattle.electric_rules.specs.Rates.{rates_in_range}
use Rattle.electric_rules.specs.Next.{next_of, answer_of}
use Rattle.electric_rules.specs.Ranges.{BookWithin}
use Rattle.electric_rules.specs.Refusals.{rules, rows_of}
use Rattle.electric_rules.specs.Sizes.{rates_within, division_rates}
use Rattle.sheet_rows.specs.Rows.{shown, rows_text}
use Rattle.sheet.specs.Sheet.{sheet_by, settlement_of, sheet_text}
use Rattle.sheet.proofs.Accepted.{accepted}
use Rattle.sheet.proofs.Writing.{refused, answered, left}
use Rattle.sheet.proofs.write.Goals as goal
use Rattle.sheet.proofs.write.Goals.{After-take}

module _ (c : After-take) where
  answer_is : c.take.result ≡ answered_by rules c.args.book (settlement_of c.args.estimates)
  answer_is = c.take.ensures.0 ∙ ap (answered_by rules c.args.book) c.settlement.ensures

  book_is : refusal_by (rows_of c.args.book (settlement_of c.args.estimates)) ≡ None → c.take.new.book ≡ next_of c.args.book (settlement_of c.args.estimates)
  unfolding left_by
  book_is k =
      let b = c.args.book in
      let p = settlement_of c.args.estimates in
      c.take.ensures.1 ∙ ap (left_by rules b) c.settlement.ensures ∙ gives_asked (rows_of b p) (next_of b p) (λ (refusal : Refusal). b) k

pub returns-in_err-take : goal.returns-in_err-take
unfolding answered_by
returns-in_err-take c =
    let d = (goal.at.returns-in_err-take c).After-take in
    let b = c.args.book in
    let p = settlement_of c.args.estimates in
    let e : c.from_residual.result ≡ Err c.in_err-take.field-0.0 = search common in
    let out = refused b c.args.estimates c.args.page.now (table_refuses (rows_of b p) (answer_of b p) (sym c.in_err-take.was ∙ answer_is d)) in
    (e ∙ out.0, out.1)

pub invariant_of-filing : goal.invariant_of-filing
unfolding answered_by
invariant_of-filing c =
    let d = (goal.at.invariant_of-filing c).After-take in
    let b = c.args.book in
    let p = settlement_of c.args.estimates in
    let none = (table_accepts (rows_of b p) (answer_of b p) (sym c.in_ok-take.was ∙ answer_is d)).0 in
    let shows = accepted b c.args.estimates none in
    let in_range : rates_in_range c.rates_of.result ≡ true = ap rates_in_range c.rates_of.ensures ∙ division_rates b.division in
    record {
      rates_within = rates_within c.rates_of.result in_range;
      found_within = shows.found;
      settled_within = subst BookWithin (sym (book_is d none)) shows.settled;
    }

pub returns : goal.returns
unfolding answered_by sheet_text
returns c =
    let d = (goal.at.returns c).After-take in
    let b = c.args.book in
    let p = settlement_of c.args.estimates in
    let page = c.args.page.now in
    let none = (table_accepts (rows_of b p) (answer_of b p) (sym c.in_ok-take.was ∙ answer_is d)).0 in
    let sheet_is : rows_text (map shown c.rows.result) ≡ sheet_text b c.args.estimates = ap rows_text (c.rows.ensures ∙ (λ i. sheet_by (c.rates_of.ensures i) b (book_is d none i) c.args.estimates)) in (
      c.write.ensures.0 ∙ ap (λ (text : List ℕ). text_written text page) sheet_is ∙ answered b c.args.estimates page none,
      c.write.ensures.1 ∙ ap (λ (text : List ℕ). text_left text page) sheet_is ∙ left b c.args.estimates page none,
    )

-- What the code's effects are held to, by kind: the rules' own answer and next book, or row 12's refusal with the book as it was; and what a
-- month's end gives of a level.
use Rattle.std.specs.Prelude.{ℤ, Option, Result}
use Rattle.refusals.specs.Rows.{stored_or_12}
use Rattle.refusals.specs.declared.Refusal.{Refusal}
use Rattle.amounts.specs.Amounts.{cents}
use Rattle.amounts.specs.declared.Cents.{Cents}
use Rattle.postings.specs.declared.kinds.Kind.{Kind}
use Rattle.postings.specs.declared.Answer.{Answer}
use Rattle.postings.specs.declared.Posting.{Posting}
use Rattle.riders.specs.Posts.{TakenWithin}
use Rattle.electric_rules.specs.declared.EnteringRun.{EnteringRun}
use Rattle.electric_rules.specs.declared.Level.{Level}
use Rattle.electric_rules.specs.declared.ElectricBook.{ElectricBook}
use Rattle.electric_rules.specs.Levels.{accrued_level, handed_over}
use Rattle.electric_rules.specs.Next.{next_at, answer_at}
use Rattle.electric_rules.specs.Limits.{level_in_limits, in_limits}

abbrev pub TakenAt : Kind → ElectricBook → Posting → Result Answer Refusal → ElectricBook → Type 0
TakenAt kind b p result left = TakenWithin (in_limits (next_at kind b p)) (answer_at kind b p) (next_at kind b p) b result left

-- a level's interest at a month's end, and the level after it, by the run that enters; or refusal 12
abbrev pub ended_at : Option EnteringRun → ℤ → Level → Result (Cents × Level) Refusal
ended_at entering interest l =
    let next = handed_over entering (accrued_level interest l) in
    stored_or_12 (level_in_limits next) (cents interest, next)

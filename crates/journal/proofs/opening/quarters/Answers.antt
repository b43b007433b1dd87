-- `journal::opening::quarters` reads the four quarters where they are all there. Assumes nothing.
use mathlib.Core.Path.{◌≡◌, sym, ◌∙◌}
use lib.IntN.{ℤ}
use mathlib.Core.List.{List, [], ◌∷◌}
use Prim.Native.Nat.{ℕ, ◌+◌, ◌^◌, ◌<◌, ◌≤◌}
use native.Mathlib.Omega.{arith}
use lib.ListN.{length, drop, length-drop}
use mir.Syntax.{w64}
use mir.Val.{to_z, of_z, hbits}
use Rattle.std.specs.Int.Signed.{mag}
use borrow.Author.Tests.{lt-ltb, le-ltb}
use Rattle.std.specs.Prelude.{Ok, Err}
use Rattle.ints.specs.Machine.{reads}
use Rattle.refusals.specs.declared.Refusal.TheVariants.{OutOfRange}
use Rattle.refusals.proofs.TableLaws.{row_passed, row_holds}
use Rattle.records.specs.Fields.{field_of, field_or0}
use Rattle.steam_rules.specs.Book.{mmbtu}
use Rattle.journal.specs.Journal.{quarters_in}
use Rattle.journal.proofs.opening.quarters.Goals as goal

-- what is read at a place that has 8 bytes behind it is the field there
read_whole : (bytes : List ℕ) (at : ℕ) {z : ℤ} → mag z < 2 ^ hbits w64 → z ≡ field_or0 (drop at bytes) → at + 8 ≤ length bytes → to_z w64 (of_z w64 z) ≡ field_of (drop at bytes)
unfolding field_or0
read_whole bytes at small e h = reads w64 _ small ∙ e ∙ simp (le-ltb (length (drop at bytes)) 8 (omega (arith, length-drop at bytes)))

pub returns-then-input-lt33 : goal.returns-then-input-lt33
returns-then-input-lt33 c = sym (row_holds OutOfRange (Ok (quarters_in c.args.input.now)) Err (lt-ltb _ _ c.if-input-lt33.true))

pub returns : goal.returns
unfolding quarters_in
returns c =
    let bytes = c.args.input.now in
    let long = c.if-input-lt33.false in
    let q1 = read_whole bytes 1 c.read_field.type_inv c.read_field.ensures (omega (arith, long)) in
    let q2 = read_whole bytes 9 c.read_field-2.type_inv c.read_field-2.ensures (omega (arith, long)) in
    let q3 = read_whole bytes 17 c.read_field-3.type_inv c.read_field-3.ensures (omega (arith, long)) in
    let q4 = read_whole bytes 25 c.read_field-4.type_inv c.read_field-4.ensures (omega (arith, long)) in
    (λ i. Ok (mmbtu (q1 i) ∷ mmbtu (q2 i) ∷ mmbtu (q3 i) ∷ mmbtu (q4 i) ∷ []))
    ∙ sym (row_passed OutOfRange (Ok (quarters_in bytes)) Err (le-ltb _ _ long))

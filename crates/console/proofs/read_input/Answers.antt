-- What a turn read stands behind what was read before, as the file had it.
use Rattle.std.proofs.Common.{rules, ◌≡◌, ℕ, ◌+◌, ◌≤◌, List, ◌++◌, length, take, ap, sym, subst, ◌∙◌, length-take-le}
use Rattle.std.proofs.KnownBytes.{Consumes-trans}
use Rattle.std.proofs.Math.Seq.{take-append-add}
use Rattle.std.proofs.lemmas.List.{take-append-le}
use Rattle.std.specs.Io.KnownBytes.{Consumes}
use Rattle.console.proofs.read_input.Goals as goal
use borrow.Rule.Slice.PartMut.{put_mid, post_of}

behind : (a k n : ℕ) (xs ys : List ℕ) → a ≤ length xs → n ≤ length ys → take a xs ++ take n ys ≡ take (a + n) (put_mid a k xs ys)
behind a k n xs ys h m =
    let rest = post_of a k xs in
    ap (λ (l : List ℕ). take a xs ++ l) (sym (take-append-le n ys rest m))
    ∙ sym (take-append-add (take a xs) (ys ++ rest) n)
    ∙ ap (λ (i : ℕ). take (i + n) (put_mid a k xs ys)) (length-take-le a xs h)

pub loop-count-preserved : goal.loop-count-preserved
loop-count-preserved g c =
    let (fits, bytes) = c.loop-count.invariant in
    let read = c.in-Ok.ensures in
    (search rules, subst (Consumes _ _) (behind _ _ _ _ c.read.new.buf fits read.bound.0) (Consumes-trans _ _ _ _ _ bytes read.bytes.0))

-- Pieces stored one behind the other, where the buffer has room for them: `Puts` of a piece that went into a part of the buffer, and of two
-- pieces, one behind the other. Assumes nothing.
use mathlib.Core.Path.{◌≡◌, refl, sym, ap, subst, ◌∙◌}
use mathlib.Core.List.{List, [], ◌++◌, append_assoc, append-nil}
use Prim.Native.Nat.{ℕ, ◌+◌, ◌-◌, ◌<◌, ◌≤◌}
use native.Mathlib.Omega.{arith}
use lib.ListN.{length, take, drop, length-append, length-drop, drop_of_length-le}
use lib.Seq.{sets, sets-eq, length-sets, take_all, drop-drop}
use Rattle.refusals.specs.Stores.{sets_append, sets_front}
use Rattle.amounts.specs.Text.{text_written, text_left}
use Rattle.amounts.proofs.Texts.{text_refused, text_accepted, stored}
use Rattle.std.specs.Prelude.{Ok, Err}
use Rattle.refusals.specs.declared.Refusal.TheVariants.{BufferTooShort}
use Rattle.journal.specs.Steps.{Puts, Prints}
use Rattle.journal.specs.declared.page.Page.{Page}

-- a text that was put into the part from `start` on, which is from `used` on where that is within the buffer
module _ (l text part : List ℕ) (used start n : ℕ) where
  pub part_puts :
      (used ≤ length l → start ≡ used) → n ≡ length text → part ≡ text_left text (take (length l - start) (drop start l)) →
      Puts text used l (used + n) (take start l ++ (part ++ drop (length l - start) (drop start l)))
  part_puts at counted left = record { counted = ap (λ (k : ℕ). used + k) counted; stored = fits }
    where
      fits : used + length text ≤ length l → take start l ++ (part ++ drop (length l - start) (drop start l)) ≡ sets l used text
      fits h =
          let e : start ≡ used = at (omega arith) in
          let rest = drop used l in
          let long = length-drop used l in
          let whole : take (length l - used) rest ≡ rest = take_all (length l - used) rest (omega arith) in
          let fits : length text ≤ length rest = omega arith in
          let put : part ≡ text ++ drop (length text) rest =
          left ∙ (λ i. text_left text (take (length l - e i) (drop (e i) l))) ∙ ap (text_left text) whole
          ∙ sym (stored text rest (sets rest 0 text) fits refl) ∙ sets_front rest text fits in
          let none : drop (length l - used) rest ≡ _ = drop_of_length-le rest {i = length l - used} (omega arith) in
          (λ i. take (e i) l ++ (put i ++ drop (length l - e i) (drop (e i) l)))
          ∙ ap (λ (z : List ℕ). take used l ++ (text ++ drop (length text) rest ++ z)) none
          ∙ ap (λ (z : List ℕ). take used l ++ z) (append-nil (text ++ drop (length text) rest))
          ∙ ap (λ (z : List ℕ). take used l ++ (text ++ z)) (drop-drop (length text) used l)
          ∙ sym (append_assoc (take used l) text (drop (used + length text) l))
          ∙ sym (sets-eq text l used h)

-- one piece behind the other
puts_then : {xs ys l m n : List ℕ} {used next after : ℕ} → Puts xs used l next m → Puts ys next m after n → Puts (xs ++ ys) used l after n
puts_then {xs} {ys} {l} {m} {n} {used} {next} {after} p q =
    let more = length-append xs ys in
    let first = p.counted in
    let second = q.counted in
    record { counted = omega arith; stored = stored more first }
  where
    stored : length (xs ++ ys) ≡ length xs + length ys → next ≡ used + length xs → used + length (xs ++ ys) ≤ length l → n ≡ sets l used (xs ++ ys)
    stored more first h =
        let e : m ≡ sets l used xs = p.stored (omega arith) in
        let long : length m ≡ length l = ap length e ∙ length-sets l used xs in
        q.stored (omega arith) ∙ (λ i. sets (e i) (first i) ys) ∙ sym (sets_append l used xs ys)

-- ---- what a page prints

pub prints_nothing : {page : Page} {most : ℕ} → Prints [] most page page
prints_nothing = record { same_buffer = refl; puts = record { counted = omega arith; stored = λ h. refl }; short = omega arith }

-- one text behind the other
pub prints_then : {xs ys : List ℕ} {most more : ℕ} {old page new : Page} → Prints xs most old page → Prints ys more page new → Prints (xs ++ ys) (most + more) old new
prints_then p q = record { same_buffer = q.same_buffer ∙ p.same_buffer; puts = puts_then p.puts q.puts; short = omega (arith, p.short, q.short) }

-- two texts behind one
pub prints_two : {xs : List ℕ} (ys zs : List ℕ) {most more : ℕ} {old page new : Page} → Prints xs most old page → Prints (ys ++ zs) more page new → Prints (xs ++ ys ++ zs) (most + more) old new
prints_two {xs} ys zs {most} {more} {old} {new = new} p q = subst (λ (text : List ℕ). Prints text (most + more) old new) (sym (append_assoc xs ys zs)) (prints_then p q)

-- the same text under another name, and no more bytes than these
pub prints_as : {xs ys : List ℕ} {most more : ℕ} {old new : Page} → Prints xs most old new → xs ≡ ys → most ≤ more → Prints ys more old new
prints_as {old = old} {new} p e h =
    record {
      same_buffer = p.same_buffer;
      puts = subst (λ (text : List ℕ). Puts text old.used old.buffer.now new.used new.buffer.now) e p.puts;
      short = omega (arith, p.short, h);
    }

-- ---- the answer of the writer of a text

pub short : (text buffer : List ℕ) (n : ℕ) → n ≡ length text → length buffer < n → (Err BufferTooShort ≡ text_written text buffer) × (buffer ≡ text_left text buffer)
short text buffer n e h = text_refused text buffer (omega arith)

pub whole : (text buffer after : List ℕ) (n : ℕ) → Puts text 0 buffer n after → n ≤ length buffer → (Ok n ≡ text_written text buffer) × (after ≡ text_left text buffer)
whole text buffer after n p h =
    let e : n ≡ length text = omega (arith, p.counted) in
    text_accepted text buffer e h (p.stored (omega arith))

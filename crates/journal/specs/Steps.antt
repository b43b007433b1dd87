-- What the crate's own functions ensure of the buffer that they are lent. Nothing above the crate cites it.
use Rattle.std.specs.Prelude.{◌≡◌, List, ℕ, ◌+◌, ◌≤◌, length}
use Rattle.std.proofs.lemmas.List.Edits.{sets}
use Rattle.journal.specs.declared.page.Page.{Page}

-- `after` is the place behind the bytes if they begin at `used`; they are stored there if the buffer has room for them
pub record Puts (bytes : List ℕ) (used : ℕ) (entry : List ℕ) (after : ℕ) (exit : List ℕ) : Type 0 where
  pub counted : after ≡ used + length bytes
  pub stored : used + length bytes ≤ length entry → exit ≡ sets entry used bytes

-- a page prints a text, by at most so many bytes more, into the buffer that it holds
pub record Prints (text : List ℕ) (most : ℕ) (old new : Page) : Type 0 where
  pub same_buffer : new.buffer.ghost_name ≡ old.buffer.ghost_name
  pub puts : Puts text old.used old.buffer.now new.used new.buffer.now
  pub short : new.used ≤ old.used + most

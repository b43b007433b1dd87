-- What the private functions of this crate ensure, in the order of the code. Nothing above the crate cites it.
use Rattle.std.specs.Prelude.{◌≡◌, ◌≢◌, Bool, true, false, cond, List, ℕ, ℤ, pos, drop, Option, Some, None}
use Rattle.postings.specs.BitMaps.{bits_from}
use Rattle.postings.specs.declared.Posting.{Posting}
use Rattle.records.specs.Fields.{field_of}
use Rattle.records.specs.Records.{fields_at, zero_present, posting_of}

-- what a bit of the map finds at the front of the bytes: a number, which is 0 where the bit does not stand and nowhere else, and the bytes
-- behind its field
abbrev pub Finds : Bool → List ℕ → ℤ → List ℕ → Type 0
Finds false bytes number rest = (number ≡ pos 0) × (rest ≡ bytes)
Finds true bytes number rest = (number ≡ field_of bytes) × (number ≢ pos 0) × (rest ≡ drop 8 bytes)

-- the posting whose fields a bit map names; none where one of them is 0
unfoldable pub posting_in : ℕ → ℕ → List ℕ → Option Posting
posting_in kind bit_map bytes =
    let bits = bits_from 3 bit_map in
    let numbers = fields_at bits bytes in
    cond (zero_present bits numbers) None (Some (posting_of kind numbers))

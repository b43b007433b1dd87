-- Bit maps (01, Posting records): which numbers of a posting stand, and how many maps the records of a kind may have.
use Rattle.std.specs.Prelude.{Bool, cond, List, [], ◌∷◌, ℕ, zero, suc, ◌+◌, ◌*◌, ◌/◌, ◌%◌, ◌^◌, eqb, ℤ, pos, length, Option, option_map}
use Rattle.ints.specs.Machine.{eq_z}
use Rattle.postings.specs.Kinds.{Field, table_of}
use Rattle.postings.specs.declared.Book.{Book}
use Rattle.postings.specs.declared.kinds.Kind.{Kind}

-- the bits of a number, from the lowest
unfoldable pub bits_from : ℕ → ℕ → List Bool
bits_from zero n = []
bits_from (suc count) n = eqb (n % 2) 1 ∷ bits_from count (n / 2)

-- the bit map byte, from the lowest bit
unfoldable pub bit_map_of : List Bool → ℕ
bit_map_of [] = 0
bit_map_of (bit ∷ bits) = cond bit 1 0 + 2 * bit_map_of bits

-- the bit of a number in the map
unfoldable pub bit_of : ℤ → ℕ
bit_of z = cond (eq_z z (pos 0)) 0 1

-- how many bit maps the records of a kind may have; none of a kind that the book lacks
abbrev pub maps_of : Book → Kind → Option ℕ
maps_of book kind = option_map (λ (fields : List Field). 2 ^ length fields) (table_of book kind)

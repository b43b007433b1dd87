-- How many bit maps a kind of either book may have, and what that number tells. Assumes nothing.
use mathlib.Core.Path.{◌≡◌, refl, sym, ap, ◌∙◌}
use mathlib.Core.Bool.{Bool, true, false, true≢false}
use mathlib.Core.List.{List, []}
use Prim.Native.Nat.{ℕ, ◌^◌, ◌<◌, ◌≤◌}
use native.Mathlib.Omega.{arith}
use lib.Dec.{leb, ltb}
use lib.ListN.{length, drop}
use borrow.Author.Tests.{lt-leb, leb-false}
use Rattle.std.specs.Prelude.{Option, Some, None, is_none, option_map, IfSome}
use Rattle.std.proofs.lemmas.Option.{none-some, same_Some}
use Rattle.postings.proofs.BitMaps.{beyond}
use Rattle.postings.specs.Kinds.{Field, or_none, kind_of, by_kind, table_of, fields_of, unknown_kind, any_stands, stands_beyond}
use Rattle.postings.specs.declared.kinds.Kind.{Kind}
use Rattle.postings.specs.declared.kinds.Kind.TheVariants.{Cost, Sales, Bill, Settle, MonthEnd, Adjust, Reconcile, Unknown}
use Rattle.postings.specs.BitMaps.{bit_map_of, maps_of}
use Rattle.postings.specs.declared.Book.{Book}
use Rattle.postings.specs.declared.Book.TheVariants.{Electric, Steam}

-- any other number is of no kind
pub no_kind : (n : ℕ) → (1 ≤ n → n ≤ 7 → ⊥) → kind_of n ≡ Unknown
no_kind =
    by_kind (λ n kind. (1 ≤ n → n ≤ 7 → ⊥) → kind ≡ Unknown)
    (λ f. absurd (f (omega arith) (omega arith))) (λ f. absurd (f (omega arith) (omega arith))) (λ f. absurd (f (omega arith) (omega arith)))
    (λ f. absurd (f (omega arith) (omega arith))) (λ f. absurd (f (omega arith) (omega arith))) (λ f. absurd (f (omega arith) (omega arith)))
    (λ f. absurd (f (omega arith) (omega arith))) (λ n f. refl)

module _ (book : Book) (kind : ℕ) where
  -- where there is no number of bit maps the kind is unknown, and has no field
  pub maps_none : maps_of book (kind_of kind) ≡ None → (unknown_kind book kind ≡ true) × (fields_of book kind ≡ [])
  unfolding unknown_kind fields_of
  maps_none e = go (table_of book (kind_of kind)) e
    where
      go : (o : Option (List Field)) → option_map (λ (fields : List Field). 2 ^ length fields) o ≡ None → (is_none o ≡ true) × (or_none o ≡ [])
      go None e = (refl, refl)
      go (Some fields) e = absurd (none-some (2 ^ length fields) (sym e))

  -- where there is one the kind is known, and it is 2 to the number of fields
  pub maps_some : (maps : ℕ) → maps_of book (kind_of kind) ≡ Some maps → (unknown_kind book kind ≡ false) × (maps ≡ 2 ^ length (fields_of book kind))
  unfolding unknown_kind fields_of
  maps_some maps e = go (table_of book (kind_of kind)) e
    where
      go : (o : Option (List Field)) → option_map (λ (fields : List Field). 2 ^ length fields) o ≡ Some maps → (is_none o ≡ false) × (maps ≡ 2 ^ length (or_none o))
      go None e = absurd (none-some maps e)
      go (Some fields) e = (refl, sym (same_Some _ _ e))

  -- a known kind has a number of bit maps
  pub maps_known : unknown_kind book kind ≡ false → maps_of book (kind_of kind) ≡ Some (2 ^ length (fields_of book kind))
  unfolding unknown_kind fields_of
  maps_known e = go (table_of book (kind_of kind)) e
    where
      go : (o : Option (List Field)) → is_none o ≡ false → option_map (λ (fields : List Field). 2 ^ length fields) o ≡ Some (2 ^ length (or_none o))
      go None e = absurd (true≢false e)
      go (Some fields) e = refl

  -- an unknown kind lacks each bit
  pub lacks_all : (bits : List Bool) → maps_of book (kind_of kind) ≡ None → stands_beyond (fields_of book kind) bits ≡ ltb 0 (bit_map_of bits)
  unfolding stands_beyond
  lacks_all bits e = ap (λ (fields : List Field). any_stands (drop (length fields) bits)) (maps_none e).1 ∙ beyond 0 bits

  -- a bit that the kind lacks makes a map too large
  module _ (bits : List Bool) (maps : ℕ) (known : maps_of book (kind_of kind) ≡ Some maps) where
    pub lacks : stands_beyond (fields_of book kind) bits ≡ leb maps (bit_map_of bits)
    unfolding stands_beyond
    lacks = beyond (length (fields_of book kind)) bits ∙ ap (λ (n : ℕ). leb n (bit_map_of bits)) (sym (maps_some maps known).1)

    pub none_beyond : bit_map_of bits < maps → stands_beyond (fields_of book kind) bits ≡ false
    none_beyond h = lacks ∙ lt-leb maps (bit_map_of bits) h

    pub small_map : stands_beyond (fields_of book kind) bits ≡ false → bit_map_of bits < maps
    small_map e = leb-false maps (bit_map_of bits) (sym lacks ∙ e)

-- no kind has more than three fields
pub maps_most : (book : Book) (kind : Kind) → IfSome (maps_of book kind) (λ (maps : ℕ). maps ≤ 8)
maps_most Electric Unknown = tt
maps_most Electric Cost = omega arith
maps_most Electric Sales = omega arith
maps_most Electric Bill = omega arith
maps_most Electric Settle = omega arith
maps_most Electric MonthEnd = omega arith
maps_most Electric Adjust = omega arith
maps_most Electric Reconcile = tt
maps_most Steam Unknown = tt
maps_most Steam Cost = omega arith
maps_most Steam Sales = omega arith
maps_most Steam Bill = omega arith
maps_most Steam Settle = omega arith
maps_most Steam MonthEnd = omega arith
maps_most Steam Adjust = omega arith
maps_most Steam Reconcile = omega arith

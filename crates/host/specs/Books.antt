-- Which book a host means, since a host passes no enum.
use Rattle.std.specs.Prelude.{Bool, true, false}
use Rattle.postings.specs.declared.Book.{Book}
use Rattle.postings.specs.declared.Book.TheVariants.{Electric, Steam}

abbrev pub book_of : Bool → Book
book_of true = Steam
book_of false = Electric

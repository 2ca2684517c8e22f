use Rattle.std.specs.BTreeMap.{values}
use Rattle.survey.specs.Books.{surveyed}
use Rattle.listing.specs.Listed.{item_listing}
use Rattle.listing.specs.Writing.{place_number}
use Rattle.listing.proofs.Tallies.{SoFar}
use Rattle.listing.proofs.list.list_standing.Given as goal

-- what is listed so far, with what is left, gives all
abbrev pub invariant-loop-item : goal.invariant-loop-item
invariant-loop-item g l =
    SoFar
    (item_listing (g.T.Shown.Finding.table (g.S.Standard.meaning l.book.standard)) l.class (place_number g.T.Standing.place) g.T.Standing.number (g.T.Standing.shown (g.Q.Quantity.meaning l.book.quantity) (surveyed l.book)))
    l.item-iterator (values l.items) l.at l.start l.words l.initial.words

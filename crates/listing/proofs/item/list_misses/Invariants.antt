use Rattle.std.proofs.Common.{◌≡◌, ◌+◌, ◌≤◌, length}
use Rattle.listing.specs.Writing.{place_number, put}
use Rattle.listing.proofs.Listing.{left}
use Rattle.listing.proofs.item.list_misses.Given as goal

-- what is left, put where the list stands, gives all; and the list has no more words than rules were asked
abbrev pub invariant-loop-rule : goal.invariant-loop-rule
invariant-loop-rule g l =
    let table = g.F.Finding.table (g.S.Standard.meaning l.standard) in
    let now-left = left table l.asked.class (place_number l.asked.place) l.asked.item l.finding l.rule in
    let all = left table l.asked.class (place_number l.asked.place) l.asked.item l.finding 0 in
    (l.at + length now-left ≡ l.start + length all)
    × (l.at ≤ l.start + l.rule)
    × (put l.at now-left l.words ≡ put l.start all l.initial.words)

use Rattle.std.proofs.Common.{◌≡◌, ◌+◌, length, Some, ap, ◌∙◌, arith}
use Rattle.std.proofs.lemmas.List.{length-map}
use Rattle.std.specs.BTreeMap.{values}
use Rattle.plainbook.specs.Misses.{item_misses}
use Rattle.survey.specs.Books.{surveyed}
use Rattle.listing.specs.Listed.{item_listing}
use Rattle.listing.specs.Writing.{place_number, put}
use Rattle.listing.proofs.Tallies.{so_far_start, so_far_turn, so_far_end, so_far_words, joined_few}
use Rattle.listing.proofs.list.list_standing.Goals as goal

pub list_misses-at-requires : goal.list_misses-at-requires
list_misses-at-requires g c =
    let b = c.args.book.now in
    let rules = g.T.Shown.Finding.table (g.S.Standard.meaning b.standard) in
    let shown = g.T.Standing.shown (g.Q.Quantity.meaning b.quantity) (surveyed b) in
    omega (arith, c.requires.start, c.requires.few, c.loop-item.invariant.end, joined_few rules c.args.class (place_number g.T.Standing.place) g.T.Standing.number shown (values c.args.items.now), length-map c.args.items.now.entries (λ p. p.1))

pub loop-item-init : goal.loop-item-init
loop-item-init g c = so_far_start _ c.into_iter-item-iterator.result (values c.args.items.now) c.args.start c.args.words.now (c.into_iter-item-iterator.ensures.into_iter_gives ∙ c.values-item-items.ensures.rest)

pub loop-item-preserved : goal.loop-item-preserved
loop-item-preserved g c =
    let b = c.args.book.now in
    let rules = g.T.Shown.Finding.table (g.S.Standard.meaning b.standard) in
    let shown = g.T.Standing.shown (g.Q.Quantity.meaning b.quantity) (surveyed b) in
    let list = item_listing rules c.args.class (place_number g.T.Standing.place) g.T.Standing.number shown in
    let x = c.in-Some.item.now in
    let at = c.loop-item.at in
    let found : item_misses rules c.args.class (place_number c.place.result) c.number.result (Some c.finding.result) ≡ list x = λ i. item_misses rules c.args.class (place_number (c.place.ensures i)) (c.number.ensures i) (Some (c.finding.ensures i)) in
    so_far_turn list c.loop-item.item-iterator c.next.new.self (values c.args.items.now) x at c.list_misses-at.result c.args.start c.loop-item.words c.list_misses-at.new.words c.args.words.now c.in-Some.ensures.steps
    (c.list_misses-at.ensures.end ∙ ap (λ l. at + length l) found) (c.list_misses-at.ensures.after ∙ ap (λ l. put at l c.loop-item.words) found) c.loop-item.invariant

pub returns : goal.returns
returns g c =
    let none = c.in-None.ensures.steps.0 in
    record {
      end = so_far_end _ c.loop-item.item-iterator (values c.args.items.now) c.loop-item.at c.args.start c.loop-item.words c.args.words.now none c.loop-item.invariant;
      after = so_far_words _ c.loop-item.item-iterator (values c.args.items.now) c.loop-item.at c.args.start c.loop-item.words c.args.words.now none c.loop-item.invariant;
    }

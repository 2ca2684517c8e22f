use Rattle.std.proofs.Common.{◌+◌, length, Some, sym, ap, ◌∙◌, arith}
use Rattle.std.proofs.lemmas.List.{length-map}
use Rattle.plainbook.specs.Misses.{item_misses, leg_misses, circuit_misses, whole_misses, whole_place}
use Rattle.survey.specs.Books.{surveyed}
use Rattle.listing.specs.Writing.{put}
use Rattle.listing.proofs.Listed.{all_put, all_end}
use Rattle.listing.proofs.Tallies.{legs_joined, circuits_joined, legs_few, circuits_few}
use Rattle.survey.proofs.Orders.{few_values}
use Rattle.listing.proofs.list.list_all.Goals as goal

pub list_standing-legs-requires-clause-few : goal.list_standing-legs-requires-clause-few
list_standing-legs-requires-clause-few g c = let b = c.args.book.now in omega (arith, few_values 128 b.legs b.legs_numbered, length-map b.legs.entries (λ p. p.1))

pub list_standing-circuits-requires-clause-few : goal.list_standing-circuits-requires-clause-few
list_standing-circuits-requires-clause-few g c = let b = c.args.book.now in omega (arith, few_values 32 b.circuits b.circuits_numbered, length-map b.circuits.entries (λ p. p.1))

pub list_standing-circuits-requires-clause-start : goal.list_standing-circuits-requires-clause-start
list_standing-circuits-requires-clause-start g c =
    let b = c.args.book.now in
    let q = g.Q.Quantity.meaning b.quantity in
    let s = g.S.Standard.meaning b.standard in
    omega (arith, c.list_standing-legs.ensures.end, legs_few q s b c.args.class)

pub list_misses-requires : goal.list_misses-requires
list_misses-requires g c =
    let b = c.args.book.now in
    let q = g.Q.Quantity.meaning b.quantity in
    let s = g.S.Standard.meaning b.standard in
    let k = c.args.class in
    omega (arith, c.list_standing-legs.ensures.end, legs_few q s b k, c.list_standing-circuits.ensures.end, circuits_few q s b k)

pub returns : goal.returns
returns g c =
    let b = c.args.book.now in
    let q = g.Q.Quantity.meaning b.quantity in
    let s = g.S.Standard.meaning b.standard in
    let k = c.args.class in
    let p = surveyed b in
    let legs = c.list_standing-legs in
    let circuits = c.list_standing-circuits in
    let legs_end = legs.ensures.end ∙ ap (λ l. 0 + length l) (sym (legs_joined q s b k)) in
    let legs_after = legs.ensures.after ∙ ap (λ l. put 0 l c.args.words.now) (sym (legs_joined q s b k)) in
    let circuits_end = circuits.ensures.end ∙ ap (λ l. legs.result + length l) (sym (circuits_joined q s b k)) in
    let circuits_after = circuits.ensures.after ∙ ap (λ l. put legs.result l legs.new.words) (sym (circuits_joined q s b k)) in
    let found = ap (λ f. item_misses s.whole k whole_place 0 (Some f)) c.whole_finding.ensures in
    record {
      count =
          all_end (leg_misses q s p k) (circuit_misses q s p k) (whole_misses q s p k) c.args.words.now legs.new.words circuits.new.words c.list_misses.new.words legs.result circuits.result c.list_misses.result
          legs_end legs_after circuits_end circuits_after (c.list_misses.ensures.end ∙ ap (λ l. circuits.result + length l) found);
      after =
          all_put (leg_misses q s p k) (circuit_misses q s p k) (whole_misses q s p k) c.args.words.now legs.new.words circuits.new.words c.list_misses.new.words legs.result circuits.result c.list_misses.result
          legs_end legs_after circuits_end circuits_after (c.list_misses.ensures.after ∙ ap (λ l. put circuits.result l circuits.new.words) found);
    }

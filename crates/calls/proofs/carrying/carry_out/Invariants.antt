use Rattle.std.proofs.Common.{◌+◌, ◌≤◌, length, vec_items, vec_len, vec_capacity}
use Rattle.std.specs.Vec.Iter.{into_iter_items}
use Rattle.survey.specs.Books.{plain_book}
use Rattle.calls.proofs.Ways.{SoFar}
use Rattle.calls.proofs.carrying.carry_out.Given as goal

-- the calls before are carried out, and there is room for the other replies
abbrev pub invariant-loop-call : goal.invariant-loop-call
invariant-loop-call g l =
    (goal.iterator-loop-call g).can_next l.call-iterator
    × (goal.iterator-loop-call g).is_finite l.call-iterator
    × SoFar g.Q.Quantity.meaning g.S.Standard.meaning (into_iter_items l.initial.call-iterator) (plain_book l.initial.book) (plain_book l.book) (vec_items l.replies) (into_iter_items l.call-iterator)
    × (vec_len l.replies + length (into_iter_items l.call-iterator) ≤ vec_capacity l.replies)

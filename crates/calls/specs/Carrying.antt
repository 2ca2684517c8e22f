-- Calls in code as the plain book's, and what carrying them out gives.
use Rattle.std.specs.Prelude.{◌≡◌, ℕ, ◌≤◌, true, List, map, length, take, is_ok, Ok, Err, vec_items, Result}
use Rattle.std.specs.declared.alloc.AllocError.{AllocError}
use Rattle.records.specs.declared.refusal.Refusal.{Refusal}
use Rattle.records.specs.declared.refusal.Fault.{Fault}
use Rattle.records.specs.declared.refusal.Fault.TheVariants.{Refused, Memory}
use Rattle.records.specs.Refusals.{seen}
use Rattle.quantities.specs.Terms.{Terms}
use Rattle.standards.specs.Rules.{Rules}
use Rattle.plainbook.specs.Steps as plain
use Rattle.plainbook.specs.Steps.{Held, Outcome, outcomes, run}
use Rattle.grading.specs.Grades.{grade_record}
use Rattle.calls.specs.declared.call.Answer.{Answer}
use Rattle.calls.specs.declared.call.Answer.TheVariants.{Done, Graded, Listed}
use Rattle.calls.specs.declared.call.Call.{Call}
use Rattle.calls.specs.declared.call.Call.TheVariants.{Open, Enter, Join, StrikeLeg, StrikeCircuit, Grade, Misses}
use Rattle.calls.specs.declared.call.Reply.{Reply}

abbrev pub plain_call : {Q S : Type 0} → Call Q S → plain.Call Q S
plain_call (Open q s) = plain.opening q s
plain_call (Enter words) = plain.entering (vec_items words)
plain_call (Join words) = plain.joining (vec_items words)
plain_call (StrikeLeg n) = plain.striking_leg n
plain_call (StrikeCircuit n) = plain.striking_circuit n
plain_call Grade = plain.grading
plain_call (Misses class words) = plain.listing class (vec_items words)

abbrev pub plain_answer : Answer → plain.Answer
plain_answer Done = plain.done
plain_answer (Graded g) = plain.graded (grade_record g)
plain_answer (Listed n) = plain.listed n

-- what a caller sees of a call: its answer or refusal, and the words after it
pub record Seen : Type 0 where
  pub answer : Result plain.Answer Refusal
  pub words : List ℕ

abbrev pub reply_seen : Reply → Seen
reply_seen r = record { answer = seen plain_answer r.answer; words = vec_items r.words }

abbrev pub replied : Result Reply AllocError → Result Seen AllocError
replied (Ok reply) = Ok (reply_seen reply)
replied (Err e) = Err e

-- the reply of a call that allocates: its answer or refusal, and the words, if memory sufficed
abbrev pub fault_seen : {A : Type 0} → (A → plain.Answer) → List ℕ → Result A Fault → Result Seen AllocError
fault_seen view words (Ok a) = Ok (record { answer = Ok (view a); words = words })
fault_seen view words (Err (Refused r)) = Ok (record { answer = Err r; words = words })
fault_seen view words (Err Memory) = Err (record {})

abbrev pub outcome_seen : {Q S : Type 0} → Outcome Q S → Seen
outcome_seen out = record { answer = out.answer; words = out.words }

-- One call: its reply and what is held after it are the plain book's. Want of memory comes only where the plain book
-- answers, and changes nothing.
abbrev pub Carried : {Q S : Type 0} → Outcome Q S → (before after : Held Q S) → Result Reply AllocError → Type 0
Carried out before after (Ok reply) = (reply_seen reply ≡ outcome_seen out) × (after ≡ out.held)
Carried out before after (Err e) = (is_ok out.answer ≡ true) × (after ≡ before)

-- Calls in turn: the replies are those of the plain book, call by call, as far as memory sufficed, and what is held at the
-- end is what the plain book holds after those calls.
pub record CarriedOut {Q S Element : Type 0} (terms : Q → Terms Element) (rules : S → Rules) (calls : List (Call Q S)) (before after : Held Q S) (replies : List Reply) : Type 0 where
  pub count : length replies ≤ length calls
  pub seen_all : map reply_seen replies ≡ take (length replies) (map outcome_seen (outcomes terms rules before (map plain_call calls)))
  pub held : after ≡ run terms rules before (take (length replies) (map plain_call calls))

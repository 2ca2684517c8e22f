use Rattle.std.proofs.Common.{◌≡◌, ◌+◌, ◌<◌, ◌≤◌, [], ◌∷◌, map, length, get_or, take, Some, None, Ok, Err, sym, ap, ◌∙◌, arith}
use Rattle.std.specs.Option.{option_map, ok_or}
use Rattle.std.proofs.lemmas.List.{at_drop_all}
use Rattle.std.proofs.lemmas.Bool.{both_ways, not-true, not-false}
use Rattle.std.proofs.lemmas.Result.{err_from_is_err_and}
use Rattle.records.specs.Circuits.{UseRecord, use_record, use_read}
use Rattle.records.specs.Refusals.{unless}
use Rattle.records.proofs.Circuits.{read_some, read_is}
use Rattle.records.proofs.Ranges.{upto}
use Rattle.plainbook.specs.Findings.{form}
use Rattle.plainbook.specs.Refusals.{breaks}
use Rattle.plainbook.specs.Surveys.{Run, names, runs, ends}
use Rattle.survey.specs.Books.{surveyed}
use Rattle.survey.specs.Paths.{come_to}
use Rattle.survey.specs.Runs.{run_record}
use Rattle.survey.proofs.Paths.{form_after, form_start, form_more, form_end}
use Rattle.survey.proofs.Walking.{ranged_at, run_gone, run_found, chain_left, later, left_absent, left_twice, left_broken, left_next, left_over, runs_next}
use Rattle.survey.proofs.book.Book.chain.Goals as goal

pub loop-i-init : goal.loop-i-init
loop-i-init g c =
    let rs = runs (surveyed c.args.self.now).legs (map use_read c.args.uses.now.words.now) in
    record {
      refusal = ap (λ p. chain_left (surveyed c.args.self.now).legs c.args.uses.now.words.now 0 (come_to p)) c.new-path.ensures;
      form = ap (λ p. form_after p rs) c.new-path.ensures ∙ form_start rs;
      few = omega (arith, ap (λ p. p.legs) c.new-path.ensures);
    }

pub unreachable-requires : goal.unreachable-requires
unreachable-requires g c =
    let here = ranged_at c.args.uses.now.words.now c.loop-i.i c.loop-i-test.true 2 c.args.uses.now.ranged in
    both_ways _ (sym (read_some None _ _ c.in_default.ensures)) here

pub returns-in_err-run : goal.returns-in_err-run
returns-in_err-run g c =
    let legs = (surveyed c.args.self.now).legs in
    let ws = c.args.uses.now.words.now in
    let i = c.loop-i.i in
    let p = err_from_is_err_and c.from_residual.result c.from_residual.ensures.1 in
    let is : use_record c.in-Some.used ≡ use_read (get_or ws i 0) = read_is c.in-Some.used _ _ c.in-Some.ensures in
    let same : c.in_err-run.field-0.0 ≡ c.at.result = cc (c.in_err-run.ensures.value, ap (λ o. ok_or o c.at.result) c.in_err-run.ensures.ok_part) in
    let gone : legs (use_read (get_or ws i 0)).leg ≡ None =
    ap (λ (u : UseRecord). legs u.leg) (sym is) ∙ run_gone (use_record c.in-Some.used) _ (sym c.run.ensures ∙ ap (option_map run_record) c.in_err-run.ensures.ok_part) in
    rw (p.1, p.2)
    (ap Err (same ∙ c.at.ensures) ∙ sym (ap (λ o. unless o (form (runs legs (map use_read ws)))) (sym c.loop-i.invariant.refusal ∙ left_absent ws i c.loop-i-test.true legs (come_to c.loop-i.path) gone)))

pub returns-then-names : goal.returns-then-names
returns-then-names g c =
    let legs = (surveyed c.args.self.now).legs in
    let ws = c.args.uses.now.words.now in
    let i = c.loop-i.i in
    let is : use_record c.in-Some.used ≡ use_read (get_or ws i 0) = read_is c.in-Some.used _ _ c.in-Some.ensures in
    let r = run_record c.in_ok-run.run' in
    let found = run_found legs (use_record c.in-Some.used) (use_read (get_or ws i 0)) r is (sym (ap (option_map run_record) c.in_ok-run.ensures.ok_part) ∙ c.run.ensures) in
    let twice = ap (λ (u : UseRecord). names u.leg (map use_read (take i ws))) (sym is) ∙ sym c.if-names.ensures in
    ap Err c.at-then-names.ensures
    ∙ sym (ap (λ o. unless o (form (runs legs (map use_read ws)))) (sym c.loop-i.invariant.refusal ∙ left_twice ws i c.loop-i-test.true legs r.leg found.0 (come_to c.loop-i.path) twice))

pub returns-then-not-joins : goal.returns-then-not-joins
returns-then-not-joins g c =
    let legs = (surveyed c.args.self.now).legs in
    let ws = c.args.uses.now.words.now in
    let i = c.loop-i.i in
    let is : use_record c.in-Some.used ≡ use_read (get_or ws i 0) = read_is c.in-Some.used _ _ c.in-Some.ensures in
    let r = run_record c.in_ok-run.run' in
    let found = run_found legs (use_record c.in-Some.used) (use_read (get_or ws i 0)) r is (sym (ap (option_map run_record) c.in_ok-run.ensures.ok_part) ∙ c.run.ensures) in
    let once = ap (λ (u : UseRecord). names u.leg (map use_read (take i ws))) (sym is) ∙ sym c.if-names.ensures in
    let apart = ap (λ r. breaks (come_to c.loop-i.path) (Some r)) (sym found.1) ∙ not-false _ (sym c.if-not-joins.ensures) in
    ap Err c.at-then-not-joins.ensures
    ∙ sym (ap (λ o. unless o (form (runs legs (map use_read ws)))) (sym c.loop-i.invariant.refusal ∙ left_broken ws i c.loop-i-test.true legs r.leg found.0 (come_to c.loop-i.path) once apart))

pub loop-i-preserved : goal.loop-i-preserved
loop-i-preserved g c =
    let legs = (surveyed c.args.self.now).legs in
    let ws = c.args.uses.now.words.now in
    let i = c.loop-i.i in
    let is : use_record c.in-Some.used ≡ use_read (get_or ws i 0) = read_is c.in-Some.used _ _ c.in-Some.ensures in
    let r = run_record c.in_ok-run.run' in
    let found = run_found legs (use_record c.in-Some.used) (use_read (get_or ws i 0)) r is (sym (ap (option_map run_record) c.in_ok-run.ensures.ok_part) ∙ c.run.ensures) in
    let once = ap (λ (u : UseRecord). names u.leg (map use_read (take i ws))) (sym is) ∙ sym c.if-names.ensures in
    let joined = ap (λ r. breaks (come_to c.loop-i.path) (Some r)) (sym found.1) ∙ not-true _ (sym c.if-not-joins.ensures) in
    let step = left_next ws i c.loop-i-test.true legs r.leg found.0 (come_to c.loop-i.path) once joined in
    let rest = runs legs (later ws (i + 1)) in
    let few : c.loop-i.path.legs < 255 = omega (arith, c.loop-i.invariant.few, upto 1 16 (length ws) c.args.uses.now.few) in
    let more = runs_next ws i c.loop-i-test.true legs r.leg found.0 in
    record {
      refusal =
          ap (λ p. chain_left legs ws (i + 1) (come_to p)) c.follow-path.ensures
          ∙ ap (λ (r : Run). chain_left legs ws (i + 1) (Some (ends r.sense r.leg))) found.1
          ∙ sym step
          ∙ c.loop-i.invariant.refusal;
      form =
          ap (λ p. form_after p rest) c.follow-path.ensures
          ∙ form_more c.loop-i.path r rest few
          ∙ ap (form_after c.loop-i.path) (ap (λ r. r ∷ rest) found.1 ∙ sym more)
          ∙ c.loop-i.invariant.form;
      few = omega (arith, c.loop-i.invariant.few, ap (λ p. p.legs) c.follow-path.ensures);
    }

pub returns : goal.returns
returns g c =
    let legs = (surveyed c.args.self.now).legs in
    let ws = c.args.uses.now.words.now in
    let i = c.loop-i.i in
    let over : length ws ≤ i = c.loop-i-test.false in
    let none = sym c.loop-i.invariant.refusal ∙ left_over legs ws i (come_to c.loop-i.path) over in
    let nothing : runs legs (later ws i) ≡ [] = ap (runs legs) (at_drop_all (map use_read) ws i over) in
    ap Ok (c.form.ensures ∙ form_end c.loop-i.path ∙ ap (form_after c.loop-i.path) (sym nothing) ∙ c.loop-i.invariant.form)
    ∙ sym (ap (λ o. unless o (form (runs legs (map use_read ws)))) none)

use Rattle.std.proofs.lemmas.Result.{on_ok_weaker}
use Rattle.fst_logicfun.specs.Rounds.{each_of}
use Rattle.fst_program.specs.Plain.{plain_program}
use Rattle.fst_terms.specs.Formulas.{vars_from}
use Rattle.fst_logicfun.proofs.RoundLemmas.{round-from}
use Rattle.fst_logicfun.proofs.rounds.round.Goals as goal

pub returns : goal.returns
returns c =
    on_ok_weaker c.add_applications.result
    (round-from (vars_from 0 c.args.n) (each_of (plain_program c.args.program.now) c.args.which.now) c.args.applications.now c.args.facts.now _ _ _ _ _ _ c.args.used c.len-known.result c.len-known.ensures
    c.as_slice.ensures c.after-terms.ensures c.in_ok-add_facts.ensures c.as_slice-2.ensures c.after.ensures)
    c.add_applications.ensures

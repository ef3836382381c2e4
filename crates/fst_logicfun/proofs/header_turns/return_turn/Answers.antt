use Rattle.fst_program.specs.Plain.{plain_comp}
use Rattle.fst_logicfun.proofs.HeaderLemmas.{return-by}
use Rattle.fst_logicfun.proofs.header_turns.return_turn.Goals as goal

pub returns : goal.returns
returns c =
    return-by c.args.at.now c.args.effect (plain_comp c.args.part.now) c.in_ok-header.header _ c.in_ok-rest.rest _ c.in_ok-header.ensures c.return_text.ensures c.in_ok-rest.ensures c.in_ok-first.ensures

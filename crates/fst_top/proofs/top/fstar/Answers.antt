use Rattle.std.proofs.Common.{refl, subst}
use Rattle.fst_outside.specs.Outside.{Rose}
use Rattle.fst_top.specs.Answers.{command_of}
use Rattle.fst_top.specs.Outcomes.{Fetched, Given}
use Rattle.fst_top.specs.Promises.{given_by}
use Rattle.fst_top.specs.Statuses.{number_of}
use Rattle.fst_top.proofs.TopLemmas.{promised, promised-nothing}
use Rattle.fst_top.proofs.top.fstar.Goals as goal
use Rattle.fst_top.proofs.top.fstar.Goals.{in-Ok, in-Err}

pub returns : goal.returns
returns g c = elim c.match-answer.branch [
  | in-Ok w ↦ rw (c.number.ensures, w.status-is, w.sink-is) (promised c.args.words.now (given_by (g.S.Shelf.told c.args.shelf.now) (g.S.Shelf.bytes_read c.answer.new.shelf)) _ _ _ _ _ _ _ _ w.in-Ok.answer.text w.in-Ok.answer.status w.deliver-status.result
      (subst (λ words. Given (command_of words) (given_by (g.S.Shelf.told c.args.shelf.now) (g.S.Shelf.bytes_read c.answer.new.shelf)) (Rose (g.S.Shelf.faults c.args.shelf.now) (g.S.Shelf.faults c.answer.new.shelf)) (number_of w.in-Ok.answer.status) w.in-Ok.answer.text) c.as_slice.ensures w.in-Ok.ensures.given)
      w.deliver-status.ensures.put
      (subst (λ words. Fetched (command_of words) (g.S.Shelf.fetched c.args.shelf.now) (g.S.Shelf.fetched c.answer.new.shelf)) c.as_slice.ensures c.answer.ensures.fetched)
      w.deliver-status.ensures.counted)
  | in-Err w ↦ rw (c.number.ensures, w.status-is, w.sink-is) (promised-nothing c.args.words.now _ _ _ _ _ _ _ _ _ refl refl
      (subst (λ words. Fetched (command_of words) (g.S.Shelf.fetched c.args.shelf.now) (g.S.Shelf.fetched c.answer.new.shelf)) c.as_slice.ensures c.answer.ensures.fetched))
]

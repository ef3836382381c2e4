use Rattle.fst_names.specs.Looked.{tables_in}
use Rattle.fst_names.specs.Scopes.{names_in}
use Rattle.fst_names.proofs.CheckTextLemmas.{check-Let, check-GhostLet}
use Rattle.fst_names.proofs.check_texts.+text.Goals as goal

pub check_body-returns-in_ok-rest-in-Let-clause-broken : goal.check_body-returns-in_ok-rest-in-Let-clause-broken
check_body-returns-in_ok-rest-in-Let-clause-broken t c =
    let e = check-Let (tables_in c.args.tables.now) (names_in c.args.scope.now) c.in-Let.word c.in-Let.note c.in-Let.part c.in-Let.rest in
    let h = c.in-Let.is in let g = c.check_note-note.ensures in let k = c.in_ok-part-in-Let.ensures.broken in let m = c.in_ok-rest-in-Let.ensures.broken in
    let n = c.in_ok-push-in-Let.ensures.ok in let o = c.in_ok-part-in-Let.ensures.scope in let p = c.get.ensures in cc

pub check_body-returns-in_ok-rest-in-GhostLet-clause-broken : goal.check_body-returns-in_ok-rest-in-GhostLet-clause-broken
check_body-returns-in_ok-rest-in-GhostLet-clause-broken t c =
    let e = check-GhostLet (tables_in c.args.tables.now) (names_in c.args.scope.now) c.in-GhostLet.word c.in-GhostLet.note c.in-GhostLet.part c.in-GhostLet.rest in
    let h = c.in-GhostLet.is in let g = c.check_note-note-in-GhostLet.ensures in let k = c.in_ok-part-in-GhostLet.ensures.broken in let m = c.in_ok-rest-in-GhostLet.ensures.broken in
    let n = c.in_ok-push-in-GhostLet.ensures.ok in let o = c.in_ok-part-in-GhostLet.ensures.scope in let p = c.get-in-GhostLet.ensures in cc

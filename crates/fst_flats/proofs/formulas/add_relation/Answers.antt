use Rattle.std.proofs.Common.{ap, map, ◌∙◌}
use Rattle.std.proofs.lemmas.Result.{on_ok_weaker}
use Rattle.fst_flats.specs.Preparing.{sorts_in}
use Rattle.fst_terms.specs.Skeletons.{atoms_in, first_atoms}
use Rattle.fst_terms.specs.Terms.{plain_term}
use Rattle.fst_flats.proofs.ArgumentLemmas.{relation-other, relation-two}
use Rattle.fst_flats.proofs.formulas.add_relation.Goals as goal

pub returns-then-args-eq2 : goal.returns-then-args-eq2
returns-then-args-eq2 c =
    on_ok_weaker c.add_two.result
    (λ e. e ∙ ap (λ k. first_atoms (map plain_term c.args.atoms.now) (atoms_in k))
    (relation-two (sorts_in c.args.sorts.now) c.args.op c.args.args.now _ _ (plain_term c.args.term.now) c.if-args-eq2.true c.index-args-0.is c.index-args-1.is))
    c.add_two.ensures

pub returns : goal.returns
returns c =
    on_ok_weaker c.add_atom.result
    (λ e. e ∙ ap (λ k. first_atoms (map plain_term c.args.atoms.now) (atoms_in k)) (relation-other (sorts_in c.args.sorts.now) c.args.op c.args.args.now (plain_term c.args.term.now) c.if-args-eq2.false))
    c.add_atom.ensures

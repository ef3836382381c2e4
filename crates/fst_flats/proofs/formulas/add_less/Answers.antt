use Rattle.std.proofs.Common.{ap, sym, ◌∙◌, map}
use Rattle.std.proofs.lemmas.Result.{on_ok_weaker}
use Rattle.fst_terms.specs.Skeletons.{first_atoms}
use Rattle.fst_terms.specs.Terms.{plain_term}
use Rattle.fst_flats.proofs.BuildingLemmas.{atom-is}
use Rattle.fst_flats.proofs.RelationLemmas.{others-less}
use Rattle.fst_flats.proofs.formulas.add_less.Goals as goal

pub returns : goal.returns
returns c =
    let form = others-less (plain_term c.args.left.now) (plain_term c.args.right.now) (sym c.are_literals.ensures ∙ c.if-are_literals.false) in
    on_ok_weaker c.add_atom.result
    (λ e. atom-is c.at_most.result _ _ _ _ _ c.in_ok-made.ensures c.get.ensures (c.at_most.ensures _ _ c.copied.ensures c.copied-2.ensures) e ∙ ap (first_atoms (map plain_term c.args.atoms.now)) (sym form))
    c.add_atom.ensures

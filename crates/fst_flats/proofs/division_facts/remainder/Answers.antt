use Rattle.std.proofs.Common.{rules, FitsSigned, subst, ◌∷◌, []}
use Rattle.std.proofs.lemmas.Int.{to_z-of_z}
use mir.Syntax.{w128}
use Rattle.fst_base.specs.Sorts.{Srt}
use Rattle.fst_base.specs.declared.op.Op.TheVariants as op
use Rattle.fst_flats.specs.Makes.{Makes}
use Rattle.fst_flats.proofs.PlainForms.{plain-sort-Int}
use Rattle.fst_terms.specs.DataFacts.{multiple, op_term}
use Rattle.fst_terms.specs.Formulas.{equation}
use Rattle.fst_terms.specs.Terms.{plain_term}
use Rattle.fst_flats.proofs.division_facts.remainder.Goals as goal

pub returns : goal.returns
returns c =
    let f : FitsSigned w128 c.args.by = search rules in
    let m = simp to_z-of_z at c.multiple.ensures in
    let P : Srt → Type 0 = λ S. Makes c.equation.result (equation (plain_term c.args.whole.now) (op_term op.Sub S (plain_term c.args.term.now ∷ multiple (plain_term c.args.term.now) c.args.by ∷ []))) in
    subst P plain-sort-Int (c.equation.ensures _ _ c.copied-2.ensures (c.binary-rest.ensures _ _ c.copied.ensures m))

use Rattle.std.proofs.Common.{rules, FitsSigned, subst, ◌∷◌, []}
use Rattle.std.proofs.lemmas.Int.{to_z-of_z}
use mir.Syntax.{w128}
use Rattle.fst_base.specs.Sorts.{Srt}
use Rattle.fst_base.specs.declared.op.Op.TheVariants as op
use Rattle.fst_flats.specs.Makes.{Makes}
use Rattle.fst_flats.proofs.PlainForms.{plain-sort-Int}
use Rattle.fst_terms.specs.DataFacts.{multiple, op_term}
use Rattle.fst_terms.specs.Formulas.{less}
use Rattle.fst_terms.specs.Terms.{plain_term, t_int}
use Rattle.fst_flats.proofs.division_facts.upper.Goals as goal

pub returns : goal.returns
returns c =
    let f : FitsSigned w128 c.args.by = search rules in
    let g : FitsSigned w128 c.args.size = search rules in
    let m = simp to_z-of_z at c.multiple.ensures in
    let n = simp to_z-of_z at c.number.ensures in
    let P : Srt → Type 0 = λ S. Makes c.less.result (less (plain_term c.args.term.now) (op_term op.Add S (multiple (plain_term c.args.term.now) c.args.by ∷ t_int c.args.size ∷ []))) in
    subst P plain-sort-Int (c.less.ensures _ _ c.copied.ensures (c.binary-next.ensures _ _ m n))

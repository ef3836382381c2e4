use Rattle.std.proofs.Common.{◌∙◌, map, ap}
use Rattle.fst_base.specs.declared.op.Op.TheVariants as op
use Rattle.fst_terms.specs.Terms.{plain_term}
use Rattle.fst_terms.specs.Formulas.{sort_of}
use Rattle.fst_terms.specs.Flats.{sorts_of_vars}
use Rattle.fst_terms.specs.Meaning.{plain_var}
use Rattle.fst_terms.specs.Preparing.{equation_at}
use Rattle.fst_terms.proofs.AtomLemmas.{op-differs, op-same, form-other, form-sides, form-equation}
use Rattle.fst_terms.proofs.atoms.operator_form.Goals as goal
use Rattle.fst_terms.proofs.atoms.operator_form.Goals.{then-ne-via-then-ne, then-ne-via-else-ne+then-args-ne2}

pub returns-then-ne : goal.returns-then-ne
returns-then-ne c = elim c.then-ne.branch [ then-ne-via-then-ne w ↦ form-other _ c.args.op _ (op-differs c.args.op op.Eq c.ne.result c.ne.ensures w.if-ne.true) | then-ne-via-else-ne+then-args-ne2 w ↦ form-sides _ c.args.op c.args.args.now w.if-args-ne2.true ]

pub returns : goal.returns
returns c = c.equation_of.ensures ∙ ap (λ t. equation_at (sort_of (sorts_of_vars (map plain_var c.args.vars.now)) (plain_term t))) c.index-args-0.is ∙ form-equation _ c.args.op c.args.args.now c.index-args-0.result (op-same c.args.op op.Eq c.ne.result c.ne.ensures c.if-ne.false) c.if-args-ne2.false

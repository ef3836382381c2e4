use Rattle.std.proofs.Common.{ap₂, map, ◌∙◌}
use Rattle.fst_terms.specs.Flats.{sorts_of_vars}
use Rattle.fst_terms.specs.Marks.{is_int_equation}
use Rattle.fst_terms.specs.Meaning.{plain_var}
use Rattle.fst_cases.proofs.SideLemmas.{no-lets-read, term-read}
use Rattle.fst_cases.proofs.sides.is_number.Goals as goal

pub is_int_equation-requires : goal.is_int_equation-requires
is_int_equation-requires c = no-lets-read c.args.flat.now.atoms _ c.args.at c.index-as_slice-at.result c.as_slice-2.ensures c.index-as_slice-at.is c.requires.plain c.requires.at

pub returns : goal.returns
returns c = λ t q.
    c.is_int_equation.ensures
    ∙ ap₂ (λ vs u. is_int_equation (sorts_of_vars (map plain_var vs)) u) c.as_slice.ensures (term-read c.args.flat.now.atoms _ c.args.at c.index-as_slice-at.result t c.as_slice-2.ensures c.index-as_slice-at.is c.requires.at q)

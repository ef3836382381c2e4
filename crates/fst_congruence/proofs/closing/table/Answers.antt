use Rattle.std.proofs.Common.{List, map, ap, sym, subst, ◌∙◌}
use Rattle.fst_terms.specs.Terms.{plain_term}
use Rattle.fst_congruence.specs.declared.node.Node.{Node}
use Rattle.fst_congruence.specs.Numbered.{nodes_of}
use Rattle.fst_congruence.specs.Steps.{IsTable}
use Rattle.fst_congruence.proofs.NumberedLemmas.{args-of-nodes-within}
use Rattle.fst_congruence.proofs.HeadLemmas.{table-arities}
use Rattle.fst_congruence.proofs.closing.table.Goals as goal

pub returns-clause-table : goal.returns-clause-table
returns-clause-table c =
    subst (λ (ns : List Node). IsTable ns) (sym (c.in_ok-nodes.ensures ∙ ap (λ ts. nodes_of (map plain_term ts)) c.as_slice.ensures))
    (record { within = args-of-nodes-within _; arities = table-arities _ c.requires.arities })

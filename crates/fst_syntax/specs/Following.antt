-- What is read behind the first operand of a term, or of a formula, level by level from the outermost: each gives the tree of
-- what was read before with what follows it.
use Rattle.std.specs.Prelude.{Bool, List, Ok}
use Rattle.fst_grammar.specs.Reading.{Outcome, ◌>>=◌}
use Rattle.fst_syntax.specs.Tokens.{Token}
use Rattle.fst_syntax.specs.Trees as t
use Rattle.fst_syntax.specs.Trees.{Tree}
use Rattle.fst_syntax.specs.Productions as n
use Rattle.fst_syntax.specs.Reading.{reads, applied}

module _ (f : Bool) where
  abbrev pub behind_disj : Tree → List Token → Outcome Token Tree
  behind_disj a ts = reads (n.implies_more f) ts >>= λ more ks. Ok (t.implied_by a more, ks)

  abbrev pub behind_conj : Tree → List Token → Outcome Token Tree
  behind_conj a ts = applied a (reads (n.disj_more f) ts) >>= behind_disj

  abbrev pub behind_cmp : Tree → List Token → Outcome Token Tree
  behind_cmp a ts = applied a (reads (n.conj_more f) ts) >>= behind_conj

  abbrev pub behind_con : Tree → List Token → Outcome Token Tree
  behind_con a ts = reads (n.cmp_more f) ts >>= λ more us. behind_cmp (t.compared_by a more) us

  abbrev pub behind_sum : Tree → List Token → Outcome Token Tree
  behind_sum a ts = reads (n.con_more f) ts >>= λ more us. behind_con (t.cons_by a more) us

  abbrev pub behind_prod : Tree → List Token → Outcome Token Tree
  behind_prod a ts = applied a (reads (n.sum_more f) ts) >>= behind_sum

  abbrev pub behind_un : Tree → List Token → Outcome Token Tree
  behind_un a ts = applied a (reads (n.prod_more f) ts) >>= behind_prod

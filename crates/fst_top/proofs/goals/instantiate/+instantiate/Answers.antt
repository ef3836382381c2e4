use Rattle.std.proofs.Common.{map, reverse, subst, sym, rules}
use Rattle.fst_terms.specs.declared.term.Term as D
use Rattle.fst_terms.specs.Terms.{plain_term}
use Rattle.fst_top.specs.Goals.{TmSimple}
use Rattle.fst_top.proofs.InstantiateLemmas.{all-simple-at, put-Prim-by}
use Rattle.fst_top.proofs.goals.instantiate.+instantiate.Goals as goal

pub instantiate-returns-in_ok-copy-in-Prim : goal.instantiate-returns-in_ok-copy-in-Prim
instantiate-returns-in_ok-copy-in-Prim t c = put-Prim-by (reverse (map plain_term c.args.terms.now)) _ _ _ _ _ _ _ _ c.in-Prim.is c.in_ok-copy-in-Prim.ensures c.as_slice.ensures c.in_ok-sides-in-Prim.ensures c.requires

pub instantiate_all-instantiate-requires : goal.instantiate_all-instantiate-requires
instantiate_all-instantiate-requires t c =
    (search (rules, D.the_lemmas), subst (λ u. TmSimple (plain_term u)) (sym c.side-item.is) (all-simple-at c.args.sides.now c.loop-side.side-index c.side-item.result c.loop-side-test.true c.requires))

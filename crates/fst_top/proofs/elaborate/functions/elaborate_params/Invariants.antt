use Rattle.std.proofs.Common.{◌≡◌, map}
use Rattle.fst_program.specs.Plain.{plain_param}
use Rattle.fst_program.specs.Texts.{Prm}
use Rattle.fst_top.specs.Elaboration.{params_of_trees, scope_of}
use Rattle.fst_top.specs.Scopes.{vars_in}
use Rattle.fst_top.proofs.GatheredLemmas.{SoFar}
use Rattle.fst_top.proofs.elaborate.functions.elaborate_params.Given as goal

abbrev pub invariant-loop-tree : goal.invariant-loop-tree
invariant-loop-tree l = record {
  params : SoFar plain_param (λ (q : Prm). q.name) (λ k. params_of_trees) l.trees l.tree-index l.params;
  scope : vars_in l.scope ≡ scope_of (map plain_param l.params);
}

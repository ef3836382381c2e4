use Rattle.std.proofs.Common.{◌≡◌, [], ◌∷◌, map, Some, Err, refl, sym, ap, ap₂, ◌∙◌, rules, arith}
use Rattle.std.proofs.lemmas.Grind.{common_steps}
use Rattle.std.proofs.lemmas.Option.{slice_get_read}
use Rattle.fst_program.specs.declared.fun.Param.{Param}
use Rattle.fst_program.specs.Plain.{plain_param}
use Rattle.fst_program.specs.Texts.{Prm}
use Rattle.fst_top.specs.Elaboration.{params_of_trees}
use Rattle.fst_top.specs.Elaborating.{Gives}
use Rattle.fst_top.specs.Functions.{first_plain_param, next_param, plain_params}
use Rattle.fst_top.proofs.GatheredLemmas.{gathers-no, gathers-next}
use Rattle.fst_top.proofs.FunctionLemmas.{params-begin, scope-more}
use Rattle.fst_top.proofs.StopLemmas.{gives-stop}
use Rattle.fst_top.proofs.elaborate.functions.elaborate_params.Goals as goal

pub returns-in_err-param-clause-params : goal.returns-in_err-param-clause-params
returns-in_err-param-clause-params c =
    let at = slice_get_read c.args.trees.now _ c.loop-tree.tree-index c.tree-item.result refl c.loop-tree-test.true c.tree-item.is in
    let step = gathers-no plain_param (λ (q : Prm). q.name) (λ k. params_of_trees) (λ k. next_param) (λ k. params-begin) c.args.trees.now c.loop-tree.tree-index c.loop-tree.params c.tree-item.result at in
    let g : Gives plain_params (params_of_trees [] c.args.trees.now) (Err c.in_err-param.field-0.0) =
    gives-stop first_plain_param plain_params (next_param (map (λ (p : Param). p.name) c.as_slice.result.now) c.tree-item.result) _ _ (λ e. step (ap (λ ps. next_param (map (λ (p : Param). p.name) ps) c.tree-item.result) (sym c.as_slice.ensures) ∙ e) c.loop-tree.invariant.params) c.in_err-param.ensures.param in
    first_of (search rules, grind (arith, common_steps))

pub loop-tree-preserved : goal.loop-tree-preserved
loop-tree-preserved c =
    let at = slice_get_read c.args.trees.now _ c.loop-tree.tree-index c.tree-item.result refl c.loop-tree-test.true c.tree-item.is in
    let made : next_param (map (λ (p : Param). p.name) c.loop-tree.params) c.tree-item.result ≡ Some (plain_param c.in_ok-param.param) =
    ap (λ ps. next_param (map (λ (p : Param). p.name) ps) c.tree-item.result) (sym c.as_slice.ensures) ∙ c.in_ok-param.ensures.param in
    let more = gathers-next plain_param (λ (q : Prm). q.name) (λ k. params_of_trees) (λ k. next_param) (λ k. params-begin) c.args.trees.now c.loop-tree.tree-index c.loop-tree.params c.tree-item.result c.in_ok-param.param at made c.loop-tree.invariant.params in
    record {
      params = rw c.in_ok-push.ensures.ok more;
      scope = rw c.in_ok-push.ensures.ok (c.in_ok-push-2.ensures.ok ∙ ap₂ ◌∷◌ c.in_ok-param.ensures.binding c.loop-tree.invariant.scope ∙ sym (scope-more c.loop-tree.params c.in_ok-param.param));
    }

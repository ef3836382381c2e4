use Rattle.std.proofs.Common.{◌≡◌, ◌∷◌, length, map, subst, arith}
use Rattle.fst_base.specs.Sorts.{plain_sort}
use Rattle.fst_base.specs.Values.{plain_value}
use Rattle.fst_program.specs.Plain.{plain_param}
use Rattle.fst_top.specs.Answering.{IsArgumentRead}
use Rattle.fst_top.proofs.ArgumentLemmas.{Follows, follows-pushed, all-are-arguments}
use Rattle.fst_top.proofs.arguments.read_arguments.Goals as goal

pub parameters-preserved : goal.parameters-preserved
parameters-preserved c =
    let ps = map plain_param c.args.params.now in
    let ws = c.args.words.now in
    record {
      follows = follows-pushed ps ws c.in-Some.param.now c.in-Some.more.now c.in-Some-split_first.word.now c.in-Some-split_first.others.now c.parameters.values c.push.new.self c.in-Some-2.value c.in_ok-push.ensures.ok
          (subst (IsArgumentRead (plain_sort c.in-Some.param.now.sort) c.in-Some-split_first.word.now) c.in-Some-2.is c.in_ok-value.ensures)
          (subst (λ words. Follows ps ws (map plain_param (c.in-Some.param.now ∷ c.in-Some.more.now)) words (map plain_value c.parameters.values)) c.in-Some-split_first.ensures.cases.0
          (subst (λ left. Follows ps ws (map plain_param left) c.parameters.rest.now (map plain_value c.parameters.values)) c.in-Some.ensures.cases.0 c.parameters.invariant.follows));
    }

pub returns-then-is_empty : goal.returns-then-is_empty
returns-then-is_empty c =
    let test = c.is_empty.ensures in
    let yes = c.if-is_empty.true in
    let none : length c.parameters.rest.now ≡ 0 = grind (arith, test, yes) in
    all-are-arguments (map plain_param c.args.params.now) c.args.words.now c.parameters.values c.parameters.left.now c.parameters.rest.now c.in_default.ensures.cases none c.parameters.invariant.follows

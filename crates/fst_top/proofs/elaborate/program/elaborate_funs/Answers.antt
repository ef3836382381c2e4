use Rattle.std.proofs.Common.{◌≡◌, ◌+◌, [], ◌∷◌, map, Some, Err, refl, sym, ap, ap₂, ◌∙◌, rules, arith}
use Rattle.std.proofs.lemmas.Grind.{common_steps}
use Rattle.std.proofs.lemmas.List.{length-append}
use Rattle.std.proofs.lemmas.Option.{slice_get_read}
use Rattle.fst_program.specs.declared.fun.Fun.{Fun}
use Rattle.fst_program.specs.Plain.{plain_fun}
use Rattle.fst_program.specs.Texts.{Fn}
use Rattle.fst_top.specs.Elaboration.{funs_from}
use Rattle.fst_top.specs.Elaborating.{Gives}
use Rattle.fst_top.specs.Functions.{next_fun, plain_funs}
use Rattle.fst_top.proofs.GatheredLemmas.{gathers-no, gathers-next}
use Rattle.fst_top.proofs.FunctionLemmas.{funs-begin}
use Rattle.fst_top.proofs.StopLemmas.{gives-stop}
use Rattle.fst_top.proofs.elaborate.program.elaborate_funs.Goals as goal

pub returns-in_err-fun : goal.returns-in_err-fun
returns-in_err-fun c =
    let at = slice_get_read c.args.decls.now _ c.loop-decl.decl-index c.decl-item.result refl c.loop-decl-test.true c.decl-item.is in
    let step = gathers-no plain_fun (λ (f : Fn). f.name) funs_from next_fun funs-begin c.args.decls.now c.loop-decl.decl-index c.loop-decl.funs c.decl-item.result at in
    let number : c.len-number.result ≡ c.loop-decl.decl-index = c.len-number.ensures ∙ c.loop-decl.invariant.number in
    let g : Gives plain_funs (funs_from 0 [] c.args.decls.now) (Err c.in_err-fun.field-0.0) =
    gives-stop plain_fun plain_funs (next_fun c.len-number.result (map (λ (f : Fun). f.name) c.as_slice.result.now) c.decl-item.result) _ _ (λ e. step (ap₂ (λ k fs. next_fun k (map (λ (f : Fun). f.name) fs) c.decl-item.result) (sym number) (sym c.as_slice.ensures) ∙ e) c.loop-decl.invariant.funs) c.in_err-fun.ensures in
    first_of (search rules, grind (arith, common_steps))

pub loop-decl-preserved : goal.loop-decl-preserved
loop-decl-preserved c =
    let at = slice_get_read c.args.decls.now _ c.loop-decl.decl-index c.decl-item.result refl c.loop-decl-test.true c.decl-item.is in
    let number : c.len-number.result ≡ c.loop-decl.decl-index = c.len-number.ensures ∙ c.loop-decl.invariant.number in
    let made : next_fun c.loop-decl.decl-index (map (λ (f : Fun). f.name) c.loop-decl.funs) c.decl-item.result ≡ Some (plain_fun c.in_ok-fun.fun) =
    ap₂ (λ k fs. next_fun k (map (λ (f : Fun). f.name) fs) c.decl-item.result) (sym number) (sym c.as_slice.ensures) ∙ c.in_ok-fun.ensures in
    let more = gathers-next plain_fun (λ (f : Fn). f.name) funs_from next_fun funs-begin c.args.decls.now c.loop-decl.decl-index c.loop-decl.funs c.decl-item.result c.in_ok-fun.fun at made c.loop-decl.invariant.funs in
    record {
      funs = rw c.in_ok-push.ensures.ok more;
      number = rw c.in_ok-push.ensures.ok (length-append c.loop-decl.funs (c.in_ok-fun.fun ∷ []) ∙ ap (λ n. n + 1) c.loop-decl.invariant.number);
    }

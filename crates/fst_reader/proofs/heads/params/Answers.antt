use Rattle.std.proofs.Common.{◌≡◌, true, false, List, sym, subst, ◌∙◌, rules, arith, Err}
use Rattle.std.proofs.lemmas.Grind.{common_steps}
use Rattle.fst_trees.specs.declared.word.Word.{Word}
use Rattle.fst_trees.specs.declared.decl.ParamTree.{ParamTree}
use Rattle.fst_syntax.specs.Productions as n
use Rattle.fst_syntax.specs.Reading.{Reads, reads}
use Rattle.fst_syntax.proofs.Runs.{all_read, comes, params_listed}
use Rattle.fst_reader.proofs.heads.params.Goals as goal

pub params-init : goal.params-init
params-init c = let e = sym (all_read (reads n.params c.args.reader.now)) in record { so_far = first_of (search rules, grind (arith, common_steps)); no_longer = omega arith }

pub returns-in_err-param-clause-reads : goal.returns-in_err-param-clause-reads
returns-in_err-param-clause-reads c =
    let test : comes n.param c.params.reader ≡ true = first_of (search rules, grind (arith, common_steps)) in
    let h : Reads {A = List (ParamTree Word)} (reads n.params c.args.reader.now) (Err c.in_err-param.field-0.0) c.param.new.reader =
    subst (λ o. Reads {A = List (ParamTree Word)} o (Err c.in_err-param.field-0.0) c.param.new.reader) (sym c.params.invariant.so_far) ((params_listed c.params.reader).no_item _ _ _ test c.in_err-param.ensures.reads) in
    first_of (search rules, grind (arith, common_steps))

pub params-preserved : goal.params-preserved
params-preserved c =
    let test : comes n.param c.params.reader ≡ true = first_of (search rules, grind (arith, common_steps)) in
    let e = c.params.invariant.so_far ∙ (params_listed c.params.reader).step c.params.params _ _ test c.in_ok-param.ensures.reads in
    record { so_far = first_of (search rules, grind (arith, common_steps)); no_longer = first_of (omega arith, grind (arith, common_steps)) }

pub returns-clause-reads : goal.returns-clause-reads
returns-clause-reads c =
    let test : comes n.param c.params.reader ≡ false = first_of (search rules, grind (arith, common_steps)) in
    c.params.invariant.so_far ∙ (params_listed c.params.reader).stop _ test

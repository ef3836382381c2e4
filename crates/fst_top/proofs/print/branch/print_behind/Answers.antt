use Rattle.std.proofs.Common.{ap, sym, ◌∙◌, ◌++◌}
use Rattle.fst_top.specs.Printed.{numbered}
use Rattle.fst_top.proofs.PrintLemmas.{get-there, on-ok, variable-there}
use Rattle.fst_top.proofs.print.branch.print_behind.Goals as goal

pub returns : goal.returns
returns c = on-ok c.print_numbered.result
    (λ e. e ∙ ap (λ t. c.args.out.now ++ t) (ap (numbered c.in-Some.var.now.name) c.count_of_name.ensures.count ∙ sym (variable-there c.args.vars.now c.args.at c.in-Some.var.now (get-there c.args.vars.now c.args.at _ c.in-Some.var.now c.in-Some.ensures.lookup.3.0 c.in-Some.ensures.lookup.1))))
    c.print_numbered.ensures

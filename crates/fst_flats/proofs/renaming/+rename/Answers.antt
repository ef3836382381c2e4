use Rattle.std.proofs.Common.{◌∙◌, map}
use Rattle.std.proofs.lemmas.Result.{IfOk-weaker}
use Rattle.fst_flats.specs.Preparing.{sorts_in}
use Rattle.fst_terms.specs.Terms.{plain_term}
use Rattle.fst_flats.proofs.NameLemmas.{rename-Var-by, rename-Prim-by, rename-App-by}
use Rattle.fst_flats.proofs.renaming.+rename.Goals as goal

pub rename-returns-in-Var : goal.rename-returns-in-Var
rename-returns-in-Var t c = IfOk-weaker c.past.result _ _ (λ made e. e ∙ rename-Var-by (sorts_in c.args.sorts.now) c.args.is_argument c.args.names.now _ _ _ c.in-Var.is c.len.ensures) c.past.ensures

pub rename-returns-in_ok-sort-in-Prim : goal.rename-returns-in_ok-sort-in-Prim
rename-returns-in_ok-sort-in-Prim t c =
    rename-Prim-by (sorts_in c.args.sorts.now) (map plain_term c.args.names.now) c.args.is_argument _ _ _ _ _ _ _ _ _ _ _ c.in-Prim.is c.is_named.ensures c.if-is_named.false c.in_ok-sort-in-Prim.ensures c.as_slice.ensures c.as_slice-in-Prim.ensures c.in_ok-args_are-in-Prim.ensures c.in_ok-args-in-Prim.ensures

pub rename-returns-in_ok-sort-in-App : goal.rename-returns-in_ok-sort-in-App
rename-returns-in_ok-sort-in-App t c =
    rename-App-by (sorts_in c.args.sorts.now) (map plain_term c.args.names.now) c.args.is_argument _ _ _ _ _ _ _ c.in-App.is c.in_ok-sort-in-App.ensures c.as_slice-in-App.ensures c.in_ok-args-in-App.ensures

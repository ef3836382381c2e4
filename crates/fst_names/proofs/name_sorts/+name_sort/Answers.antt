use Rattle.std.proofs.Common.{sym, ap, ◌∙◌}
use Rattle.fst_names.specs.Looked.{tables_in}
use Rattle.fst_names.specs.Trees.{w_name}
use Rattle.fst_names.specs.Namings.{sort_named}
use Rattle.fst_names.proofs.CheckSortLemmas.{plain-Ident}
use Rattle.fst_names.proofs.NameSortLemmas.{name-Ident}
use Rattle.fst_names.proofs.name_sorts.+name_sort.Goals as goal

pub returns-in-Ident : goal.returns-in-Ident
returns-in-Ident t c =
    let T = tables_in c.args.tables.now in
    plain-Ident c.sort_ref.result ∙ ap w_name c.sort_ref.ensures ∙ sym (ap (sort_named T) c.in-Ident.is ∙ name-Ident T c.in-Ident.word)

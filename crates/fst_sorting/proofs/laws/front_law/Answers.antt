use Rattle.fst_names.specs.Declarations.{decls_of}
use Rattle.fst_sorting.proofs.FrontLemmas.{front-law}
use Rattle.fst_sorting.proofs.laws.front_law.Goals as goal

pub returns : goal.returns
returns c = front-law (decls_of c.args.program.now)

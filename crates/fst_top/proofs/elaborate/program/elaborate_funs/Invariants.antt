use Rattle.std.proofs.Common.{◌≡◌, length}
use Rattle.fst_program.specs.Plain.{plain_fun}
use Rattle.fst_program.specs.Texts.{Fn}
use Rattle.fst_top.specs.Elaboration.{funs_from}
use Rattle.fst_top.proofs.GatheredLemmas.{SoFar}
use Rattle.fst_top.proofs.elaborate.program.elaborate_funs.Given as goal

abbrev pub invariant-loop-decl : goal.invariant-loop-decl
invariant-loop-decl l = record {
  funs : SoFar plain_fun (λ (f : Fn). f.name) funs_from l.decls l.decl-index l.funs;
  number : length l.funs ≡ l.decl-index;
}

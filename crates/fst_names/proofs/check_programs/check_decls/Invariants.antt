use Rattle.std.proofs.Common.{◌≡◌, take}
use Rattle.fst_names.specs.Declarations.{decls_break, count_of}
use Rattle.fst_names.specs.Looked.{before_in}
use Rattle.fst_names.proofs.check_programs.check_decls.Given as goal

abbrev pub invariant-loop-decl : goal.invariant-loop-decl
invariant-loop-decl l = record {
  found : l.found ≡ decls_break l.globals (take l.decl-index l.decls);
  before : before_in l.before ≡ count_of (take l.decl-index l.decls);
}

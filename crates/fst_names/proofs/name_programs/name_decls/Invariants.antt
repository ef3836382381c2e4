use Rattle.std.proofs.Common.{◌≡◌, map, take}
use Rattle.fst_names.specs.Namings.{ref_at}
use Rattle.fst_names.specs.NamedDeclarations.{decls_named}
use Rattle.fst_names.specs.Declarations.{count_of}
use Rattle.fst_names.specs.Looked.{before_in}
use Rattle.fst_names.specs.Trees.{plain_decl}
use Rattle.fst_names.proofs.name_programs.name_decls.Given as goal

abbrev pub invariant-loop-decl : goal.invariant-loop-decl
invariant-loop-decl l = record {
  so_far : map (plain_decl ref_at) l.named ≡ decls_named l.globals (take l.decl-index l.decls);
  before : before_in l.before ≡ count_of (take l.decl-index l.decls);
}

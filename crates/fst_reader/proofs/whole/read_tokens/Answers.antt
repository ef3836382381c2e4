use Rattle.std.proofs.Common.{◌∙◌}
use Rattle.fst_reader.proofs.Exact.{tree, only, left_fault, none_left, stop_fault, no_tree, same_place}
use Rattle.fst_reader.proofs.whole.read_tokens.Goals as goal

pub returns-in-None-clause-tree : goal.returns-in-None-clause-tree
returns-in-None-clause-tree c = tree _ _ c.new-reader.ensures _ _ c.in-Ok.ensures.reads c.in-None.ensures

pub returns-in-None-clause-only : goal.returns-in-None-clause-only
returns-in-None-clause-only c = only _ _ c.new-reader.ensures _ _ c.in-Ok.ensures.reads

pub returns-in-Some-clause-only : goal.returns-in-Some-clause-only
returns-in-Some-clause-only c = λ decls d. absurd (none_left _ _ c.new-reader.ensures _ _ c.in-Ok.ensures.reads _ decls c.in-Some.ensures d)

pub returns-in-Some-clause-fault : goal.returns-in-Some-clause-fault
returns-in-Some-clause-fault c = λ at e. (_, (left_fault _ _ c.new-reader.ensures _ _ c.in-Ok.ensures.reads _ c.in-Some.ensures, same_place _ at e ∙ c.in-Some.ensures))

pub returns-in-Err-Syntax-clause-only : goal.returns-in-Err-Syntax-clause-only
returns-in-Err-Syntax-clause-only c = λ decls d. absurd (no_tree _ _ c.new-reader.ensures c.program.new.reader (rw c.in-Err-Syntax.field-0-is at c.in-Err-Syntax.ensures.reads) decls d)

pub returns-in-Err-Syntax-clause-fault : goal.returns-in-Err-Syntax-clause-fault
returns-in-Err-Syntax-clause-fault c = λ at e. (_, (stop_fault _ _ c.new-reader.ensures c.program.new.reader (rw c.in-Err-Syntax.field-0-is at c.in-Err-Syntax.ensures.reads), same_place _ at e ∙ c.place-in-Err-Syntax.ensures))

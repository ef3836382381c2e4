use Rattle.std.proofs.Common.{◌≡◌, true, false, List, sym, subst, ◌∙◌, rules, arith, Err}
use Rattle.std.proofs.lemmas.Grind.{common_steps}
use Rattle.fst_trees.specs.declared.word.Word.{Word}
use Rattle.fst_trees.specs.declared.decl.Decl.{Decl}
use Rattle.fst_syntax.specs.Productions as n
use Rattle.fst_syntax.specs.Reading.{Reads, reads}
use Rattle.fst_syntax.proofs.Runs.{all_read, comes, program_listed}
use Rattle.fst_reader.proofs.decls.program.Goals as goal

pub decls-init : goal.decls-init
decls-init c = let e = sym (all_read (reads n.program c.args.reader.now)) in record { so_far = first_of (search rules, grind (arith, common_steps)); no_longer = omega arith }

pub returns-in_err-decl : goal.returns-in_err-decl
returns-in_err-decl c =
    let test : comes n.decl c.decls.reader ≡ true = first_of (search rules, grind (arith, common_steps)) in
    let h : Reads {A = List (Decl Word)} (reads n.program c.args.reader.now) (Err c.in_err-decl.field-0.0) c.decl.new.reader =
    subst (λ o. Reads {A = List (Decl Word)} o (Err c.in_err-decl.field-0.0) c.decl.new.reader) (sym c.decls.invariant.so_far) ((program_listed c.decls.reader).no_item _ _ _ test c.in_err-decl.ensures.reads) in
    first_of (search rules, grind (arith, common_steps))

pub decls-preserved : goal.decls-preserved
decls-preserved c =
    let test : comes n.decl c.decls.reader ≡ true = first_of (search rules, grind (arith, common_steps)) in
    let e = c.decls.invariant.so_far ∙ (program_listed c.decls.reader).step c.decls.decls _ _ test c.in_ok-decl.ensures.reads in
    record { so_far = first_of (search rules, grind (arith, common_steps)); no_longer = first_of (omega arith, grind (arith, common_steps)) }

pub returns : goal.returns
returns c =
    let test : comes n.decl c.decls.reader ≡ false = first_of (search rules, grind (arith, common_steps)) in
    record { reads = c.decls.invariant.so_far ∙ (program_listed c.decls.reader).stop _ test }

use Rattle.std.proofs.Common.{◌≡◌, true, false, List, [], ◌∷◌, sym, subst, ◌∙◌, rules, arith, Err}
use Rattle.std.proofs.lemmas.Grind.{common_steps}
use Rattle.fst_syntax.specs.Trees.{Tree}
use Rattle.fst_syntax.specs.Reading.{Reads, reads, behind}
use Rattle.fst_syntax.specs.Productions as n
use Rattle.fst_syntax.proofs.Enclosed.{comes, list_stop, list_step, list_no_mark, list_no_term}
use Rattle.fst_term_reader.proofs.terms.Terms.terms_more.Goals as goal

pub returns-in_err-term-clause-reads : goal.returns-in_err-term-clause-reads
returns-in_err-term-clause-reads g c =
    let test : comes (c.terminal-mark.result ∷ []) c.loop-mark.reader ≡ true = first_of (search rules, grind (arith, common_steps)) in
    let h : Reads {A = List Tree} (behind (c.args.first ∷ []) (reads (n.terms_more c.args.separator c.args.self.now.formula) c.args.reader.now)) (Err c.in_err-term.field-0.0) c.nested.new.reader =
    subst (λ o. Reads {A = List Tree} o (Err c.in_err-term.field-0.0) c.nested.new.reader) (sym c.loop-mark.invariant.so_far) (list_no_term _ _ _ _ _ _ _ _ _ c.terminal-mark.ensures test c.in_ok-expect.ensures.reads c.in_err-term.ensures.reads) in
    first_of (search rules, grind (arith, common_steps))

pub returns-in_err-expect-clause-reads : goal.returns-in_err-expect-clause-reads
returns-in_err-expect-clause-reads g c =
    let test : comes (c.terminal-mark.result ∷ []) c.loop-mark.reader ≡ true = first_of (search rules, grind (arith, common_steps)) in
    let h : Reads {A = List Tree} (behind (c.args.first ∷ []) (reads (n.terms_more c.args.separator c.args.self.now.formula) c.args.reader.now)) (Err c.in_err-expect.field-0.0) c.expect.new.self =
    subst (λ o. Reads {A = List Tree} o (Err c.in_err-expect.field-0.0) c.expect.new.self) (sym c.loop-mark.invariant.so_far) (list_no_mark _ _ _ _ _ _ _ c.terminal-mark.ensures test c.in_err-expect.ensures.reads) in
    first_of (search rules, grind (arith, common_steps))

pub loop-mark-preserved : goal.loop-mark-preserved
loop-mark-preserved g c =
    let test : comes (c.terminal-mark.result ∷ []) c.loop-mark.reader ≡ true = first_of (search rules, grind (arith, common_steps)) in
    let e = c.loop-mark.invariant.so_far ∙ list_step _ _ _ _ _ _ c.loop-mark.terms _ _ c.terminal-mark.ensures test c.in_ok-expect.ensures.reads c.in_ok-term.ensures.reads in
    record { so_far = first_of (search rules, grind (arith, common_steps)); no_longer = first_of (omega arith, grind (arith, common_steps)) }

pub returns-clause-reads : goal.returns-clause-reads
returns-clause-reads g c =
    let test : comes (c.terminal-mark.result ∷ []) c.loop-mark.reader ≡ false = first_of (search rules, grind (arith, common_steps)) in
    c.loop-mark.invariant.so_far ∙ list_stop _ _ _ _ _ c.terminal-mark.ensures test

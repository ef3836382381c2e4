use Rattle.std.proofs.Common.{◌≡◌, true, false, sym, subst, ap, ◌∙◌, rules, arith, Err}
use Rattle.std.proofs.lemmas.Grind.{common_steps}
use Rattle.fst_grammar.specs.Alphabet.{has, next}
use Rattle.fst_syntax.specs.declared.operator.Operator.{Operator}
use Rattle.fst_syntax.specs.Tables.{firsts}
use Rattle.fst_syntax.specs.Tokens.{alphabet}
use Rattle.fst_syntax.specs.Trees.{Tree}
use Rattle.fst_syntax.specs.Reading.{Reads, reads, run, applied}
use Rattle.fst_syntax.specs.Tails as tails
use Rattle.fst_syntax.specs.Productions as n
use Rattle.fst_syntax.proofs.Chains.{sum_chained}
use Rattle.fst_term_reader.proofs.terms.Terms.sum_more.Goals as goal

pub returns-in_err-left-clause-reads : goal.returns-in_err-left-clause-reads
returns-in_err-left-clause-reads g c =
    let test : has alphabet (firsts n.sum_operator) (next alphabet c.operators.reader) ≡ true = first_of (search rules, grind (arith, common_steps)) in
    let h : Reads {A = Tree} (applied c.args.left (reads (n.sum_more c.args.self.now.formula) c.args.reader.now)) (Err c.in_err-left.field-0.0) c.sum_step.new.reader =
    subst (λ o. Reads {A = Tree} o (Err c.in_err-left.field-0.0) c.sum_step.new.reader) (sym c.operators.invariant.so_far) ((sum_chained c.args.self.now.formula c.operators.reader).no_step _ _ _ test (subst (λ r. Reads {A = Operator × Tree} (run (tails.sum_step c.args.self.now.formula) c.operators.reader) r c.sum_step.new.reader) c.in_err-left.ensures.err c.sum_step.ensures.reads)) in
    first_of (search rules, grind (arith, common_steps))

pub operators-preserved : goal.operators-preserved
operators-preserved g c =
    let test : has alphabet (firsts n.sum_operator) (next alphabet c.operators.reader) ≡ true = first_of (search rules, grind (arith, common_steps)) in
    let read = subst (λ r. Reads {A = Operator × Tree} (run (tails.sum_step c.args.self.now.formula) c.operators.reader) r c.sum_step.new.reader) c.in_ok-left.ensures.ok.1 c.sum_step.ensures.reads in
    let same = ap (λ a. applied a (reads (n.sum_more c.args.self.now.formula) c.operators.reader)) (sym c.in_ok-left.ensures.ok.0) in
    let e = c.operators.invariant.so_far ∙ (same ∙ (sum_chained c.args.self.now.formula c.operators.reader).step c.in_ok-left.left _ _ _ test read) in
    record { so_far = first_of (search rules, grind (arith, common_steps)); no_longer = first_of (omega arith, grind (arith, common_steps)) }

pub returns-clause-reads : goal.returns-clause-reads
returns-clause-reads g c =
    let test : has alphabet (firsts n.sum_operator) (next alphabet c.operators.reader) ≡ false = first_of (search rules, grind (arith, common_steps)) in
    c.operators.invariant.so_far ∙ (sum_chained c.args.self.now.formula c.operators.reader).stop _ test

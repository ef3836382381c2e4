use Rattle.std.proofs.Common.{◌≡◌, true, false, [], ◌∷◌, sym, subst, ap, ◌∙◌, rules, arith, Err}
use Rattle.std.proofs.lemmas.Grind.{common_steps}
use Rattle.fst_base.specs.declared.place.Pos.{Pos}
use Rattle.fst_grammar.specs.Alphabet.{has, next}
use Rattle.fst_syntax.specs.declared.terminal.Terminal.TheVariants as k
use Rattle.fst_syntax.specs.Tokens.{alphabet}
use Rattle.fst_syntax.specs.Trees.{Tree}
use Rattle.fst_syntax.specs.Reading.{Reads, reads, run, applied}
use Rattle.fst_syntax.specs.Tails as tails
use Rattle.fst_syntax.specs.Productions as n
use Rattle.fst_syntax.proofs.Chains.{conj_chained}
use Rattle.fst_term_reader.proofs.terms.Terms.conj_more.Goals as goal

pub returns-in_err-left-clause-reads : goal.returns-in_err-left-clause-reads
returns-in_err-left-clause-reads g c =
    let test : has alphabet (k.AmpAmp ∷ []) (next alphabet c.operators.reader) ≡ true = first_of (search rules, grind (arith, common_steps)) in
    let h : Reads {A = Tree} (applied c.args.left (reads (n.conj_more c.args.self.now.formula) c.args.reader.now)) (Err c.in_err-left.field-0.0) c.conj_step.new.reader =
    subst (λ o. Reads {A = Tree} o (Err c.in_err-left.field-0.0) c.conj_step.new.reader) (sym c.operators.invariant.so_far) ((conj_chained c.args.self.now.formula c.operators.reader).no_step _ _ _ test (subst (λ r. Reads {A = Pos × Tree} (run (tails.conj_step c.args.self.now.formula) c.operators.reader) r c.conj_step.new.reader) c.in_err-left.ensures.err c.conj_step.ensures.reads)) in
    first_of (search rules, grind (arith, common_steps))

pub operators-preserved : goal.operators-preserved
operators-preserved g c =
    let test : has alphabet (k.AmpAmp ∷ []) (next alphabet c.operators.reader) ≡ true = first_of (search rules, grind (arith, common_steps)) in
    let read = subst (λ r. Reads {A = Pos × Tree} (run (tails.conj_step c.args.self.now.formula) c.operators.reader) r c.conj_step.new.reader) c.in_ok-left.ensures.ok.1 c.conj_step.ensures.reads in
    let same = ap (λ a. applied a (reads (n.conj_more c.args.self.now.formula) c.operators.reader)) (sym c.in_ok-left.ensures.ok.0) in
    let e = c.operators.invariant.so_far ∙ (same ∙ (conj_chained c.args.self.now.formula c.operators.reader).step c.in_ok-left.left _ _ _ test read) in
    record { so_far = first_of (search rules, grind (arith, common_steps)); no_longer = first_of (omega arith, grind (arith, common_steps)) }

pub returns-clause-reads : goal.returns-clause-reads
returns-clause-reads g c =
    let test : has alphabet (k.AmpAmp ∷ []) (next alphabet c.operators.reader) ≡ false = first_of (search rules, grind (arith, common_steps)) in
    c.operators.invariant.so_far ∙ (conj_chained c.args.self.now.formula c.operators.reader).stop _ test

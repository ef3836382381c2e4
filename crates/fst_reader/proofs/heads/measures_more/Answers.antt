use Rattle.std.proofs.Common.{◌≡◌, ◌-◌, suc, true, false, List, [], ◌∷◌, sym, subst, ◌∙◌, rules, arith, Err}
use Rattle.std.proofs.lemmas.Grind.{common_steps}
use Rattle.fst_syntax.specs.declared.terminal.Terminal.TheVariants as k
use Rattle.fst_syntax.specs.Trees.{Tree}
use Rattle.fst_syntax.specs.Productions as n
use Rattle.fst_syntax.specs.Reading.{Reads, reads, behind}
use Rattle.fst_syntax.proofs.Enclosed.{comes}
use Rattle.fst_syntax.proofs.Measures.{one_more, bad_comma, bad_form, none_left, no_comma}
use Rattle.fst_reader.proofs.heads.measures_more.Goals as goal
use Rattle.fst_reader.proofs.heads.measures_more.Goals.{then-measures-test+else-at, else-measures-test}

pub returns-in_err-expect-clause-reads : goal.returns-in_err-expect-clause-reads
returns-in_err-expect-clause-reads c =
    let test : comes (k.Comma ∷ []) c.measures.reader ≡ true = first_of (search rules, grind (arith, common_steps)) in
    let w : c.measures.more ≡ suc (c.measures.more - 1) = omega arith in
    let h : Reads {A = List Tree} (behind (c.args.first ∷ []) (reads (n.measures_more 3) c.args.reader.now)) (Err c.in_err-expect.field-0.0) c.expect.new.self =
    subst (λ o. Reads {A = List Tree} o (Err c.in_err-expect.field-0.0) c.expect.new.self) (sym c.measures.invariant.so_far) (bad_comma _ _ _ _ _ _ w test c.in_err-expect.ensures.reads) in
    first_of (search rules, grind (arith, common_steps))

pub returns-in_err-measure-clause-reads : goal.returns-in_err-measure-clause-reads
returns-in_err-measure-clause-reads c =
    let test : comes (k.Comma ∷ []) c.measures.reader ≡ true = first_of (search rules, grind (arith, common_steps)) in
    let w : c.measures.more ≡ suc (c.measures.more - 1) = omega arith in
    let h : Reads {A = List Tree} (behind (c.args.first ∷ []) (reads (n.measures_more 3) c.args.reader.now)) (Err c.in_err-measure.field-0.0) c.form.new.self =
    subst (λ o. Reads {A = List Tree} o (Err c.in_err-measure.field-0.0) c.form.new.self) (sym c.measures.invariant.so_far) (bad_form _ _ _ _ _ _ _ _ w test c.in_ok-expect.ensures.reads c.in_err-measure.ensures.reads) in
    first_of (search rules, grind (arith, common_steps))

pub measures-preserved : goal.measures-preserved
measures-preserved c =
    let test : comes (k.Comma ∷ []) c.measures.reader ≡ true = first_of (search rules, grind (arith, common_steps)) in
    let w : c.measures.more ≡ suc (c.measures.more - 1) = omega arith in
    let e = c.measures.invariant.so_far ∙ one_more _ _ _ c.measures.measures _ _ _ _ w test c.in_ok-expect.ensures.reads c.in_ok-measure.ensures.reads in
    record { so_far = first_of (search rules, grind (arith, common_steps)); no_longer = first_of (omega arith, grind (arith, common_steps)) }

pub returns-clause-reads : goal.returns-clause-reads
returns-clause-reads c = elim c.measures-test.branch [
  | then-measures-test+else-at w ↦
      let test : comes (k.Comma ∷ []) c.measures.reader ≡ false = first_of (search rules, grind (arith, common_steps)) in
      c.measures.invariant.so_far ∙ no_comma _ c.measures.measures _ test
  | else-measures-test w ↦
      let none : c.measures.more ≡ 0 = omega (arith, w.measures-test.false) in
      c.measures.invariant.so_far ∙ none_left _ c.measures.measures _ none
]

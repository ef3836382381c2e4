use Rattle.std.proofs.Common.{◌∙◌, length, ap, sym, rules}
use Rattle.fst_terms.specs.Indices.{lets_of}
use Rattle.fst_terms.specs.Terms.{plain_terms}
use Rattle.fst_terms.specs.declared.term.Term as D
use Rattle.fst_terms.proofs.PartLemmas.{lets-Prim}
use Rattle.fst_terms.proofs.ReadingLemmas.{two-sides}
use Rattle.fst_terms.proofs.reading.+read.Goals as goal

pub read-read_equation-requires : goal.read-read_equation-requires
read-read_equation-requires t c =
    let sides = c.as_slice-in-Bools.ensures ∙ sym c.as_slice-in-Prim.ensures in
    let two = ap length sides ∙ two-sides _ c.in-Prim.op c.as_slice-in-Prim.result.now (sym c.in-Bools.is ∙ c.operator_form.ensures) in
    let none = ap (λ ts. lets_of (plain_terms ts)) c.as_slice-in-Bools.ensures ∙ sym (lets-Prim _ _ _ _ _ c.in-Prim.is) ∙ c.requires in
    (search (rules, D.the_lemmas), (two, none))

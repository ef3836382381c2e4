use Rattle.std.proofs.Common.{◌≡◌, [], ◌∙◌, map, sym, ap, subst}
use Rattle.fst_terms.specs.Terms.{plain_term}
use Rattle.fst_terms.specs.Meaning.{plain_sequent}
use Rattle.fst_terms.specs.Flats.{plain_flat, flat_of, IsOpen}
use Rattle.fst_terms.proofs.ValidLemmas.{valid-closed, open-refutes}
use Rattle.fst_top.specs.Branches.{FirstOpen}
use Rattle.fst_top.proofs.branches.judge.Goals as goal

pub returns-in-Ok-None : goal.returns-in-Ok-None
returns-in-Ok-None c =
    let s = plain_sequent c.args.sequent.now in
    let f = plain_flat c.in_ok-flat.flat in
    let flat : f ≡ flat_of s [] = c.in_ok-flat.ensures ∙ ap (λ ts. flat_of s (map plain_term ts)) c.new.ensures in
    let none = subst (FirstOpen f) c.in-Ok-None.field-0-is c.in-Ok-None.ensures in
    λ M. valid-closed M s c.requires (λ ms o. none ms (subst (λ f. IsOpen f ms) (sym flat) o))

pub returns-in-Ok-Some : goal.returns-in-Ok-Some
returns-in-Ok-Some c =
    let s = plain_sequent c.args.sequent.now in
    let f = plain_flat c.in_ok-flat.flat in
    let flat : f ≡ flat_of s [] = c.in_ok-flat.ensures ∙ ap (λ ts. flat_of s (map plain_term ts)) c.new.ensures in
    let first = subst (FirstOpen f) c.in-Ok-Some.field-0-is c.in-Ok-Some.ensures in
    record { flat = flat; first = first; invalid = λ M. open-refutes M s c.requires c.in-Ok-Some.branch.marks (subst (λ f. IsOpen f c.in-Ok-Some.branch.marks) flat first.opens) }

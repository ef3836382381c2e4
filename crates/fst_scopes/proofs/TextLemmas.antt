-- The sort of a match, from the answer for its arms.
use Rattle.std.proofs.Common.{◌≡◌, List, sym, ap, ◌∙◌}
use Rattle.fst_base.specs.declared.place.Pos.{Pos}
use Rattle.fst_base.specs.Sorts.{Srt}
use Rattle.fst_terms.specs.declared.term.Term.{Term}
use Rattle.fst_terms.specs.Terms.{plain_term}
use Rattle.fst_program.specs.declared.comp.Arm.{Arm}
use Rattle.fst_program.specs.declared.comp.Comp.{Comp}
use Rattle.fst_program.specs.declared.comp.Comp.TheVariants as V
use Rattle.fst_program.specs.Texts.{c_match, Prog}
use Rattle.fst_program.specs.Paths.{text_sort}
use Rattle.fst_program.specs.Plain.{plain_comp}
use Rattle.fst_program.proofs.PlainLemmas.{plain_arms, plain-comp-Match}

pub match-sort-by : (P : Prog) (Ss : List Srt) (x : Term) (p : Pos) (arms slice : List (Arm Comp)) (t : Comp) (made : Srt) → t ≡ V.Match x p arms → slice ≡ arms
    → made ≡ text_sort P Ss (c_match (plain_term x) 0 (plain_arms slice)) → made ≡ text_sort P Ss (plain_comp t)
match-sort-by P Ss x p arms slice t made is s e =
    e ∙ ap (λ arms. text_sort P Ss (c_match (plain_term x) 0 (plain_arms arms))) s ∙ sym (ap (λ t. text_sort P Ss (plain_comp t)) is ∙ ap (text_sort P Ss) (plain-comp-Match x p arms))

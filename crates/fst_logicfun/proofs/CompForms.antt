-- The ends of a match, from the answers for its arms.
use Rattle.std.proofs.Common.{◌≡◌, List, [], ◌∷◌, refl, sym, ap, ◌∙◌}
use Rattle.fst_base.specs.declared.place.Pos.{Pos}
use Rattle.fst_base.specs.Sorts.{Srt}
use Rattle.fst_terms.specs.declared.term.Term.{Term}
use Rattle.fst_terms.specs.Terms.{plain_term}
use Rattle.fst_program.specs.declared.comp.Arm.{Arm}
use Rattle.fst_program.specs.declared.comp.Comp.{Comp}
use Rattle.fst_program.specs.declared.comp.Comp.TheVariants as V
use Rattle.fst_program.specs.Texts.{c_arm, c_match, Prog}
use Rattle.fst_program.specs.Paths.{text_sort}
use Rattle.fst_program.specs.Plain.{plain_comp}
use Rattle.fst_program.proofs.PlainLemmas.{plain_arms, plain-comp-Ret, plain-comp-Let, plain-comp-Bind, plain-comp-GhostLet, plain-comp-Assert, plain-comp-If, plain-comp-Call, plain-comp-Reify, plain-comp-Reflect, plain-comp-Return, plain-comp-Lift, plain-comp-Match}
use Rattle.fst_logicfun.specs.Ends.{End}
use Rattle.fst_logicfun.specs.Turns.{arms_in, ends_at}
use Rattle.fst_logicfun.specs.declared.ways.At.{At}

arms-in : (arms : List (Arm Comp)) → arms_in arms ≡ plain_arms arms
arms-in [] = refl
arms-in (arm ∷ more) = ap (c_arm arm.con arm.names (plain_comp arm.body)) (arms-in more)

pub match-ends-by : (at : At) (x : Term) (p : Pos) (arms slice : List (Arm Comp)) (t : Comp) (made : List End) → t ≡ V.Match x p arms → slice ≡ arms
    → made ≡ ends_at (c_match (plain_term x) 0 (arms_in slice)) at → made ≡ ends_at (plain_comp t) at
match-ends-by at x p arms slice t made is s e =
    e ∙ ap (λ arms. ends_at (c_match (plain_term x) 0 arms) at) (ap arms_in s ∙ arms-in arms) ∙ sym (ap (λ t. ends_at (plain_comp t) at) is ∙ ap (λ c. ends_at c at) (plain-comp-Match x p arms))

-- Erasure of the parts of texts and headers.
use Rattle.std.specs.Prelude.{Bool, false, not, if◌then◌else◌, List, [], ◌∷◌, ◌++◌, map, filter, None}
use Rattle.fst_terms.specs.Terms.{Tm}
use Rattle.fst_program.specs.declared.comp.Arm.{Arm}
use Rattle.fst_program.specs.declared.comp.Comp.{Comp}
use Rattle.fst_program.specs.Erasure.{Scope, erased_term, erased_text}
use Rattle.fst_program.specs.Plain.{plain_comp}
use Rattle.fst_program.specs.Texts.{Cm, Prm, Prog}

abbrev pub plain_arm : Arm Comp → Arm Cm
plain_arm arm = record { con = arm.con; names = arm.names; body = plain_comp arm.body }

abbrev pub erased_arm : Prog → Scope → Arm Cm → Arm Cm
erased_arm P scope arm = record { con = arm.con; names = arm.names; body = erased_text P (map (λ x. false) arm.names ++ scope) arm.body }

-- the first parameter is a ghost one
abbrev pub hides : List Prm → Bool
hides [] = false
hides (p ∷ ps) = p.hidden

-- the arguments that are left, as a list
abbrev pub shown_args : Scope → List Prm → List Tm → List Tm
shown_args scope ps [] = []
shown_args scope [] (t ∷ ts) = erased_term scope t ∷ shown_args scope [] ts
shown_args scope (p ∷ ps) (t ∷ ts) = if p.hidden then shown_args scope ps ts else erased_term scope t ∷ shown_args scope ps ts

-- a parameter without its refinement
abbrev pub bare_param : Prm → Prm
bare_param p = record { name = p.name; sort = p.sort; hidden = p.hidden; refine = None }

-- the parameters that are left
abbrev pub shown_params : List Prm → List Prm
shown_params ps = map bare_param (filter (λ p. not p.hidden) ps)

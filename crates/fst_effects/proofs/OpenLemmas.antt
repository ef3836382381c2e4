-- Matches that lack a constructor.
use Rattle.std.proofs.Common.{◌≡◌, Bool, true, false, not, ◌&&◌, List, [], ◌∷◌, map, refl, ap, ◌∙◌, if◌then◌else◌}
use Rattle.fst_base.specs.declared.place.Pos.{Pos}
use Rattle.fst_base.specs.declared.rule.Rule.TheVariants as rule
use Rattle.fst_base.specs.Sorts.{Srt}
use Rattle.fst_trees.specs.declared.pattern.ArmTree.{ArmTree}
use Rattle.fst_trees.specs.declared.definition.DmTree.{DmTree}
use Rattle.fst_names.specs.declared.reference.Ref.{Ref}
use Rattle.fst_names.specs.Broken.{first_broken, breaks}
use Rattle.fst_names.specs.Names.{unless}
use Rattle.fst_names.specs.Namings.{ref_at}
use Rattle.fst_names.specs.Trees.{plain_dm_arms}
use Rattle.fst_effects.specs.Patterns.{cons_of, constructors, lacks_one}
use Rattle.fst_effects.specs.DefinitionTexts.{open_of}

cons-plain : (arms : List (ArmTree (DmTree Ref))) → cons_of (plain_dm_arms ref_at arms) ≡ map (λ a. a.con) arms
cons-plain [] = refl
cons-plain (a ∷ arms) = ap (λ ks. a.con ∷ ks) (cons-plain arms)

chosen : (b : Bool) (at : Pos) → first_broken (if true && b then breaks rule.OpenMatch at.at else []) ≡ first_broken (unless (not b) (breaks rule.OpenMatch at.at))
chosen true at = refl
chosen false at = refl

pub open-is : (at : Pos) (S : Srt) (arms : List (ArmTree (DmTree Ref))) → open_of at S arms ≡ first_broken (unless (not (lacks_one (constructors S) (map (λ a. a.con) arms))) (breaks rule.OpenMatch at.at))
unfolding open_of
open-is at S arms = ap (λ ks. first_broken (if true && lacks_one (constructors S) ks then breaks rule.OpenMatch at.at else [])) (cons-plain arms) ∙ chosen (lacks_one (constructors S) (map (λ a. a.con) arms)) at

pub ruleset opens = (open-is)

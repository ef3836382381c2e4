-- What the five phases answer is what the front answers: of each phase what it refuses, behind phases that refuse nothing, and that where
-- none refuses nothing is refused.
use Rattle.std.proofs.Common.{◌≡◌, ℕ, List, [], ◌∷◌, ◌++◌, map, length, Option, Some, None, sym, ap, ◌∙◌, subst}
use Rattle.fst_base.specs.declared.place.Pos.{Pos}
use Rattle.fst_base.specs.declared.rule.Rule.{Rule}
use Rattle.fst_trees.specs.declared.word.Word.{Word}
use Rattle.fst_names.specs.declared.reference.Ref.{Ref}
use Rattle.fst_names.specs.declared.broken.Broken.{Broken}
use Rattle.fst_names.specs.Broken.{first_broken}
use Rattle.fst_names.specs.Names.{Before, Globals, after, broken_decl, broken_dm, broken_from, broken_names, broken_words, globals, input_of, listed, named, named_effect, named_from, runs_of, start}
use Rattle.fst_names.specs.Trees.{WDecl, w_effect, w_lift, w_fun}
use Rattle.fst_lattice.specs.Lattices.{AreWithin, IsLattice, IsRefused}
use Rattle.fst_effects.specs.Known.{EffectSorts}
use Rattle.fst_effects.specs.Definitions.{broken_definitions, core_effect, core_effects, core_lift, core_lifts, effect_sorts, effects_of, lifts_of}
use Rattle.fst_sorting.specs.Ascending.{Ascend}
use Rattle.fst_sorting.specs.Functions.{broken_funs}
use Rattle.fst_sorting.specs.Front.{front_refusal, lift_phase, phase}
use Rattle.fst_sorting.specs.Lifts.{broken_lifts}
use Rattle.fst_sorting.proofs.BasicLemmas.{none-left, none-right}
use Rattle.fst_sorting.proofs.DeclarationLemmas.{effect-within}
use Rattle.fst_sorting.proofs.LiftRefusals.{kept-unbroken, refused-first}
use Rattle.fst_sorting.proofs.ListLemmas.{count-map}

-- ---- lifts lead from effects to effects

module _ (all : List (WDecl Word)) where
  abbrev G : Globals
  G = globals all

  abbrev SS : List EffectSorts
  SS = map effect_sorts (effects_of (named all))

  same-count : length SS ≡ length (core_effects (named all))
  same-count = count-map effect_sorts (effects_of (named all)) ∙ sym (count-map core_effect (effects_of (named all)))

  within-from : (b : Before) (ds : List (WDecl Word)) → broken_from G b ds ≡ [] → AreWithin (length SS) (map (core_lift SS) (lifts_of (named_from G b ds)))
  within-from b [] u = tt
  within-from b (w_effect e ∷ ds) u = within-from (after b (w_effect e)) ds (none-right (broken_decl G b (w_effect e)) _ u)
  within-from b (w_lift l ∷ ds) u =
      let own = none-left (broken_decl G b (w_lift l)) _ u in
      let u3 = none-left _ (broken_dm G b (runs_of l.names) (input_of l.names) l.text) own in
      let u2 = none-left (listed (named_effect G b l.from).broken ++ listed (named_effect G b l.«to»).broken) (broken_words [] l.names) u3 in (
        (effect-within all b l.from (none-left _ (listed (named_effect G b l.«to»).broken) u2), effect-within all b l.«to» (none-right (listed (named_effect G b l.from).broken) _ u2)),
        within-from b ds (none-right (broken_decl G b (w_lift l)) _ u),
      )
  within-from b (w_fun f ∷ ds) u = within-from (after b (w_fun f)) ds (none-right (broken_decl G b (w_fun f)) _ u)

-- the premise of the lattice on lifts
pub lifts-within : (ds : List (WDecl Word)) → broken_names ds ≡ [] → AreWithin (length (core_effects (named ds))) (core_lifts (named ds))
lifts-within ds u = subst (λ n. AreWithin n (core_lifts (named ds))) (same-count ds) (within-from ds start ds u)

-- ---- phases

none-first : (bs : List Broken) (later : Option Broken) → bs ≡ [] → phase bs later ≡ later
none-first bs later e = ap (λ bs. phase bs later) e

some-first : (bs : List Broken) (later : Option Broken) (b : Broken) → first_broken bs ≡ Some b → phase bs later ≡ Some b
some-first [] later b e = cc
some-first (c ∷ bs) later b e = e

module _ (ds : List (WDecl Word)) where
  abbrev rs : List (WDecl Ref)
  rs = named ds

  abbrev places : List ℕ
  places = map (λ l. l.place) (lifts_of rs)

  -- a program is refused by the first phase that breaks a rule
  pub names-refuse : (b : Broken) → first_broken (broken_names ds) ≡ Some b → front_refusal ds ≡ Some b
  names-refuse b e = some-first (broken_names ds) _ b e

  pub definitions-refuse : (b : Broken) → broken_names ds ≡ [] → first_broken (broken_definitions rs) ≡ Some b → front_refusal ds ≡ Some b
  definitions-refuse b n e = none-first (broken_names ds) _ n ∙ some-first (broken_definitions rs) _ b e

  behind-definitions : (later : Option Broken) → broken_names ds ≡ [] → broken_definitions rs ≡ [] → phase (lift_phase rs) (phase (broken_funs rs) None) ≡ later → front_refusal ds ≡ later
  behind-definitions later n d e = none-first (broken_names ds) _ n ∙ none-first (broken_definitions rs) _ d ∙ e

  pub lifts-refuse : (ps : List Pos) (r : Rule) (at : Pos) → broken_names ds ≡ [] → broken_definitions rs ≡ [] → map (λ p. p.at) ps ≡ places → Ascend places
      → IsRefused (core_effects rs) (core_lifts rs) ps r at → front_refusal ds ≡ Some (record { at = at; rule = r })
  lifts-refuse ps r at n d e u h =
      behind-definitions (Some (record { at = at; rule = r })) n d
      (some-first (lift_phase rs) _ (record { at = at; rule = r })
      (ap (λ ats. first_broken (broken_lifts (core_effects rs) [] (core_lifts rs) ats)) (sym e)
      ∙ refused-first (core_effects rs) (core_lifts rs) ps r at h (lifts-within ds n) (subst Ascend (sym e) u)))

  lifts-pass : (step : ℕ → ℕ → Option ℕ) → IsLattice (core_effects rs) (core_lifts rs) step → lift_phase rs ≡ []
  lifts-pass step h = kept-unbroken (core_effects rs) (core_lifts rs) places h.keep

  pub funs-refuse : (step : ℕ → ℕ → Option ℕ) (b : Broken) → broken_names ds ≡ [] → broken_definitions rs ≡ [] → IsLattice (core_effects rs) (core_lifts rs) step
      → first_broken (broken_funs rs) ≡ Some b → front_refusal ds ≡ Some b
  funs-refuse step b n d h e = behind-definitions (Some b) n d (none-first (lift_phase rs) _ (lifts-pass step h) ∙ some-first (broken_funs rs) None b e)

  -- where no phase breaks a rule nothing is refused
  pub front-passes : (step : ℕ → ℕ → Option ℕ) → broken_names ds ≡ [] → broken_definitions rs ≡ [] → IsLattice (core_effects rs) (core_lifts rs) step → broken_funs rs ≡ [] → front_refusal ds ≡ None
  front-passes step n d h f = behind-definitions None n d (none-first (lift_phase rs) _ (lifts-pass step h) ∙ none-first (broken_funs rs) None f)

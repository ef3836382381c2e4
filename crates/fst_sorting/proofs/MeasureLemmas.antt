-- Functions that call one of their group without a measure, a variant of the text at a time.
use Rattle.std.proofs.Common.{◌≡◌, ℕ, ◌+◌, ◌<◌, Bool, true, false, not, ◌&&◌, ◌||◌, nat_eq, List, [], ◌∷◌, ◌++◌, length, take, get_or, slice_get, Option, Some, None, refl, sym, ap, ◌∙◌, if◌then◌else◌}
use Rattle.std.specs.Prelude.{option_map}
use Rattle.std.proofs.lemmas.List.{take_more, length-map}
use Rattle.std.proofs.lemmas.Option.{slice_get-map}
use Rattle.fst_base.specs.declared.place.Pos.{Pos}
use Rattle.fst_base.specs.declared.rule.Rule.TheVariants as rule
use Rattle.fst_program.specs.declared.effect.Effect.{Effect}
use Rattle.fst_program.specs.declared.effect.Effect.TheVariants as effect
use Rattle.fst_program.specs.Texts.{if_there}
use Rattle.fst_trees.specs.declared.word.Word.{Word}
use Rattle.fst_trees.specs.declared.sort.SortTree.{SortTree}
use Rattle.fst_trees.specs.declared.form.Form.{Form}
use Rattle.fst_trees.specs.declared.pattern.ArmTree.{ArmTree}
use Rattle.fst_trees.specs.declared.body.BodyTree.{BodyTree}
use Rattle.fst_trees.specs.declared.body.BodyTree.TheVariants as V
use Rattle.fst_trees.specs.declared.body.PartTree.{PartTree}
use Rattle.fst_trees.specs.declared.body.PartNode.TheVariants as W
use Rattle.fst_names.specs.declared.reference.Ref.{Ref}
use Rattle.fst_names.specs.declared.broken.Broken.{Broken}
use Rattle.fst_names.specs.Broken.{first_broken, breaks}
use Rattle.fst_names.specs.Names.{unless}
use Rattle.fst_names.specs.Trees.{plain_part, plain_text, plain_arms}
use Rattle.fst_names.proofs.TextTreeLemmas.{text-Let, text-GhostLet, text-Assert, text-If, text-Match, text-Part, part-Block, part-Call, part-Reify, part-Reflect, part-Term}
use Rattle.fst_effects.specs.Known.{EffectSorts, Known, is_div}
use Rattle.fst_effects.specs.TextSorts.{base_of}
use Rattle.fst_sorting.specs.declared.listing.Placed as P
use Rattle.fst_sorting.specs.Functions.{Placed, effect_of, diverges, callees, part_callees, arm_callees, has_member, unmeasured, calls_unmeasured}
use Rattle.fst_sorting.specs.Listed.{placed_in, all_placed, text_calls, part_node_calls, part_calls, arms_call, loose_of}

-- ---- one call

there : (fs : List P.Placed) (own : P.Placed) (j : ℕ) (o : Option P.Placed) → slice_get fs j ≡ o
    → calls_unmeasured (all_placed fs) (placed_in own) j ≡ if_there (option_map placed_in o) (λ g. nat_eq g.group own.group && unmeasured (length (placed_in own).tree.measures) (length g.tree.measures)) false
there fs own j o e = ap (λ p. if_there p (λ g. nat_eq g.group own.group && unmeasured (length (placed_in own).tree.measures) (length g.tree.measures)) false) (slice_get-map placed_in fs j ∙ ap (option_map placed_in) e)

pub call-none : (fs : List P.Placed) (own : P.Placed) (j : ℕ) → slice_get fs j ≡ None → calls_unmeasured (all_placed fs) (placed_in own) j ≡ false
call-none fs own j e = there fs own j None e

pub call-some : (fs : List P.Placed) (own : P.Placed) (j : ℕ) (p : P.Placed) → slice_get fs j ≡ Some p
    → calls_unmeasured (all_placed fs) (placed_in own) j ≡ (nat_eq p.group own.group && unmeasured (length own.tree.now.head.measures) (length p.tree.now.head.measures))
call-some fs own j p e =
    there fs own j (Some p) e
    ∙ ap (λ n. nat_eq p.group own.group && unmeasured n (length (placed_in p).tree.measures)) (length-map own.tree.now.head.measures _)
    ∙ ap (λ n. nat_eq p.group own.group && unmeasured (length own.tree.now.head.measures) n) (length-map p.tree.now.head.measures _)

pub ruleset calls = (call-none, call-some)

-- ---- the effect

div-is : (e : Effect) → elim e as (λ e. Bool) [ effect.Pure ↦ false | effect.Ghost ↦ false | effect.Div ↦ true | effect.User n ↦ false ] ≡ is_div e
div-is effect.Pure = refl
div-is effect.Ghost = refl
div-is effect.Div = refl
div-is (effect.User n) = refl

pub diverges-user : (es : ℕ → Option EffectSorts) (E : ℕ) → diverges es (effect.User E) ≡ is_div (base_of (es E))
diverges-user es E = div-is (base_of (es E))

pub ruleset effects = (diverges-user)

-- ---- texts

module _ (test : ℕ → Bool) where
  either : (a b c : Bool) → a || (b || c) ≡ (a || b) || c
  either true b c = refl
  either false b c = refl

  has-append : (ns ms : List ℕ) → has_member test (ns ++ ms) ≡ (has_member test ns || has_member test ms)
  has-append [] ms = refl
  has-append (n ∷ ns) ms = ap (λ b. test n || b) (has-append ns ms) ∙ either (test n) (has_member test ns) (has_member test ms)

  pub calls-Let : (w : Word) (s : Option (SortTree Ref)) (p : PartTree Ref) (c : BodyTree Ref) → text_calls test (V.Let w s p c) ≡ (part_calls test p || text_calls test c)
  unfolding text_calls part_node_calls
  calls-Let w s p c = ap (λ c. has_member test (callees c)) (text-Let w s p c) ∙ has-append (part_callees (plain_part p)) (callees (plain_text c))

  pub calls-GhostLet : (w : Word) (s : Option (SortTree Ref)) (p : PartTree Ref) (c : BodyTree Ref) → text_calls test (V.GhostLet w s p c) ≡ (part_calls test p || text_calls test c)
  unfolding text_calls part_node_calls
  calls-GhostLet w s p c = ap (λ c. has_member test (callees c)) (text-GhostLet w s p c) ∙ has-append (part_callees (plain_part p)) (callees (plain_text c))

  pub calls-Assert : (f : Form Ref) (at : Pos) (c : BodyTree Ref) → text_calls test (V.Assert f at c) ≡ text_calls test c
  unfolding text_calls
  calls-Assert f at c = ap (λ c. has_member test (callees c)) (text-Assert f at c)

  pub calls-If : (f : Form Ref) (c d : BodyTree Ref) → text_calls test (V.If f c d) ≡ (text_calls test c || text_calls test d)
  unfolding text_calls
  calls-If f c d = ap (λ c. has_member test (callees c)) (text-If f c d) ∙ has-append (callees (plain_text c)) (callees (plain_text d))

  pub calls-Match : (f : Form Ref) (at : Pos) (arms : List (ArmTree (BodyTree Ref))) → text_calls test (V.Match f at arms) ≡ arms_call test arms
  unfolding text_calls arms_call
  calls-Match f at arms = ap (λ c. has_member test (callees c)) (text-Match f at arms)

  pub calls-Part : (p : PartTree Ref) → text_calls test (V.Part p) ≡ part_calls test p
  unfolding text_calls part_node_calls
  calls-Part p = ap (λ c. has_member test (callees c)) (text-Part p)

  pub calls-Block : (at : Pos) (c : BodyTree Ref) → part_node_calls test at (W.Block c) ≡ text_calls test c
  unfolding text_calls part_node_calls
  calls-Block at c = ap (λ p. has_member test (part_callees p)) (part-Block at c)

  or-false : (b : Bool) → b || false ≡ b
  or-false true = refl
  or-false false = refl

  pub calls-Call : (at : Pos) (r : Ref) (fs : List (Form Ref)) → part_node_calls test at (W.Call r fs) ≡ test r.index
  unfolding part_node_calls
  calls-Call at r fs = ap (λ p. has_member test (part_callees p)) (part-Call at r fs) ∙ or-false (test r.index)

  pub calls-Reify : (at : Pos) (r : Ref) (s : SortTree Ref) (c : BodyTree Ref) (f : Form Ref) → part_node_calls test at (W.Reify r s c f) ≡ text_calls test c
  unfolding text_calls part_node_calls
  calls-Reify at r s c f = ap (λ p. has_member test (part_callees p)) (part-Reify at r s c f)

  pub calls-Reflect : (at : Pos) (r : Ref) (s : SortTree Ref) (w : Word) (c : BodyTree Ref) → part_node_calls test at (W.Reflect r s w c) ≡ text_calls test c
  unfolding text_calls part_node_calls
  calls-Reflect at r s w c = ap (λ p. has_member test (part_callees p)) (part-Reflect at r s w c)

  pub calls-Term : (at : Pos) (f : Form Ref) → part_node_calls test at (W.Term f) ≡ false
  unfolding part_node_calls
  calls-Term at f = ap (λ p. has_member test (part_callees p)) (part-Term at f)

  pub arms-none : arms_call test [] ≡ false
  unfolding arms_call
  arms-none = refl

  more : (arms : List (ArmTree (BodyTree Ref))) (a : ArmTree (BodyTree Ref)) → arms_call test (arms ++ a ∷ []) ≡ (arms_call test arms || text_calls test a.body)
  unfolding arms_call text_calls
  more [] a = has-append (callees (plain_text a.body)) [] ∙ or-false (has_member test (callees (plain_text a.body)))
  more (b ∷ arms) a =
      has-append (callees (plain_text b.body)) (arm_callees (plain_arms (arms ++ a ∷ [])))
      ∙ ap (λ t. has_member test (callees (plain_text b.body)) || t) (more arms a)
      ∙ either (has_member test (callees (plain_text b.body))) (has_member test (arm_callees (plain_arms arms))) (has_member test (callees (plain_text a.body)))
      ∙ ap (λ t. t || has_member test (callees (plain_text a.body))) (sym (has-append (callees (plain_text b.body)) (arm_callees (plain_arms arms))))

  pub arms-step : (arms : List (ArmTree (BodyTree Ref))) (i : ℕ) (a : ArmTree (BodyTree Ref)) → a ≡ get_or arms i a → i < length arms
      → arms_call test (take (i + 1) arms) ≡ (arms_call test (take i arms) || text_calls test a.body)
  arms-step arms i a e h = ap (arms_call test) (take_more arms i a h ∙ ap (λ b. take i arms ++ b ∷ []) (sym e)) ∙ more (take i arms) a

pub ruleset texts = (calls-Let, calls-GhostLet, calls-Assert, calls-If, calls-Match, calls-Part)

pub ruleset parts = (calls-Block, calls-Call, calls-Reify, calls-Reflect, calls-Term)

pub ruleset arm_lists = (arms-none, arms-step)

-- ---- a function

pub loose-is : (K : Known) (fs : List Placed) (p : P.Placed)
    → loose_of K fs (placed_in p) ≡ first_broken (unless (diverges K.effects (effect_of p.tree.now.head.effect) || not (text_calls (calls_unmeasured fs (placed_in p)) p.tree.now.body)) (breaks rule.NoMeasure p.tree.now.head.name.at.at))
unfolding loose_of text_calls
loose-is K fs p = go (diverges K.effects (effect_of p.tree.now.head.effect)) (has_member (calls_unmeasured fs (placed_in p)) (callees (plain_text p.tree.now.body)))
  where
    own : List Broken
    own = breaks rule.NoMeasure p.tree.now.head.name.at.at

    go : (d h : Bool) → first_broken (if not d && h then own else []) ≡ first_broken (unless (d || not h) own)
    go true h = refl
    go false true = refl
    go false false = refl

pub ruleset functions = (loose-is)

-- The sorts of an effect's header, a variant of the tree at a time.
use Rattle.std.proofs.Common.{◌≡◌, Bool, true, false, not, None, refl, ap, ◌∙◌}
use Rattle.fst_base.specs.declared.rule.Rule.TheVariants as rule
use Rattle.fst_trees.specs.declared.sort.SortTree.{SortTree}
use Rattle.fst_trees.specs.declared.sort.SortTree.TheVariants as V
use Rattle.fst_names.specs.declared.reference.Ref.{Ref}
use Rattle.fst_names.specs.declared.reference.RefKind.{RefKind}
use Rattle.fst_names.specs.declared.reference.RefKind.TheVariants as kind
use Rattle.fst_names.specs.Broken.{first_broken, least, breaks}
use Rattle.fst_names.specs.Names.{unless}
use Rattle.fst_names.specs.Trees.{plain_wsort}
use Rattle.fst_names.proofs.CheckSortLemmas.{plain-Unit, plain-Bool, plain-Int, plain-Pair, plain-Opt, plain-List, plain-Either, plain-Ident}
use Rattle.fst_names.proofs.BrokenLemmas.{first-append}
use Rattle.fst_effects.specs.Definitions.{broken_shape, misplaced}
use Rattle.fst_effects.specs.WrittenSorts.{shape_breaks}

module _ (a_too : Bool) where
  pub shape-Unit : shape_breaks a_too V.Unit ≡ None
  unfolding shape_breaks
  shape-Unit = ap (λ s. first_broken (broken_shape a_too s)) plain-Unit

  pub shape-Bool : shape_breaks a_too V.Bool ≡ None
  unfolding shape_breaks
  shape-Bool = ap (λ s. first_broken (broken_shape a_too s)) plain-Bool

  pub shape-Int : shape_breaks a_too V.Int ≡ None
  unfolding shape_breaks
  shape-Int = ap (λ s. first_broken (broken_shape a_too s)) plain-Int

  pub shape-Pair : (s t : SortTree Ref) → shape_breaks a_too (V.Pair s t) ≡ least (shape_breaks a_too s) (shape_breaks a_too t)
  unfolding shape_breaks
  shape-Pair s t = ap (λ s. first_broken (broken_shape a_too s)) (plain-Pair s t) ∙ first-append (broken_shape a_too (plain_wsort s)) (broken_shape a_too (plain_wsort t))

  pub shape-Opt : (s : SortTree Ref) → shape_breaks a_too (V.Opt s) ≡ shape_breaks a_too s
  unfolding shape_breaks
  shape-Opt s = ap (λ s. first_broken (broken_shape a_too s)) (plain-Opt s)

  pub shape-List : (s : SortTree Ref) → shape_breaks a_too (V.List s) ≡ shape_breaks a_too s
  unfolding shape_breaks
  shape-List s = ap (λ s. first_broken (broken_shape a_too s)) (plain-List s)

  pub shape-Either : (s t : SortTree Ref) → shape_breaks a_too (V.Either s t) ≡ least (shape_breaks a_too s) (shape_breaks a_too t)
  unfolding shape_breaks
  shape-Either s t = ap (λ s. first_broken (broken_shape a_too s)) (plain-Either s t) ∙ first-append (broken_shape a_too (plain_wsort s)) (broken_shape a_too (plain_wsort t))

  -- `a` may stand where it isn't refused too, and nothing else
  abbrev pub may_stand : RefKind → Bool
  may_stand kind.SortA = not a_too
  may_stand _ = false

  pub shape-Ident : (r : Ref) → shape_breaks a_too (V.Ident r) ≡ first_broken (unless (may_stand r.kind) (breaks rule.EffectShape r.at.at))
  unfolding shape_breaks
  shape-Ident r = ap (λ s. first_broken (broken_shape a_too s)) (plain-Ident r) ∙ go a_too r.kind
    where
      go : (t : Bool) (k : RefKind) → first_broken (misplaced t r k) ≡ first_broken (unless (elim k [
        | kind.Local ↦ false
        | kind.Fun ↦ false
        | kind.Effect ↦ false
        | kind.SortA ↦ not t
        | kind.SortB ↦ false
        | kind.RunF ↦ false
        | kind.RunG ↦ false
      ]) (breaks rule.EffectShape r.at.at))
      go true kind.SortA = refl
      go false kind.SortA = refl
      go t kind.Local = refl
      go t kind.Fun = refl
      go t kind.Effect = refl
      go t kind.SortB = refl
      go t kind.RunF = refl
      go t kind.RunG = refl

pub ruleset shapes = (shape-Unit, shape-Bool, shape-Int, shape-Pair, shape-Opt, shape-List, shape-Either)

pub ruleset names = (shape-Ident)

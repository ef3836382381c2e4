-- The place of a term's plain tree is its own.
use Rattle.std.proofs.Common.{◌≡◌, List, [], ◌∷◌, sym, subst, refl, ap}
use Rattle.std.specs.Prelude.{⊤}
use Rattle.fst_base.specs.declared.place.Pos.{Pos}
use Rattle.fst_trees.specs.declared.form.Form.{Form}
use Rattle.fst_trees.specs.declared.form.FormNode.{FormNode, ind-FormNode, roll-FormNode, map-FormNode}
use Rattle.fst_trees.specs.declared.form.FormNode.TheOpen as F
use Rattle.fst_trees.specs.declared.form.FormNode.TheVariants as V
use Rattle.fst_names.specs.declared.reference.Ref.{Ref}
use Rattle.fst_names.specs.Trees.{plain_node, plain_form, plain_forms}
use Rattle.fst_names.proofs.TreeLemmas.{form-Ident, form-Int, form-Bool, form-Unit, form-Prim, form-If, form-App, form-Let}
use Rattle.fst_effects.specs.TermSorts.{place_of, first_place}
use Rattle.fst_effects.specs.TermChecks.{first_at}

abbrev IsPlaced : FormNode Ref → Type 0
IsPlaced n = (at : Pos) → place_of (plain_node at n) ≡ at.at

abbrev Node : Type 0
Node = (n : FormNode Ref) × IsPlaced n

abbrev Part : Type 0
Part = (f : Form Ref) × ⊤

placed : (y : F.FormNode-F Ref Node Part) → IsPlaced (roll-FormNode Ref (map-FormNode Ref Node Part (FormNode Ref) (Form Ref) (λ n. n.0) (λ f. f.0) y))
placed (F.Ident r) = λ at. subst (λ n. place_of (plain_node at n) ≡ at.at) (sym (V.rolls-Ident r)) (ap place_of (form-Ident at r))
placed (F.Int i) = λ at. subst (λ n. place_of (plain_node at n) ≡ at.at) (sym (V.rolls-Int i)) (ap place_of (form-Int at i))
placed (F.Bool b) = λ at. subst (λ n. place_of (plain_node at n) ≡ at.at) (sym (V.rolls-Bool b)) (ap place_of (form-Bool at b))
placed F.Unit = λ at. subst (λ n. place_of (plain_node at n) ≡ at.at) (sym (V.rolls-Unit)) (ap place_of (form-Unit at))
placed (F.Prim o fs) = λ at. subst (λ n. place_of (plain_node at n) ≡ at.at) (sym (V.rolls-Prim o _)) (ap place_of (form-Prim at o _))
placed (F.If c f g) = λ at. subst (λ n. place_of (plain_node at n) ≡ at.at) (sym (V.rolls-If c.0 f.0 g.0)) (ap place_of (form-If at c.0 f.0 g.0))
placed (F.App r fs) = λ at. subst (λ n. place_of (plain_node at n) ≡ at.at) (sym (V.rolls-App r _)) (ap place_of (form-App at r _))
placed (F.Let w f g) = λ at. subst (λ n. place_of (plain_node at n) ≡ at.at) (sym (V.rolls-Let w f.0 g.0)) (ap place_of (form-Let at w f.0 g.0))

pub node-place : (n : FormNode Ref) → IsPlaced n
node-place n = ind-FormNode Ref IsPlaced (λ f. ⊤) (λ x y is. subst (λ z. IsPlaced (roll-FormNode Ref z)) is (placed y)) (λ x y is. tt) n

pub form-place : (f : Form Ref) → place_of (plain_form f) ≡ f.at.at
form-place f = node-place f.node f.at

pub first-place : (at : Pos) (fs : List (Form Ref)) → first_place at.at (plain_forms fs) ≡ (first_at at fs).at
first-place at [] = refl
first-place at (f ∷ fs) = form-place f

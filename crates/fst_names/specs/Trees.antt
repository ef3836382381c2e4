-- Written trees as plain ones. R stands for each use of a name, a Word before names are looked up and a Ref after. A body and a
-- definition's text are one kind of tree, whose calls are runs of the header's computations in a definition.
use Rattle.std.specs.Prelude.{ℕ, Bool, true, false, List, [], ◌∷◌, map, Option, option_map, ℤ}
use Rattle.fst_base.specs.declared.op.Op.{Op}
use Rattle.fst_base.specs.declared.place.Pos.{Pos}
use Rattle.fst_trees.specs.declared.word.Word.{Word}
use Rattle.fst_trees.specs.declared.pattern.ConWord.{ConWord}
use Rattle.fst_trees.specs.declared.pattern.ArmTree.{ArmTree}
use Rattle.fst_trees.specs.declared.sort.SortTree.{SortTree, fold-SortTree}
use Rattle.fst_trees.specs.declared.sort.SortTree.TheOpen as S
use Rattle.fst_trees.specs.declared.form.Form.{Form}
use Rattle.fst_trees.specs.declared.form.FormNode.{FormNode, fold-FormNode}
use Rattle.fst_trees.specs.declared.form.FormNode.TheOpen as F
use Rattle.fst_trees.specs.declared.body.BodyTree.{BodyTree, fold-BodyTree}
use Rattle.fst_trees.specs.declared.body.BodyTree.TheOpen as B
use Rattle.fst_trees.specs.declared.body.PartTree.{PartTree}
use Rattle.fst_trees.specs.declared.body.PartNode.{PartNode, fold-PartNode}
use Rattle.fst_trees.specs.declared.definition.DmTree.{DmTree, fold-DmTree}
use Rattle.fst_trees.specs.declared.definition.DmTree.TheOpen as D
use Rattle.fst_trees.specs.declared.decl.ParamTree.{ParamTree}
use Rattle.fst_trees.specs.declared.decl.EffectName.{EffectName}
use Rattle.fst_trees.specs.declared.decl.FunTree.{FunTree}
use Rattle.fst_trees.specs.declared.decl.EffectTree.{EffectTree}
use Rattle.fst_trees.specs.declared.decl.LiftTree.{LiftTree}
use Rattle.fst_trees.specs.declared.decl.Decl.{Decl}
use Rattle.fst_trees.specs.declared.decl.Decl.TheVariants as decl

-- a sort
pub data WSort (R : Type 0) : Type 0 where
  w_unit w_bool w_int : WSort R
  w_pair : WSort R → WSort R → WSort R
  w_opt : WSort R → WSort R
  w_list : WSort R → WSort R
  w_either : WSort R → WSort R → WSort R
  w_name : R → WSort R

-- a term or a formula, at its place
mutual
  pub data WForm (R : Type 0) : Type 0 where
    f_ident : (place : ℕ) → R → WForm R
    f_int : (place : ℕ) → ℤ → WForm R
    f_bool : (place : ℕ) → Bool → WForm R
    f_unit : (place : ℕ) → WForm R
    f_prim : (place : ℕ) → Op → WForms R → WForm R
    f_if : (place : ℕ) → WForm R → WForm R → WForm R → WForm R
    f_app : (place : ℕ) → R → WForms R → WForm R
    f_let : (place : ℕ) → Word → WForm R → WForm R → WForm R

  pub data WForms (R : Type 0) : Type 0 where
    f_end : WForms R
    f_more : WForm R → WForms R → WForms R

-- the text of a body or a definition
mutual
  pub data WText (R : Type 0) : Type 0 where
    x_let : (ghost : Bool) → Word → Option (WSort R) → WPart R → WText R → WText R
    x_assert : WForm R → (place : ℕ) → WText R → WText R
    x_if : WForm R → WText R → WText R → WText R
    x_match : WForm R → (place : ℕ) → WArms R → WText R
    x_part : WPart R → WText R

  pub data WPart (R : Type 0) : Type 0 where
    p_block : (place : ℕ) → WText R → WPart R
    p_call : (place : ℕ) → R → WForms R → WPart R
    p_reify : (place : ℕ) → R → WSort R → WText R → WForm R → WPart R
    p_reflect : (place : ℕ) → R → WSort R → Word → WText R → WPart R
    p_term : (place : ℕ) → WForm R → WPart R

  pub data WArms (R : Type 0) : Type 0 where
    x_end : WArms R
    x_arm : (place : ℕ) → ConWord → List Word → WText R → WArms R → WArms R

-- ---- from the trees of the code

abbrev pub plain_sort_layer : {R : Type 0} → S.SortTree-F R (WSort R) → WSort R
plain_sort_layer S.Unit = w_unit
plain_sort_layer S.Bool = w_bool
plain_sort_layer S.Int = w_int
plain_sort_layer (S.Pair s t) = w_pair s t
plain_sort_layer (S.Opt s) = w_opt s
plain_sort_layer (S.List s) = w_list s
plain_sort_layer (S.Either s t) = w_either s t
plain_sort_layer (S.Ident r) = w_name r

abbrev pub plain_wsort : {R : Type 0} → SortTree R → WSort R
plain_wsort {R} = fold-SortTree R (WSort R) plain_sort_layer

abbrev pub form_row : {R : Type 0} → List (WForm R) → WForms R
form_row [] = f_end
form_row (f ∷ fs) = f_more f (form_row fs)

abbrev pub plain_node_layer : {R : Type 0} → F.FormNode-F R (ℕ → WForm R) (WForm R) → ℕ → WForm R
plain_node_layer (F.Ident r) at = f_ident at r
plain_node_layer (F.Int n) at = f_int at n
plain_node_layer (F.Bool b) at = f_bool at b
plain_node_layer F.Unit at = f_unit at
plain_node_layer (F.Prim o fs) at = f_prim at o (form_row fs)
plain_node_layer (F.If c f g) at = f_if at c f g
plain_node_layer (F.App r fs) at = f_app at r (form_row fs)
plain_node_layer (F.Let w f g) at = f_let at w f g

-- the plain tree of a node at a place
unfoldable pub plain_node : {R : Type 0} → Pos → FormNode R → WForm R
plain_node {R} at n = fold-FormNode R (ℕ → WForm R) (WForm R) plain_node_layer (λ g. g.node g.at.at) n at.at

abbrev pub plain_form : {R : Type 0} → Form R → WForm R
plain_form f = plain_node f.at f.node

abbrev pub plain_forms : {R : Type 0} → List (Form R) → WForms R
plain_forms fs = form_row (map plain_form fs)

abbrev pub arm_row : {R : Type 0} → List (ArmTree (WText R)) → WArms R
arm_row [] = x_end
arm_row (a ∷ more) = x_arm a.at.at a.con a.names a.body (arm_row more)

abbrev pub plain_body_layer : {R : Type 0} → B.BodyTree-F R (WText R) (ℕ → WPart R) (WPart R) → WText R
plain_body_layer (B.Let w s p c) = x_let false w (option_map plain_wsort s) p c
plain_body_layer (B.GhostLet w s p c) = x_let true w (option_map plain_wsort s) p c
plain_body_layer (B.Assert f at c) = x_assert (plain_form f) at.at c
plain_body_layer (B.If f c d) = x_if (plain_form f) c d
plain_body_layer (B.Match f at arms) = x_match (plain_form f) at.at (arm_row arms)
plain_body_layer (B.Part p) = x_part p

abbrev pub plain_part_layer : {R : Type 0} → B.PartNode-F R (WText R) (ℕ → WPart R) (WPart R) → ℕ → WPart R
plain_part_layer (B.Block c) at = p_block at c
plain_part_layer (B.Call r fs) at = p_call at r (plain_forms fs)
plain_part_layer (B.Reify r s c f) at = p_reify at r (plain_wsort s) c (plain_form f)
plain_part_layer (B.Reflect r s w c) at = p_reflect at r (plain_wsort s) w c
plain_part_layer (B.Term f) at = p_term at (plain_form f)

unfoldable pub plain_text : {R : Type 0} → BodyTree R → WText R
plain_text {R} = fold-BodyTree R (WText R) (ℕ → WPart R) (WPart R) plain_body_layer plain_part_layer (λ p. p.node p.at.at)

unfoldable pub plain_part_node : {R : Type 0} → Pos → PartNode R → WPart R
plain_part_node {R} at n = fold-PartNode R (WText R) (ℕ → WPart R) (WPart R) plain_body_layer plain_part_layer (λ q. q.node q.at.at) n at.at

abbrev pub plain_part : {R : Type 0} → PartTree R → WPart R
plain_part p = plain_part_node p.at p.node

-- the plain trees of arms
abbrev pub plain_arms : {R : Type 0} → List (ArmTree (BodyTree R)) → WArms R
plain_arms [] = x_end
plain_arms (a ∷ more) = x_arm a.at.at a.con a.names (plain_text a.body) (plain_arms more)

-- a text as the part that it is
abbrev pub as_part : {R : Type 0} → WText R → WPart R
as_part (x_part p) = p
as_part c = p_block 0 c

-- the place of a use of a name is a parameter, since a run stands at it
abbrev pub plain_dm_layer : {R : Type 0} → (R → ℕ) → D.DmTree-F R (WText R) → WText R
plain_dm_layer at (D.Let w s p c) = x_let false w (option_map plain_wsort s) (as_part p) c
plain_dm_layer at (D.If f c d) = x_if (plain_form f) c d
plain_dm_layer at (D.Match f p arms) = x_match (plain_form f) p.at (arm_row arms)
plain_dm_layer at (D.Block p c) = x_part (p_block p.at c)
plain_dm_layer at (D.Run r fs) = x_part (p_call (at r) r (plain_forms fs))
plain_dm_layer at (D.Term f) = x_part (p_term f.at.at (plain_form f))

unfoldable pub plain_dm : {R : Type 0} → (R → ℕ) → DmTree R → WText R
plain_dm {R} at = fold-DmTree R (WText R) (plain_dm_layer at)

-- the plain trees of its arms
abbrev pub plain_dm_arms : {R : Type 0} → (R → ℕ) → List (ArmTree (DmTree R)) → WArms R
plain_dm_arms at [] = x_end
plain_dm_arms at (a ∷ more) = x_arm a.at.at a.con a.names (plain_dm at a.body) (plain_dm_arms at more)

-- the place of a word
abbrev pub word_at : Word → ℕ
word_at w = w.at.at

-- ---- declarations

pub record WParam (R : Type 0) : Type 0 where
  pub name : Word
  pub sort : WSort R
  pub hidden : Bool
  pub refine : Option (WForm R)

pub record WFun (R : Type 0) : Type 0 where
  pub name : Word
  pub params : List (WParam R)
  pub effect : EffectName R
  pub sort : WSort R
  pub needs : Option (WForm R)
  pub gives : Option (WForm R)
  pub measures : List (WForm R)
  pub unfolds : ℕ
  pub joined : Bool
  pub body : WText R

pub record WEffect (R : Type 0) : Type 0 where
  pub name : Word
  pub div : Bool
  pub input : WSort R
  pub result : WSort R
  pub ret_names : List Word
  pub ret : WText R
  pub bind_names : List Word
  pub bind : WText R

pub record WLift (R : Type 0) : Type 0 where
  pub place : ℕ
  pub from : R
  pub «to» : R
  pub names : List Word
  pub text : WText R

pub data WDecl (R : Type 0) : Type 0 where
  w_effect : WEffect R → WDecl R
  w_lift : WLift R → WDecl R
  w_fun : WFun R → WDecl R

abbrev pub plain_wparam : {R : Type 0} → ParamTree R → WParam R
plain_wparam p = record { name = p.name; sort = plain_wsort p.sort; hidden = p.hidden; refine = option_map plain_form p.refine }

abbrev pub plain_wfun : {R : Type 0} → FunTree R → WFun R
plain_wfun f = record { name = f.head.name; params = map plain_wparam f.head.params; effect = f.head.effect; sort = plain_wsort f.head.sort; needs = option_map plain_form f.head.needs; gives = option_map plain_form f.head.gives; measures = map plain_form f.head.measures; unfolds = f.head.«unfold»; joined = f.joined; body = plain_text f.body }

abbrev pub plain_weffect : {R : Type 0} → (R → ℕ) → EffectTree R → WEffect R
plain_weffect at e = record { name = e.name; div = e.div; input = plain_wsort e.input; result = plain_wsort e.result; ret_names = e.ret_names; ret = plain_dm at e.ret; bind_names = e.bind_names; bind = plain_dm at e.bind }

abbrev pub plain_wlift : {R : Type 0} → (R → ℕ) → LiftTree R → WLift R
plain_wlift at l = record { place = l.at.at; from = l.from; «to» = l.«to»; names = l.names; text = plain_dm at l.text }

abbrev pub plain_decl : {R : Type 0} → (R → ℕ) → Decl R → WDecl R
plain_decl at (decl.Effect e) = w_effect (plain_weffect at e)
plain_decl at (decl.Lift l) = w_lift (plain_wlift at l)
plain_decl at (decl.Fun f) = w_fun (plain_wfun f)

-- Induction over forms and bodies, variant by variant.
use Rattle.std.proofs.Common.{ℤ, Bool, List, [], ◌∷◌, map, sym, subst, All}
use Rattle.std.proofs.lemmas.List.Elements.{All-nil, All-cons}
use Rattle.fst_base.specs.declared.op.Op.{Op}
use Rattle.fst_base.specs.declared.place.Pos.{Pos}
use Rattle.fst_trees.specs.declared.form.Form.{Form, roll-Form}
use Rattle.fst_trees.specs.declared.form.FormNode.{FormNode, ind-FormNode, roll-FormNode, map-FormNode}
use Rattle.fst_trees.specs.declared.form.FormNode.TheOpen as F
use Rattle.fst_trees.specs.declared.form.FormNode.TheVariants as V
use Rattle.fst_trees.specs.declared.word.Word.{Word}

-- the form of a node at a place
abbrev pub form : Pos → FormNode Word → Form Word
form at node = record { at = at; node = node }

module _ (Q : Form Word → Type 0) where
  -- what an induction over forms has to show
  pub record FormSteps : Type 0 where
    pub at_ident : (at : Pos) (w : Word) → Q (form at (V.Ident w))
    pub at_int : (at : Pos) (n : ℤ) → Q (form at (V.Int n))
    pub at_bool : (at : Pos) (b : Bool) → Q (form at (V.Bool b))
    pub at_unit : (at : Pos) → Q (form at V.Unit)
    pub at_prim : (at : Pos) (o : Op) (fs : List (Form Word)) → All Q fs → Q (form at (V.Prim o fs))
    pub at_if : (at : Pos) (c x y : Form Word) → Q c → Q x → Q y → Q (form at (V.If c x y))
    pub at_app : (at : Pos) (w : Word) (fs : List (Form Word)) → All Q fs → Q (form at (V.App w fs))
    pub at_let : (at : Pos) (w : Word) (x y : Form Word) → Q x → Q y → Q (form at (V.Let w x y))

  abbrev AtNode : FormNode Word → Type 0
  AtNode node = (at : Pos) → Q (form at node)

  -- parts that the claims hold for
  abbrev KnownNode : Type 0
  KnownNode = (n : FormNode Word) × AtNode n

  abbrev Known : Type 0
  Known = (f : Form Word) × Q f

  all_known : (fs : List Known) → All Q (map (λ f. f.0) fs)
  all_known [] = All-nil Q
  all_known (f ∷ fs) = All-cons Q f.0 _ f.1 (all_known fs)

  node_step : FormSteps → (y : F.FormNode-F Word KnownNode Known) → AtNode (roll-FormNode Word (map-FormNode Word KnownNode Known (FormNode Word) (Form Word) (λ n. n.0) (λ f. f.0) y))
  node_step s (F.Ident w) = λ at. subst (λ n. Q (form at n)) (sym (V.rolls-Ident w)) (s.at_ident at w)
  node_step s (F.Int n) = λ at. subst (λ n. Q (form at n)) (sym (V.rolls-Int n)) (s.at_int at n)
  node_step s (F.Bool b) = λ at. subst (λ n. Q (form at n)) (sym (V.rolls-Bool b)) (s.at_bool at b)
  node_step s F.Unit = λ at. subst (λ n. Q (form at n)) (sym (V.rolls-Unit)) (s.at_unit at)
  node_step s (F.Prim o fs) = λ at. subst (λ n. Q (form at n)) (sym (V.rolls-Prim o _)) (s.at_prim at o _ (all_known fs))
  node_step s (F.If c x y) = λ at. subst (λ n. Q (form at n)) (sym (V.rolls-If c.0 x.0 y.0)) (s.at_if at c.0 x.0 y.0 c.1 x.1 y.1)
  node_step s (F.App w fs) = λ at. subst (λ n. Q (form at n)) (sym (V.rolls-App w _)) (s.at_app at w _ (all_known fs))
  node_step s (F.Let w x y) = λ at. subst (λ n. Q (form at n)) (sym (V.rolls-Let w x.0 y.0)) (s.at_let at w x.0 y.0 x.1 y.1)

  pub form_by_parts : FormSteps → (f : Form Word) → Q f
  form_by_parts s f = ind-FormNode Word AtNode Q (λ x y is. subst (λ z. AtNode (roll-FormNode Word z)) is (node_step s y)) (λ x y is. subst (λ z. Q (roll-Form Word z)) is (y.node.1 y.at)) f.node f.at

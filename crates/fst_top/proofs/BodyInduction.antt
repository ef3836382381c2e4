-- Induction over bodies, variant by variant; parts without what stands in them.
use Rattle.std.proofs.Common.{List, Option, sym, subst}
use Rattle.fst_base.specs.declared.place.Pos.{Pos}
use Rattle.fst_trees.specs.declared.form.Form.{Form}
use Rattle.fst_trees.specs.declared.sort.SortTree.{SortTree}
use Rattle.fst_trees.specs.declared.pattern.ArmTree.{ArmTree}
use Rattle.fst_trees.specs.declared.body.BodyTree.{BodyTree, ind-BodyTree, roll-BodyTree, map-BodyTree}
use Rattle.fst_trees.specs.declared.body.BodyTree.TheOpen as B
use Rattle.fst_trees.specs.declared.body.BodyTree.TheVariants as V
use Rattle.fst_trees.specs.declared.body.PartTree.{PartTree, roll-PartTree}
use Rattle.fst_trees.specs.declared.body.PartNode.{PartNode, roll-PartNode, map-PartNode}
use Rattle.fst_trees.specs.declared.body.PartNode.TheVariants as W
use Rattle.fst_trees.specs.declared.word.Word.{Word}

-- the part of a node at a place
abbrev pub part : Pos → PartNode Word → PartTree Word
part at node = record { at = at; node = node }

module _ (Q : BodyTree Word → Type 0) (R : PartTree Word → Type 0) where
  -- what an induction over bodies and parts has to show
  pub record BodySteps : Type 0 where
    pub at_let : (w : Word) (S : Option (SortTree Word)) (p : PartTree Word) (rest : BodyTree Word) → R p → Q rest → Q (V.Let w S p rest)
    pub at_ghost : (w : Word) (S : Option (SortTree Word)) (p : PartTree Word) (rest : BodyTree Word) → R p → Q rest → Q (V.GhostLet w S p rest)
    pub at_assert : (f : Form Word) (at : Pos) (rest : BodyTree Word) → Q rest → Q (V.Assert f at rest)
    pub at_if : (f : Form Word) (a b : BodyTree Word) → Q a → Q b → Q (V.If f a b)
    pub at_match : (f : Form Word) (at : Pos) (arms : List (ArmTree (BodyTree Word))) → Q (V.Match f at arms)
    pub at_part : (p : PartTree Word) → R p → Q (V.Part p)
    pub at_block : (at : Pos) (body : BodyTree Word) → Q body → R (part at (W.Block body))
    pub at_call : (at : Pos) (w : Word) (fs : List (Form Word)) → R (part at (W.Call w fs))
    pub at_reify : (at : Pos) (w : Word) (S : SortTree Word) (body : BodyTree Word) (f : Form Word) → Q body → R (part at (W.Reify w S body f))
    pub at_reflect : (at : Pos) (w : Word) (S : SortTree Word) (x : Word) (body : BodyTree Word) → Q body → R (part at (W.Reflect w S x body))
    pub at_term : (at : Pos) (f : Form Word) → R (part at (W.Term f))

  abbrev AtNode : PartNode Word → Type 0
  AtNode node = (at : Pos) → R (part at node)

  -- parts that the claims hold for
  abbrev KnownBody : Type 0
  KnownBody = (b : BodyTree Word) × Q b

  abbrev KnownPart : Type 0
  KnownPart = (p : PartTree Word) × R p

  abbrev KnownNode : Type 0
  KnownNode = (n : PartNode Word) × AtNode n

  body_step : BodySteps → (y : B.BodyTree-F Word KnownBody KnownNode KnownPart) → Q (roll-BodyTree Word (map-BodyTree Word KnownBody KnownNode KnownPart (BodyTree Word) (PartNode Word) (PartTree Word) (λ b. b.0) (λ n. n.0) (λ p. p.0) y))
  body_step s (B.Let w S p rest) = subst Q (sym (V.rolls-Let w S p.0 rest.0)) (s.at_let w S p.0 rest.0 p.1 rest.1)
  body_step s (B.GhostLet w S p rest) = subst Q (sym (V.rolls-GhostLet w S p.0 rest.0)) (s.at_ghost w S p.0 rest.0 p.1 rest.1)
  body_step s (B.Assert f at rest) = subst Q (sym (V.rolls-Assert f at rest.0)) (s.at_assert f at rest.0 rest.1)
  body_step s (B.If f a b) = subst Q (sym (V.rolls-If f a.0 b.0)) (s.at_if f a.0 b.0 a.1 b.1)
  body_step s (B.Match f at arms) = subst Q (sym (V.rolls-Match f at _)) (s.at_match f at _)
  body_step s (B.Part p) = subst Q (sym (V.rolls-Part p.0)) (s.at_part p.0 p.1)

  node_step : BodySteps → (y : B.PartNode-F Word KnownBody KnownNode KnownPart) → AtNode (roll-PartNode Word (map-PartNode Word KnownBody KnownNode KnownPart (BodyTree Word) (PartNode Word) (PartTree Word) (λ b. b.0) (λ n. n.0) (λ p. p.0) y))
  node_step s (B.Block b) = λ at. subst (λ n. R (part at n)) (sym (W.rolls-Block b.0)) (s.at_block at b.0 b.1)
  node_step s (B.Call w fs) = λ at. subst (λ n. R (part at n)) (sym (W.rolls-Call w fs)) (s.at_call at w fs)
  node_step s (B.Reify w S b f) = λ at. subst (λ n. R (part at n)) (sym (W.rolls-Reify w S b.0 f)) (s.at_reify at w S b.0 f b.1)
  node_step s (B.Reflect w S x b) = λ at. subst (λ n. R (part at n)) (sym (W.rolls-Reflect w S x b.0)) (s.at_reflect at w S x b.0 b.1)
  node_step s (B.Term f) = λ at. subst (λ n. R (part at n)) (sym (W.rolls-Term f)) (s.at_term at f)

  pub body_by_parts : BodySteps → (b : BodyTree Word) → Q b
  body_by_parts s = ind-BodyTree Word Q AtNode R (λ x y is. subst (λ z. Q (roll-BodyTree Word z)) is (body_step s y)) (λ x y is. subst (λ z. AtNode (roll-PartNode Word z)) is (node_step s y)) (λ x y is. subst (λ z. R (roll-PartTree Word z)) is (y.node.1 y.at))

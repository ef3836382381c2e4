-- The place of a part's plain tree is its own.
use Rattle.std.proofs.Common.{◌≡◌, sym, subst, ap}
use Rattle.std.specs.Prelude.{⊤}
use Rattle.fst_base.specs.declared.place.Pos.{Pos}
use Rattle.fst_trees.specs.declared.body.BodyTree.{BodyTree}
use Rattle.fst_trees.specs.declared.body.BodyTree.TheOpen as B
use Rattle.fst_trees.specs.declared.body.PartTree.{PartTree}
use Rattle.fst_trees.specs.declared.body.PartNode.{PartNode, ind-PartNode, roll-PartNode, map-PartNode}
use Rattle.fst_trees.specs.declared.body.PartNode.TheVariants as W
use Rattle.fst_names.specs.declared.reference.Ref.{Ref}
use Rattle.fst_names.specs.Trees.{plain_part, plain_part_node}
use Rattle.fst_names.proofs.TextTreeLemmas.{part-Block, part-Call, part-Reify, part-Reflect, part-Term}
use Rattle.fst_effects.specs.TextSorts.{part_place}

abbrev IsPlaced : PartNode Ref → Type 0
IsPlaced n = (at : Pos) → part_place (plain_part_node at n) ≡ at.at

abbrev Body : Type 0
Body = (b : BodyTree Ref) × ⊤

abbrev Node : Type 0
Node = (n : PartNode Ref) × IsPlaced n

abbrev Part : Type 0
Part = (p : PartTree Ref) × ⊤

placed : (y : B.PartNode-F Ref Body Node Part) → IsPlaced (roll-PartNode Ref (map-PartNode Ref Body Node Part (BodyTree Ref) (PartNode Ref) (PartTree Ref) (λ b. b.0) (λ n. n.0) (λ p. p.0) y))
placed (B.Block b) = λ at. subst (λ n. part_place (plain_part_node at n) ≡ at.at) (sym (W.rolls-Block b.0)) (ap part_place (part-Block at b.0))
placed (B.Call r fs) = λ at. subst (λ n. part_place (plain_part_node at n) ≡ at.at) (sym (W.rolls-Call r fs)) (ap part_place (part-Call at r fs))
placed (B.Reify r s b f) = λ at. subst (λ n. part_place (plain_part_node at n) ≡ at.at) (sym (W.rolls-Reify r s b.0 f)) (ap part_place (part-Reify at r s b.0 f))
placed (B.Reflect r s w b) = λ at. subst (λ n. part_place (plain_part_node at n) ≡ at.at) (sym (W.rolls-Reflect r s w b.0)) (ap part_place (part-Reflect at r s w b.0))
placed (B.Term f) = λ at. subst (λ n. part_place (plain_part_node at n) ≡ at.at) (sym (W.rolls-Term f)) (ap part_place (part-Term at f))

node-place : (n : PartNode Ref) → IsPlaced n
node-place n = ind-PartNode Ref (λ b. ⊤) IsPlaced (λ p. ⊤) (λ x y is. tt) (λ x y is. subst (λ z. IsPlaced (roll-PartNode Ref z)) is (placed y)) (λ x y is. tt) n

pub part-place : (p : PartTree Ref) → part_place (plain_part p) ≡ p.at.at
part-place p = node-place p.node p.at

-- The equations of elaborated bodies, a variant of the tree at a time.
use Rattle.std.proofs.Common.{◌≡◌, List, ◌∷◌, Option, Some, None, rules}
use Rattle.fst_base.specs.declared.place.Pos.{Pos}
use Rattle.fst_program.specs.Texts.{c_ret}
use Rattle.fst_trees.specs.declared.word.Word.{Word}
use Rattle.fst_trees.specs.declared.form.Form.{Form}
use Rattle.fst_trees.specs.declared.sort.SortTree.{SortTree}
use Rattle.fst_trees.specs.declared.pattern.ArmTree.{ArmTree}
use Rattle.fst_trees.specs.declared.body.BodyTree as D
use Rattle.fst_trees.specs.declared.body.BodyTree.{BodyTree}
use Rattle.fst_trees.specs.declared.body.BodyTree.TheVariants as V
use Rattle.fst_trees.specs.declared.body.PartTree.{PartTree}
use Rattle.fst_trees.specs.declared.body.PartNode as P
use Rattle.fst_trees.specs.declared.body.PartNode.TheVariants as W
use Rattle.fst_top.specs.Elaboration.{Scope, let_of, branch_of, given_some, term_of, text_of, part_of}

pub text-Let : (w : Word) (part : PartTree Word) (rest : BodyTree Word) (xs : Scope) → text_of (V.Let w None part rest) xs ≡ given_some (part_of part xs) (λ t. given_some (text_of rest (record { name = w.text; sort = t.sort } ∷ xs)) (λ c. let_of w t c))
text-Let w part rest xs = search (rules, D.the_lemmas)

pub text-If : (f : Form Word) (left right : BodyTree Word) (xs : Scope) → text_of (V.If f left right) xs ≡ given_some (term_of f xs) (λ s. given_some (text_of left xs) (λ c. given_some (text_of right xs) (λ d. branch_of s c d)))
text-If f left right xs = search (rules, D.the_lemmas)

pub text-Part : (part : PartTree Word) (xs : Scope) → text_of (V.Part part) xs ≡ given_some (part_of part xs) (λ t. Some (record { text = c_ret t.term; sort = t.sort }))
text-Part part xs = search (rules, D.the_lemmas)

pub text-annotated : (w : Word) (S : SortTree Word) (part : PartTree Word) (rest : BodyTree Word) (xs : Scope) → text_of (V.Let w (Some S) part rest) xs ≡ None
text-annotated w S part rest xs = search (rules, D.the_lemmas)

pub text-GhostLet : (w : Word) (S : Option (SortTree Word)) (part : PartTree Word) (rest : BodyTree Word) (xs : Scope) → text_of (V.GhostLet w S part rest) xs ≡ None
text-GhostLet w S part rest xs = search (rules, D.the_lemmas)

pub text-Assert : (f : Form Word) (at : Pos) (rest : BodyTree Word) (xs : Scope) → text_of (V.Assert f at rest) xs ≡ None
text-Assert f at rest xs = search (rules, D.the_lemmas)

pub text-Match : (f : Form Word) (at : Pos) (arms : List (ArmTree (BodyTree Word))) (xs : Scope) → text_of (V.Match f at arms) xs ≡ None
text-Match f at arms xs = search (rules, D.the_lemmas)

pub part-Block : (body : BodyTree Word) (at : Pos) (xs : Scope) → part_of (record { at = at; node = W.Block body }) xs ≡ None
part-Block body at xs = search (rules, P.the_lemmas)

pub part-Call : (w : Word) (fs : List (Form Word)) (at : Pos) (xs : Scope) → part_of (record { at = at; node = W.Call w fs }) xs ≡ None
part-Call w fs at xs = search (rules, P.the_lemmas)

pub part-Reify : (w : Word) (S : SortTree Word) (body : BodyTree Word) (f : Form Word) (at : Pos) (xs : Scope) → part_of (record { at = at; node = W.Reify w S body f }) xs ≡ None
part-Reify w S body f at xs = search (rules, P.the_lemmas)

pub part-Reflect : (w : Word) (S : SortTree Word) (x : Word) (body : BodyTree Word) (at : Pos) (xs : Scope) → part_of (record { at = at; node = W.Reflect w S x body }) xs ≡ None
part-Reflect w S x body at xs = search (rules, P.the_lemmas)

pub part-Term : (f : Form Word) (at : Pos) (xs : Scope) → part_of (record { at = at; node = W.Term f }) xs ≡ term_of f xs
part-Term f at xs = search (rules, P.the_lemmas)

pub ruleset bodies = (text-Let, text-If, text-Part, text-annotated, text-GhostLet, text-Assert, text-Match)

pub ruleset parts = (part-Block, part-Call, part-Reify, part-Reflect, part-Term)

-- The equations of elaboration, a variant of the tree at a time.
use Rattle.std.proofs.Common.{◌≡◌, ℕ, ℤ, Bool, List, [], ◌∷◌, map, length, get_or, Option, None, arith, refl, ◌∙◌, rules}
use Rattle.fst_base.specs.declared.op.Op.{Op}
use Rattle.fst_base.specs.declared.op.Op.TheVariants as op
use Rattle.fst_base.specs.declared.place.Pos.{Pos}
use Rattle.fst_terms.specs.Terms.{t_bool, t_unit}
use Rattle.fst_base.specs.Sorts.{s_bool, s_unit}
use Rattle.fst_trees.specs.declared.word.Word.{Word}
use Rattle.fst_trees.specs.declared.form.Form.{Form}
use Rattle.fst_trees.specs.declared.form.FormNode.TheOpen as F
use Rattle.fst_trees.specs.declared.form.FormNode as D
use Rattle.fst_trees.specs.declared.form.FormNode.TheVariants as V
use Rattle.fst_trees.specs.declared.form.FormNode.{FormNode}
use Rattle.fst_top.specs.Elaboration.{Typed, typed, Scope, variable, equation_of, if_of, given_some, node_layer, term_of}

-- the form of a node at a place
abbrev form : Pos → FormNode Word → Form Word
form at node = record { at = at; node = node }

pub term-Ident : (at : Pos) (w : Word) (xs : Scope) → term_of (form at (V.Ident w)) xs ≡ variable 0 xs w.text
term-Ident at w xs = search (rules, D.the_lemmas)

pub term-If : (at : Pos) (c x y : Form Word) (xs : Scope) → term_of (form at (V.If c x y)) xs ≡ given_some (term_of c xs) (λ s. given_some (term_of x xs) (λ t. given_some (term_of y xs) (λ u. if_of s t u)))
term-If at c x y xs = search (rules, D.the_lemmas)

pub term-Prim : (at : Pos) (o : Op) (fs : List (Form Word)) (xs : Scope) → term_of (form at (V.Prim o fs)) xs ≡ node_layer (F.Prim o (map term_of fs)) at.at xs
term-Prim at o fs xs = search (rules, D.the_lemmas)

no-equation : (o : Op) (ts : List (Scope → Option Typed)) (at : ℕ) (xs : Scope) → (o ≡ op.Eq → ⊥) → node_layer (F.Prim o ts) at xs ≡ None
no-equation op.Eq ts at xs n = absurd (n refl)
no-equation o ts at xs n = refl

-- a primitive that isn't an equation, or hasn't two sides
pub term-other : (at : Pos) (o : Op) (fs : List (Form Word)) (xs : Scope) → (o ≡ op.Eq → ⊥) → term_of (form at (V.Prim o fs)) xs ≡ None
term-other at o fs xs n = term-Prim at o fs xs ∙ no-equation o (map term_of fs) at.at xs n

pub term-sides : (at : Pos) (fs : List (Form Word)) (xs : Scope) → (length fs ≡ 2 → ⊥) → term_of (form at (V.Prim op.Eq fs)) xs ≡ None
term-sides at fs xs n = term-Prim at op.Eq fs xs ∙ go fs n
  where
    go : (fs : List (Form Word)) → (length fs ≡ 2 → ⊥) → node_layer (F.Prim op.Eq (map term_of fs)) at.at xs ≡ None
    go [] n = refl
    go (x ∷ []) n = refl
    go (x ∷ y ∷ []) n = absurd (n refl)
    go (x ∷ y ∷ z ∷ zs) n = refl

pub term-Eq : (at : Pos) (fs : List (Form Word)) (x y : Form Word) (xs : Scope) → length fs ≡ 2 → x ≡ get_or fs 0 x → y ≡ get_or fs 1 y → term_of (form at (V.Prim op.Eq fs)) xs ≡ given_some (term_of x xs) (λ t. given_some (term_of y xs) (λ u. equation_of at.at t u))
term-Eq at fs x y xs e p q = term-Prim at op.Eq fs xs ∙ go fs e p q
  where
    go : (fs : List (Form Word)) → length fs ≡ 2 → x ≡ get_or fs 0 x → y ≡ get_or fs 1 y → node_layer (F.Prim op.Eq (map term_of fs)) at.at xs ≡ given_some (term_of x xs) (λ t. given_some (term_of y xs) (λ u. equation_of at.at t u))
    go [] e p q = absurd (omega (arith, e))
    go (a ∷ []) e p q = absurd (omega (arith, e))
    go (a ∷ b ∷ []) e p q = rw (p, q) refl
    go (a ∷ b ∷ c ∷ cs) e p q = absurd (omega (arith, e))

pub term-Bool : (at : Pos) (b : Bool) (xs : Scope) → term_of (form at (V.Bool b)) xs ≡ typed (t_bool b) s_bool
term-Bool at b xs = search (rules, D.the_lemmas)

pub term-Unit : (at : Pos) (xs : Scope) → term_of (form at V.Unit) xs ≡ typed t_unit s_unit
term-Unit at xs = search (rules, D.the_lemmas)

pub term-Int : (at : Pos) (n : ℤ) (xs : Scope) → term_of (form at (V.Int n)) xs ≡ None
term-Int at n xs = search (rules, D.the_lemmas)

pub term-App : (at : Pos) (w : Word) (fs : List (Form Word)) (xs : Scope) → term_of (form at (V.App w fs)) xs ≡ None
term-App at w fs xs = search (rules, D.the_lemmas)

pub term-Let : (at : Pos) (w : Word) (x y : Form Word) (xs : Scope) → term_of (form at (V.Let w x y)) xs ≡ None
term-Let at w x y xs = search (rules, D.the_lemmas)

pub ruleset terms = (term-Ident, term-If, term-Eq, term-other, term-sides, term-Bool, term-Unit, term-Int, term-App, term-Let)

-- The sorts that terms give, a variant of the tree at a time.
use Rattle.std.proofs.Common.{◌≡◌, ℕ, zero, suc, ◌<◌, ◌≤◌, ℤ, Bool, List, [], ◌∷◌, length, get_or, slice_get, Option, Some, None, refl, ap, ◌∙◌, arith}
use Rattle.std.proofs.lemmas.Option.{slice_get_read}
use Rattle.std.specs.Prelude.{option_map}
use Rattle.fst_base.specs.declared.op.Op.{Op}
use Rattle.fst_base.specs.declared.op.Op.TheVariants as op
use Rattle.fst_base.specs.declared.place.Pos.{Pos}
use Rattle.fst_base.specs.Sorts.{Srt, s_int, s_bool, s_unit, s_list, s_opt}
use Rattle.fst_trees.specs.declared.word.Word.{Word}
use Rattle.fst_trees.specs.declared.form.Form.{Form}
use Rattle.fst_trees.specs.declared.form.FormNode.TheVariants as V
use Rattle.fst_names.specs.declared.reference.Ref.{Ref}
use Rattle.fst_names.specs.Trees.{plain_form, plain_forms}
use Rattle.fst_names.proofs.TreeLemmas.{form-Ident, form-Int, form-Bool, form-Unit, form-Prim, form-If, form-App, form-Let}
use Rattle.fst_program.specs.LiftPaths.{or_else}
use Rattle.fst_effects.specs.Known.{Callee, Ctx, with_sort}
use Rattle.fst_effects.specs.TermSorts.{first, second, left_of, right_of, item_of, pair_of, prim_given, given, givens, visible, sort_in}
use Rattle.fst_effects.specs.TermChecks.{node_given, form_given, arg_given, applied_sort, prim_given_at}
use Rattle.fst_effects.proofs.PlainLemmas.{plain-sort-Int, plain-sort-Bool, plain-sort-Unit}

module _ (A : Ref → Option Callee) (xs : Ctx) where
  pub given-Ident : (at : Pos) (r : Ref) → node_given A xs at (V.Ident r) ≡ sort_in (slice_get xs r.index)
  unfolding node_given
  given-Ident at r = ap (given A xs) (form-Ident at r)

  pub given-Int : (at : Pos) (n : ℤ) → node_given A xs at (V.Int n) ≡ Some s_int
  unfolding node_given
  given-Int at n = ap (given A xs) (form-Int at n)

  pub given-Bool : (at : Pos) (b : Bool) → node_given A xs at (V.Bool b) ≡ Some s_bool
  unfolding node_given
  given-Bool at b = ap (given A xs) (form-Bool at b)

  pub given-Unit : (at : Pos) → node_given A xs at V.Unit ≡ Some s_unit
  unfolding node_given
  given-Unit at = ap (given A xs) (form-Unit at)

  pub given-If : (at : Pos) (c f g : Form Ref) → node_given A xs at (V.If c f g) ≡ or_else (form_given A xs f) (form_given A xs g)
  unfolding node_given
  given-If at c f g = ap (given A xs) (form-If at c f g)

  pub given-App : (at : Pos) (r : Ref) (fs : List (Form Ref)) → node_given A xs at (V.App r fs) ≡ applied_sort A r
  unfolding node_given applied_sort
  given-App at r fs = ap (given A xs) (form-App at r fs)

  pub given-Let : (at : Pos) (w : Word) (f g : Form Ref) → node_given A xs at (V.Let w f g) ≡ with_sort (form_given A xs f) (λ S. form_given A (visible S ∷ xs) g)
  unfolding node_given
  given-Let at w f g = ap (given A xs) (form-Let at w f g)

  -- ---- arguments

  at-form : (fs : List (Form Ref)) (i : ℕ) (f : Form Ref) → slice_get fs i ≡ Some f → arg_given A xs fs i ≡ form_given A xs f
  unfolding arg_given node_given
  at-form [] i f h = cc
  at-form (g ∷ gs) zero f h = let p : g ≡ f = cc in ap (λ f. given A xs (plain_form f)) p
  at-form (g ∷ gs) (suc i) f h = at-form gs i f h

  pub arg-there : (fs : List (Form Ref)) (i : ℕ) (f : Form Ref) → f ≡ get_or fs i f → i < length fs → arg_given A xs fs i ≡ form_given A xs f
  arg-there fs i f e h = at-form fs i f (slice_get_read fs (length fs) i f refl h e)

  pub arg-absent : (fs : List (Form Ref)) (i : ℕ) → length fs ≤ i → arg_given A xs fs i ≡ None
  unfolding arg_given
  arg-absent [] i h = refl
  arg-absent (g ∷ gs) zero h = absurd (omega arith)
  arg-absent (g ∷ gs) (suc i) h = arg-absent gs i (omega arith)

  -- ---- primitives

  pub first-given : (fs : List (Form Ref)) → first (givens A xs (plain_forms fs)) ≡ arg_given A xs fs 0
  unfolding arg_given
  first-given [] = refl
  first-given (f ∷ fs) = refl

  pub second-given : (fs : List (Form Ref)) → second (givens A xs (plain_forms fs)) ≡ arg_given A xs fs 1
  unfolding arg_given
  second-given [] = refl
  second-given (f ∷ []) = refl
  second-given (f ∷ g ∷ fs) = refl

  abbrev at_prim : Pos → Op → List (Form Ref) → Option Srt
  at_prim at o fs = prim_given_at A xs at o fs

  prim-given : (at : Pos) (o : Op) (fs : List (Form Ref)) → at_prim at o fs ≡ prim_given o (givens A xs (plain_forms fs))
  unfolding node_given
  prim-given at o fs = ap (given A xs) (form-Prim at o fs)

  pub given-Le : (at : Pos) (fs : List (Form Ref)) → at_prim at op.Le fs ≡ Some s_bool
  given-Le at fs = prim-given at op.Le fs

  pub given-Lt : (at : Pos) (fs : List (Form Ref)) → at_prim at op.Lt fs ≡ Some s_bool
  given-Lt at fs = prim-given at op.Lt fs

  pub given-Eq : (at : Pos) (fs : List (Form Ref)) → at_prim at op.Eq fs ≡ Some s_bool
  given-Eq at fs = prim-given at op.Eq fs

  pub given-Pair : (at : Pos) (fs : List (Form Ref)) → at_prim at op.Pair fs ≡ pair_of (arg_given A xs fs 0) (arg_given A xs fs 1)
  given-Pair at fs = prim-given at op.Pair fs ∙ ap (λ G. pair_of G (second (givens A xs (plain_forms fs)))) (first-given fs) ∙ ap (pair_of (arg_given A xs fs 0)) (second-given fs)

  pub given-Fst : (at : Pos) (fs : List (Form Ref)) → at_prim at op.Fst fs ≡ with_sort (arg_given A xs fs 0) left_of
  given-Fst at fs = prim-given at op.Fst fs ∙ ap (λ G. with_sort G left_of) (first-given fs)

  pub given-Snd : (at : Pos) (fs : List (Form Ref)) → at_prim at op.Snd fs ≡ with_sort (arg_given A xs fs 0) right_of
  given-Snd at fs = prim-given at op.Snd fs ∙ ap (λ G. with_sort G right_of) (first-given fs)

  pub given-Just : (at : Pos) (fs : List (Form Ref)) → at_prim at op.Just fs ≡ option_map s_opt (arg_given A xs fs 0)
  given-Just at fs = prim-given at op.Just fs ∙ ap (option_map s_opt) (first-given fs)

  pub given-Cons : (at : Pos) (fs : List (Form Ref)) → at_prim at op.Cons fs ≡ option_map s_list (or_else (arg_given A xs fs 0) (with_sort (arg_given A xs fs 1) item_of))
  given-Cons at fs = prim-given at op.Cons fs ∙ ap (λ G. option_map s_list (or_else G (with_sort (second (givens A xs (plain_forms fs))) item_of))) (first-given fs)
      ∙ ap (λ H. option_map s_list (or_else (arg_given A xs fs 0) (with_sort H item_of))) (second-given fs)

  pub given-Nothing : (at : Pos) (fs : List (Form Ref)) → at_prim at op.Nothing fs ≡ None
  given-Nothing at fs = prim-given at op.Nothing fs

  pub given-Nil : (at : Pos) (fs : List (Form Ref)) → at_prim at op.Nil fs ≡ None
  given-Nil at fs = prim-given at op.Nil fs

  pub given-Inl : (at : Pos) (fs : List (Form Ref)) → at_prim at op.Inl fs ≡ None
  given-Inl at fs = prim-given at op.Inl fs

  pub given-Inr : (at : Pos) (fs : List (Form Ref)) → at_prim at op.Inr fs ≡ None
  given-Inr at fs = prim-given at op.Inr fs

  pub given-Hd : (at : Pos) (fs : List (Form Ref)) → at_prim at op.Hd fs ≡ None
  given-Hd at fs = prim-given at op.Hd fs

  pub given-Tl : (at : Pos) (fs : List (Form Ref)) → at_prim at op.Tl fs ≡ None
  given-Tl at fs = prim-given at op.Tl fs

  pub given-The : (at : Pos) (fs : List (Form Ref)) → at_prim at op.The fs ≡ None
  given-The at fs = prim-given at op.The fs

  pub given-Outl : (at : Pos) (fs : List (Form Ref)) → at_prim at op.Outl fs ≡ None
  given-Outl at fs = prim-given at op.Outl fs

  pub given-Outr : (at : Pos) (fs : List (Form Ref)) → at_prim at op.Outr fs ≡ None
  given-Outr at fs = prim-given at op.Outr fs

  pub given-Add : (at : Pos) (fs : List (Form Ref)) → at_prim at op.Add fs ≡ Some s_int
  given-Add at fs = prim-given at op.Add fs

  pub given-Sub : (at : Pos) (fs : List (Form Ref)) → at_prim at op.Sub fs ≡ Some s_int
  given-Sub at fs = prim-given at op.Sub fs

  pub given-Mul : (at : Pos) (fs : List (Form Ref)) → at_prim at op.Mul fs ≡ Some s_int
  given-Mul at fs = prim-given at op.Mul fs

  pub given-Div : (at : Pos) (fs : List (Form Ref)) → at_prim at op.Div fs ≡ Some s_int
  given-Div at fs = prim-given at op.Div fs

  pub given-Rem : (at : Pos) (fs : List (Form Ref)) → at_prim at op.Rem fs ≡ Some s_int
  given-Rem at fs = prim-given at op.Rem fs

  pub given-Neg : (at : Pos) (fs : List (Form Ref)) → at_prim at op.Neg fs ≡ Some s_int
  given-Neg at fs = prim-given at op.Neg fs

  pub given-Len : (at : Pos) (fs : List (Form Ref)) → at_prim at op.Len fs ≡ Some s_int
  given-Len at fs = prim-given at op.Len fs

pub ruleset terms = (plain-sort-Int, plain-sort-Bool, plain-sort-Unit, given-Ident, given-Int, given-Bool, given-Unit, given-If, given-App, given-Let)

pub ruleset arguments = (arg-there, arg-absent)

pub ruleset primitives = (plain-sort-Int, plain-sort-Bool, given-Le, given-Lt, given-Eq, given-Pair, given-Fst, given-Snd, given-Just, given-Cons, given-Nothing, given-Nil, given-Inl, given-Inr, given-Hd, given-Tl, given-The, given-Outl, given-Outr, given-Add, given-Sub, given-Mul, given-Div, given-Rem, given-Neg, given-Len)

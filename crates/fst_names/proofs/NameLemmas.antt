-- Forms with their names looked up, a variant of the tree at a time.
use Rattle.std.proofs.Common.{◌≡◌, ℕ, ℤ, Bool, List, [], ◌∷◌, ◌++◌, length, take, get_or, ◌+◌, ◌<◌, refl, sym, ap, ◌∙◌}
use Rattle.std.proofs.lemmas.List.{take_more}
use Rattle.fst_base.specs.declared.op.Op.{Op}
use Rattle.fst_base.specs.declared.place.Pos.{Pos}
use Rattle.fst_trees.specs.declared.word.Word.{Word}
use Rattle.fst_trees.specs.declared.form.Form.{Form}
use Rattle.fst_trees.specs.declared.form.FormNode.TheVariants as V
use Rattle.fst_names.specs.declared.reference.Ref.{Ref}
use Rattle.fst_names.specs.Trees.{WForm, WForms, f_ident, f_int, f_bool, f_unit, f_prim, f_if, f_app, f_let, f_end, f_more, plain_form, plain_forms}
use Rattle.fst_names.specs.Names.{Tables, Names, named_form, local}
use Rattle.fst_names.specs.Namings.{node_named, form_named, forms_named}
use Rattle.fst_names.proofs.TreeLemmas.{form-Ident, form-Int, form-Bool, form-Unit, form-Prim, form-If, form-App, form-Let}

pub name-Ident : (T : Tables) (xs : Names) (at : Pos) (w : Word) → node_named T xs at (V.Ident w) ≡ f_ident at.at (local xs w)
unfolding node_named
name-Ident T xs at w = ap (named_form T xs) (form-Ident at w)

pub name-Int : (T : Tables) (xs : Names) (at : Pos) (n : ℤ) → node_named T xs at (V.Int n) ≡ f_int at.at n
unfolding node_named
name-Int T xs at n = ap (named_form T xs) (form-Int at n)

pub name-Bool : (T : Tables) (xs : Names) (at : Pos) (b : Bool) → node_named T xs at (V.Bool b) ≡ f_bool at.at b
unfolding node_named
name-Bool T xs at b = ap (named_form T xs) (form-Bool at b)

pub name-Unit : (T : Tables) (xs : Names) (at : Pos) → node_named T xs at V.Unit ≡ f_unit at.at
unfolding node_named
name-Unit T xs at = ap (named_form T xs) (form-Unit at)

pub name-Prim : (T : Tables) (xs : Names) (at : Pos) (o : Op) (fs : List (Form Word)) → node_named T xs at (V.Prim o fs) ≡ f_prim at.at o (forms_named T xs fs)
unfolding node_named forms_named
name-Prim T xs at o fs = ap (named_form T xs) (form-Prim at o fs)

pub name-If : (T : Tables) (xs : Names) (at : Pos) (c f g : Form Word) → node_named T xs at (V.If c f g) ≡ f_if at.at (form_named T xs c) (form_named T xs f) (form_named T xs g)
unfolding node_named
name-If T xs at c f g = ap (named_form T xs) (form-If at c f g)

pub name-App : (T : Tables) (xs : Names) (at : Pos) (w : Word) (fs : List (Form Word)) → node_named T xs at (V.App w fs) ≡ f_app at.at (T.applied w).reference (forms_named T xs fs)
unfolding node_named forms_named
name-App T xs at w fs = ap (named_form T xs) (form-App at w fs)

pub name-Let : (T : Tables) (xs : Names) (at : Pos) (w : Word) (f g : Form Word) → node_named T xs at (V.Let w f g) ≡ f_let at.at w (form_named T xs f) (form_named T (w.text ∷ xs) g)
unfolding node_named
name-Let T xs at w f g = ap (named_form T xs) (form-Let at w f g)

pub ruleset names = (name-Ident, name-Int, name-Bool, name-Unit, name-Prim, name-If, name-App, name-Let, form-Ident, form-Int, form-Bool, form-Unit, form-Prim, form-If, form-App, form-Let)

pub name-none : (T : Tables) (xs : Names) → forms_named T xs [] ≡ f_end
unfolding forms_named
name-none T xs = refl

-- a row with one more
abbrev pub at_end : WForms Ref → WForm Ref → WForms Ref
at_end f_end g = f_more g f_end
at_end (f_more f fs) g = f_more f (at_end fs g)

plain-more : (fs : List (Form Ref)) (f : Form Ref) → plain_forms (fs ++ f ∷ []) ≡ at_end (plain_forms fs) (plain_form f)
plain-more [] f = refl
plain-more (g ∷ gs) f = ap (f_more (plain_form g)) (plain-more gs f)

named-more : (T : Tables) (xs : Names) (fs : List (Form Word)) (f : Form Word) → forms_named T xs (fs ++ f ∷ []) ≡ at_end (forms_named T xs fs) (form_named T xs f)
unfolding forms_named node_named
named-more T xs [] f = refl
named-more T xs (g ∷ gs) f = ap (f_more (named_form T xs (plain_form g))) (named-more T xs gs f)

-- the step of a loop over them
pub name-step : (T : Tables) (xs : Names) (fs : List (Form Word)) (i : ℕ) (f : Form Word) (gs : List (Form Ref)) (g : Form Ref) → f ≡ get_or fs i f → i < length fs
    → plain_forms gs ≡ forms_named T xs (take i fs) → plain_form g ≡ form_named T xs f → plain_forms (gs ++ g ∷ []) ≡ forms_named T xs (take (i + 1) fs)
name-step T xs fs i f gs g e h p q =
    plain-more gs g ∙ ap (λ r. at_end r (plain_form g)) p ∙ ap (at_end (forms_named T xs (take i fs))) (q ∙ ap (form_named T xs) e)
    ∙ sym (named-more T xs (take i fs) (get_or fs i f)) ∙ ap (forms_named T xs) (sym (take_more fs i f h))

pub ruleset name_lists = (name-none, name-step)

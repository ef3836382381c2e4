-- The plain trees of forms, a variant of the tree at a time.
use Rattle.std.proofs.Common.{◌≡◌, ℤ, Bool, List, rules}
use Rattle.fst_base.specs.declared.op.Op.{Op}
use Rattle.fst_base.specs.declared.place.Pos.{Pos}
use Rattle.fst_trees.specs.declared.word.Word.{Word}
use Rattle.fst_trees.specs.declared.form.Form.{Form}
use Rattle.fst_trees.specs.declared.form.FormNode as D
use Rattle.fst_trees.specs.declared.form.FormNode.TheVariants as V
use Rattle.fst_names.specs.Trees.{f_ident, f_int, f_bool, f_unit, f_prim, f_if, f_app, f_let, plain_node, plain_form, plain_forms}

pub form-Ident : {R : Type 0} → (at : Pos) (r : R) → plain_node {R = R} at (V.Ident r) ≡ f_ident at.at r
unfolding plain_node
form-Ident at r = search (rules, D.the_lemmas)

pub form-Int : {R : Type 0} → (at : Pos) (n : ℤ) → plain_node {R = R} at (V.Int n) ≡ f_int at.at n
unfolding plain_node
form-Int at n = search (rules, D.the_lemmas)

pub form-Bool : {R : Type 0} → (at : Pos) (b : Bool) → plain_node {R = R} at (V.Bool b) ≡ f_bool at.at b
unfolding plain_node
form-Bool at b = search (rules, D.the_lemmas)

pub form-Unit : {R : Type 0} → (at : Pos) → plain_node {R = R} at (V.Unit) ≡ f_unit at.at
unfolding plain_node
form-Unit at = search (rules, D.the_lemmas)

pub form-Prim : {R : Type 0} → (at : Pos) (o : Op) (fs : List (Form R)) → plain_node {R = R} at (V.Prim o fs) ≡ f_prim at.at o (plain_forms fs)
unfolding plain_node
form-Prim at o fs = search (rules, D.the_lemmas)

pub form-If : {R : Type 0} → (at : Pos) (c f g : Form R) → plain_node {R = R} at (V.If c f g) ≡ f_if at.at (plain_form c) (plain_form f) (plain_form g)
unfolding plain_node
form-If at c f g = search (rules, D.the_lemmas)

pub form-App : {R : Type 0} → (at : Pos) (r : R) (fs : List (Form R)) → plain_node {R = R} at (V.App r fs) ≡ f_app at.at r (plain_forms fs)
unfolding plain_node
form-App at r fs = search (rules, D.the_lemmas)

pub form-Let : {R : Type 0} → (at : Pos) (w : Word) (f g : Form R) → plain_node {R = R} at (V.Let w f g) ≡ f_let at.at w (plain_form f) (plain_form g)
unfolding plain_node
form-Let at w f g = search (rules, D.the_lemmas)

pub ruleset forms = (form-Ident, form-Int, form-Bool, form-Unit, form-Prim, form-If, form-App, form-Let)

-- What answers among the rules that a form breaks, a variant of the tree at a time.
use Rattle.std.proofs.Common.{◌≡◌, ℕ, ℤ, Bool, List, [], ◌∷◌, ◌++◌, length, refl, sym, ap, ◌∙◌, None, append_assoc, suc, take, get_or, ◌+◌, ◌<◌}
use Rattle.std.proofs.lemmas.List.{append-nil, take_more}
use Rattle.fst_base.specs.declared.op.Op.{Op}
use Rattle.fst_base.specs.declared.place.Pos.{Pos}
use Rattle.fst_trees.specs.declared.word.Word.{Word}
use Rattle.fst_trees.specs.declared.form.Form.{Form}
use Rattle.fst_trees.specs.declared.form.FormNode.{FormNode}
use Rattle.fst_trees.specs.declared.form.FormNode.TheVariants as V
use Rattle.fst_names.specs.declared.broken.Broken.{Broken}
use Rattle.fst_names.specs.Broken.{first_broken, least, inner, innermost}
use Rattle.fst_names.specs.Trees.{plain_form, plain_forms}
use Rattle.fst_names.specs.Names.{Tables, Names, broken_form, broken_forms, broken_local, broken_call, broken_count, listed, count_forms, Use}
use Rattle.fst_names.specs.Looked.{seen}
use Rattle.fst_names.specs.Checks.{node_breaks, form_breaks, forms_break, call_breaks}
use Rattle.fst_names.proofs.TreeLemmas.{form-Ident, form-Int, form-Bool, form-Unit, form-Prim, form-If, form-App, form-Let}
use Rattle.fst_names.proofs.BrokenLemmas.{first-append, first-innermost}

abbrev form : Pos → FormNode Word → Form Word
form at node = record { at = at; node = node }

abbrev of_form : Tables → Names → Form Word → List Broken
of_form T xs f = broken_form T xs (plain_form f)

abbrev of_forms : Tables → Names → List (Form Word) → List Broken
of_forms T xs fs = broken_forms T xs (plain_forms fs)

pub check-Ident : (T : Tables) (at : Pos) (w : Word) (xs : Names) → form_breaks T xs (form at (V.Ident w)) ≡ first_broken (broken_local xs w)
unfolding node_breaks
check-Ident T at w xs = ap (λ f. first_broken (broken_form T xs f)) (form-Ident at w)

pub check-Int : (T : Tables) (at : Pos) (n : ℤ) (xs : Names) → form_breaks T xs (form at (V.Int n)) ≡ None
unfolding node_breaks
check-Int T at n xs = ap (λ f. first_broken (broken_form T xs f)) (form-Int at n)

pub check-Bool : (T : Tables) (at : Pos) (b : Bool) (xs : Names) → form_breaks T xs (form at (V.Bool b)) ≡ None
unfolding node_breaks
check-Bool T at b xs = ap (λ f. first_broken (broken_form T xs f)) (form-Bool at b)

pub check-Unit : (T : Tables) (at : Pos) (xs : Names) → form_breaks T xs (form at V.Unit) ≡ None
unfolding node_breaks
check-Unit T at xs = ap (λ f. first_broken (broken_form T xs f)) (form-Unit at)

pub check-Prim : (T : Tables) (at : Pos) (o : Op) (fs : List (Form Word)) (xs : Names) → form_breaks T xs (form at (V.Prim o fs)) ≡ forms_break T xs fs
unfolding node_breaks forms_break
check-Prim T at o fs xs = ap (λ f. first_broken (broken_form T xs f)) (form-Prim at o fs)

pub check-If : (T : Tables) (at : Pos) (c f g : Form Word) (xs : Names) → form_breaks T xs (form at (V.If c f g)) ≡ least (least (form_breaks T xs c) (form_breaks T xs f)) (form_breaks T xs g)
unfolding node_breaks
check-If T at c f g xs =
    let e : form_breaks T xs (form at (V.If c f g)) ≡ first_broken (of_form T xs c ++ of_form T xs f ++ of_form T xs g) = ap (λ f. first_broken (broken_form T xs f)) (form-If at c f g) in
    e ∙ first-append (of_form T xs c ++ of_form T xs f) (of_form T xs g) ∙ ap (λ o. least o (form_breaks T xs g)) (first-append (of_form T xs c) (of_form T xs f))

pub count-forms : (fs : List (Form Word)) → count_forms (plain_forms fs) ≡ length fs
count-forms [] = refl
count-forms (f ∷ fs) = ap suc (count-forms fs)

-- a called name with its arguments
pub check-called : (T : Tables) (xs : Names) (u : Use) (w : Word) (fs : List (Form Word))
    → first_broken (broken_call u (count_forms (plain_forms fs)) w (of_forms T xs fs)) ≡ call_breaks (seen u) (length fs) w (forms_break T xs fs)
unfolding forms_break call_breaks
check-called T xs u w fs =
    let inside = of_forms T xs fs in
    let own = λ (n : ℕ). broken_count u.arity n w in
    first_append_listed u inside own
  where
    first_append_listed : (u : Use) (inside : List Broken) (own : ℕ → List Broken)
        → first_broken (listed u.broken ++ innermost inside (own (count_forms (plain_forms fs)))) ≡ least (first_broken (listed u.broken)) (inner (first_broken inside) (first_broken (own (length fs))))
    first_append_listed u inside own =
        first-append (listed u.broken) (innermost inside (own (count_forms (plain_forms fs))))
        ∙ ap (least (first_broken (listed u.broken))) (first-innermost inside (own (count_forms (plain_forms fs))) ∙ ap (λ n. inner (first_broken inside) (first_broken (own n))) (count-forms fs))

pub check-App : (T : Tables) (at : Pos) (w : Word) (fs : List (Form Word)) (xs : Names) → form_breaks T xs (form at (V.App w fs)) ≡ call_breaks (seen (T.applied w)) (length fs) w (forms_break T xs fs)
unfolding node_breaks
check-App T at w fs xs = ap (λ f. first_broken (broken_form T xs f)) (form-App at w fs) ∙ check-called T xs (T.applied w) w fs

pub check-Let : (T : Tables) (at : Pos) (w : Word) (f g : Form Word) (xs : Names) → form_breaks T xs (form at (V.Let w f g)) ≡ least (form_breaks T xs f) (form_breaks T (w.text ∷ xs) g)
unfolding node_breaks
check-Let T at w f g xs =
    let e : form_breaks T xs (form at (V.Let w f g)) ≡ first_broken (of_form T xs f ++ of_form T (w.text ∷ xs) g) = ap (λ f. first_broken (broken_form T xs f)) (form-Let at w f g) in
    e ∙ first-append (of_form T xs f) (of_form T (w.text ∷ xs) g)

-- a list with one more
pub check-none : (T : Tables) (xs : Names) → forms_break T xs [] ≡ None
unfolding forms_break
check-none T xs = refl

pub check-more : (T : Tables) (xs : Names) (fs : List (Form Word)) (f : Form Word) → forms_break T xs (fs ++ f ∷ []) ≡ least (forms_break T xs fs) (form_breaks T xs f)
unfolding node_breaks forms_break
check-more T xs fs f = ap first_broken (apart fs) ∙ first-append (of_forms T xs fs) (of_form T xs f)
  where
    apart : (fs : List (Form Word)) → of_forms T xs (fs ++ f ∷ []) ≡ of_forms T xs fs ++ of_form T xs f
    apart [] = append-nil (of_form T xs f)
    apart (g ∷ gs) = ap (λ bs. of_form T xs g ++ bs) (apart gs) ∙ sym (append_assoc (of_form T xs g) (of_forms T xs gs) (of_form T xs f))

-- the step of a loop over them
pub check-step : (T : Tables) (xs : Names) (fs : List (Form Word)) (i : ℕ) (f : Form Word) → f ≡ get_or fs i f → i < length fs → forms_break T xs (take (i + 1) fs) ≡ least (forms_break T xs (take i fs)) (form_breaks T xs f)
check-step T xs fs i f e h = ap (forms_break T xs) (take_more fs i f h) ∙ check-more T xs (take i fs) (get_or fs i f) ∙ ap (λ g. least (forms_break T xs (take i fs)) (form_breaks T xs g)) (sym e)

pub ruleset checks = (check-Ident, check-Int, check-Bool, check-Unit, check-Prim, check-If, check-App, check-Let)

pub ruleset check_lists = (check-none, check-step)

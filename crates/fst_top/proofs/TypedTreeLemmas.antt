-- What forms, parts and bodies elaborate to has its sort.
use Rattle.std.proofs.Common.{◌≡◌, ℕ, List, [], ◌∷◌, map, Option, Some, None, refl, sym, ◌∙◌, subst, All}
use Rattle.std.specs.Prelude.{◌&&◌}
use Rattle.std.proofs.lemmas.List.Elements.{All-head, All-tail}
use Rattle.fst_base.specs.declared.op.Op.{Op}
use Rattle.fst_base.specs.declared.op.Op.TheVariants as op
use Rattle.fst_base.specs.Sorts.{Srt, s_bool, same_sort}
use Rattle.fst_base.proofs.SortLemmas.{same_sort-decides}
use Rattle.fst_terms.specs.Propositional.{SortPropositional, VarsPropositional}
use Rattle.fst_program.specs.Texts.{c_ret, c_let, c_if}
use Rattle.fst_trees.specs.declared.body.BodyTree.{BodyTree}
use Rattle.fst_trees.specs.declared.body.BodyTree.TheVariants as V
use Rattle.fst_trees.specs.declared.body.PartTree.{PartTree}
use Rattle.fst_trees.specs.declared.form.Form.{Form}
use Rattle.fst_trees.specs.declared.form.FormNode.TheOpen as F
use Rattle.fst_trees.specs.declared.sort.SortTree.{SortTree}
use Rattle.fst_trees.specs.declared.word.Word.{Word}
use Rattle.fst_top.specs.Built.{CmBuilt}
use Rattle.fst_top.specs.Elaboration.{Typed, TypedText, Scope, node_layer, term_of, part_of, text_of, branch_of}
use Rattle.fst_top.proofs.BodyInduction.{body_by_parts}
use Rattle.fst_top.proofs.BodyLemmas.{text-Let, text-If, text-Part, text-annotated, text-GhostLet, text-Assert, text-Match, part-Block, part-Call, part-Reify, part-Reflect, part-Term}
use Rattle.fst_top.proofs.ElaborationLemmas.{term-Ident, term-Int, term-Bool, term-Unit, term-Prim, term-If, term-App, term-Let}
use Rattle.fst_top.proofs.FormInduction.{form_by_parts}
use Rattle.fst_top.proofs.TypingLemmas.{IsTyped, sorts, some-given, some-only, some-same, both-true, at-bool, variable-typed, equation-typed, if-typed}

-- nothing is no thing
pub nothing : {A C : Type 0} (o : Option A) (a : A) → o ≡ None → o ≡ Some a → C
nothing o a p q = absurd (clash (sym p ∙ q))
  where
    clash : None ≡ Some a → ⊥
    clash e = cc

-- ---- forms

abbrev FormTyped : Form Word → Type 0
FormTyped f = (xs : Scope) (t : Typed) → VarsPropositional xs → term_of f xs ≡ Some t → IsTyped (sorts xs) t

prim-typed : (at : ℕ) (o : Op) (fs : List (Form Word)) → All FormTyped fs → (xs : Scope) (t : Typed) → VarsPropositional xs → node_layer (F.Prim o (map term_of fs)) at xs ≡ Some t → IsTyped (sorts xs) t
prim-typed at op.Eq (x ∷ y ∷ []) all xs t h e =
    let p = some-given (term_of x xs) _ t e in
    let q = some-given (term_of y xs) _ t p.1.1 in
    equation-typed (sorts xs) at p.0 q.0 t (All-head FormTyped x (y ∷ []) all xs p.0 h p.1.0) (All-head FormTyped y [] (All-tail FormTyped x (y ∷ []) all) xs q.0 h q.1.0) q.1.1
prim-typed at o fs all xs t h e = cc

literal-typed : (Ss : List Srt) (u t : Typed) → IsTyped Ss u → Some u ≡ Some t → IsTyped Ss t
literal-typed Ss u t h e = subst (IsTyped Ss) (some-same u t e) h

pub form-typed : (f : Form Word) (xs : Scope) (t : Typed) → VarsPropositional xs → term_of f xs ≡ Some t → IsTyped (sorts xs) t
form-typed = form_by_parts FormTyped (record {
  at_ident = λ at w xs t h e. variable-typed xs w.text t h (sym (term-Ident at w xs) ∙ e);
  at_int = λ at n xs t h e. nothing _ t (term-Int at n xs) e;
  at_bool = λ at b xs t h e. literal-typed (sorts xs) _ t (record { sort = tt; term = refl }) (sym (term-Bool at b xs) ∙ e);
  at_unit = λ at xs t h e. literal-typed (sorts xs) _ t (record { sort = tt; term = refl }) (sym (term-Unit at xs) ∙ e);
  at_prim = λ at o fs all xs t h e. prim-typed at.at o fs all xs t h (sym (term-Prim at o fs xs) ∙ e);
  at_if = λ at c x y hc hx hy xs t h e.
      let p = some-given (term_of c xs) _ t (sym (term-If at c x y xs) ∙ e) in
      let q = some-given (term_of x xs) _ t p.1.1 in
      let r = some-given (term_of y xs) _ t q.1.1 in
      if-typed (sorts xs) p.0 q.0 r.0 t (hc xs p.0 h p.1.0) (hx xs q.0 h q.1.0) (hy xs r.0 h r.1.0) r.1.1;
  at_app = λ at w fs all xs t h e. nothing _ t (term-App at w fs xs) e;
  at_let = λ at w x y hx hy xs t h e. nothing _ t (term-Let at w x y xs) e;
})

-- ---- bodies

-- the text has its sort, which is bool or unit
pub record IsTypedText (Ss : List Srt) (c : TypedText) : Type 0 where
  pub sort : SortPropositional c.sort
  pub text : CmBuilt Ss c.text c.sort

abbrev BodyTyped : BodyTree Word → Type 0
BodyTyped b = (xs : Scope) (c : TypedText) → VarsPropositional xs → text_of b xs ≡ Some c → IsTypedText (sorts xs) c

abbrev PartTyped : PartTree Word → Type 0
PartTyped p = (xs : Scope) (t : Typed) → VarsPropositional xs → part_of p xs ≡ Some t → IsTyped (sorts xs) t

made-typed : (Ss : List Srt) (u c : TypedText) → IsTypedText Ss u → Some u ≡ Some c → IsTypedText Ss c
made-typed Ss u c h e = subst (IsTypedText Ss) (some-same u c e) h

let-typed : (w : Word) (S : Option (SortTree Word)) (p : PartTree Word) (rest : BodyTree Word) → PartTyped p → BodyTyped rest → (xs : Scope) (c : TypedText) → VarsPropositional xs → text_of (V.Let w S p rest) xs ≡ Some c → IsTypedText (sorts xs) c
let-typed w (Some S) p rest hp hr xs c h e = nothing _ c (text-annotated w S p rest xs) e
let-typed w None p rest hp hr xs c h e =
    let q = some-given (part_of p xs) _ c (sym (text-Let w p rest xs) ∙ e) in
    let r = some-given (text_of rest (record { name = w.text; sort = q.0.sort } ∷ xs)) _ c q.1.1 in
    let bound = hp xs q.0 h q.1.0 in
    let more = hr (record { name = w.text; sort = q.0.sort } ∷ xs) r.0 (bound.sort, h) r.1.0 in
    made-typed (sorts xs) (record { text = c_let w.text (c_ret q.0.term) r.0.text; sort = r.0.sort }) c (record { sort = more.sort; text = (q.0.sort, (bound.term, more.text)) }) r.1.1

branch-typed : (Ss : List Srt) (s : Typed) (c d u : TypedText) → IsTyped Ss s → IsTypedText Ss c → IsTypedText Ss d → branch_of s c d ≡ Some u → IsTypedText Ss u
branch-typed Ss s c d u hs hc hd e =
    let p = some-only (same_sort s.sort s_bool && same_sort c.sort d.sort) _ u e in
    let q = both-true _ _ p.0 in
    let same : c.sort ≡ d.sort = (same_sort-decides c.sort d.sort).0 q.1 in
    made-typed Ss (record { text = c_if s.term c.text d.text; sort = c.sort }) u (record { sort = hc.sort; text = (at-bool Ss s hs q.0, hc.text, subst (CmBuilt Ss d.text) (sym same) hd.text) }) p.1

pub body-typed : (b : BodyTree Word) (xs : Scope) (c : TypedText) → VarsPropositional xs → text_of b xs ≡ Some c → IsTypedText (sorts xs) c
body-typed = body_by_parts BodyTyped PartTyped (record {
  at_let = let-typed;
  at_ghost = λ w S p rest hp hr xs c h e. nothing _ c (text-GhostLet w S p rest xs) e;
  at_assert = λ f at rest hr xs c h e. nothing _ c (text-Assert f at rest xs) e;
  at_if = λ f a b ha hb xs c h e.
      let p = some-given (term_of f xs) _ c (sym (text-If f a b xs) ∙ e) in
      let q = some-given (text_of a xs) _ c p.1.1 in
      let r = some-given (text_of b xs) _ c q.1.1 in
      branch-typed (sorts xs) p.0 q.0 r.0 c (form-typed f xs p.0 h p.1.0) (ha xs q.0 h q.1.0) (hb xs r.0 h r.1.0) r.1.1;
  at_match = λ f at arms xs c h e. nothing _ c (text-Match f at arms xs) e;
  at_part = λ p hp xs c h e.
      let q = some-given (part_of p xs) _ c (sym (text-Part p xs) ∙ e) in
      let typed = hp xs q.0 h q.1.0 in
      made-typed (sorts xs) (record { text = c_ret q.0.term; sort = q.0.sort }) c (record { sort = typed.sort; text = typed.term }) q.1.1;
  at_block = λ at body hb xs t h e. nothing _ t (part-Block body at xs) e;
  at_call = λ at w fs xs t h e. nothing _ t (part-Call w fs at xs) e;
  at_reify = λ at w S body f hb xs t h e. nothing _ t (part-Reify w S body f at xs) e;
  at_reflect = λ at w S x body hb xs t h e. nothing _ t (part-Reflect w S x body at xs) e;
  at_term = λ at f xs t h e. form-typed f xs t h (sym (part-Term f at xs) ∙ e);
})

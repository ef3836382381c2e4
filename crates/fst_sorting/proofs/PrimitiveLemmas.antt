-- A primitive of which no rule is broken has a row of the table: its arguments are settled at the row's sorts.
use Rattle.std.proofs.Common.{◌≡◌, ℕ, false, List, [], ◌∷◌, ◌++◌, length, Option, Some, None, refl, sym, ap, ◌∙◌, subst}
use Rattle.std.specs.Prelude.{⊤}
use Rattle.fst_base.specs.declared.op.Op.{Op}
use Rattle.fst_base.specs.declared.op.Op.TheVariants as op
use Rattle.fst_base.specs.Sorts.{Srt, s_unit, s_bool, s_int, s_pair, s_opt, s_list, s_either}
use Rattle.fst_base.specs.Rows.{Fits, row_args, is_inner}
use Rattle.fst_program.specs.LiftPaths.{or_else}
use Rattle.fst_effects.specs.Known.{with_sort, clash, needs_sort}
use Rattle.fst_effects.specs.TermSorts.{prim_given, prim_wants, prim_breaks, prim_needs, left_of, right_of, item_of}
use Rattle.fst_sorting.proofs.BasicLemmas.{none-left, none-right, clash-settled, needed}

-- arguments that give these sorts, where those are wanted, have the last ones
abbrev pub Settled : (Ws Gs : List (Option Srt)) → (Ts : List Srt) → Type 0
Settled Ws [] [] = ⊤
Settled [] (G ∷ Gs) (T ∷ Ts) = (G ≡ Some T) × Settled [] Gs Ts
Settled (W ∷ Ws) (G ∷ Gs) (T ∷ Ts) = (or_else W G ≡ Some T) × Settled Ws Gs Ts
Settled _ _ _ = ⊥

-- the row of a primitive with these arguments and this result
abbrev pub HasRow : Op → (Gs : List (Option Srt)) → (W : Option Srt) → Srt → Type 0
HasRow o Gs W S = (Ts : List Srt) × (Fits o Ts S × Settled (prim_wants o Gs W) Gs Ts)

-- a selector or len needs the sort of its argument, and a part of it
of-part : (p at : ℕ) (part : Srt → Option Srt) (G : Option Srt) (more : List _) → needs_sort p G ≡ [] → needs_sort at (with_sort G part) ++ more ≡ []
    → (A : Srt) × ((B : Srt) × ((G ≡ Some A) × (part A ≡ Some B)))
of-part p at part None more e h = cc
of-part p at part (Some A) more e h = let b = needed at (part A) (none-left (needs_sort at (part A)) more h) in (A, (b.0, (refl, b.1)))

is-pair-left : (A B : Srt) → left_of A ≡ Some B → (C : Srt) × (A ≡ s_pair B C)
is-pair-left (s_pair S T) B e = let p : S ≡ B = cc in (T, ap (λ X. s_pair X T) p)
is-pair-left _ B e = cc

is-pair-right : (A B : Srt) → right_of A ≡ Some B → (C : Srt) × (A ≡ s_pair C B)
is-pair-right (s_pair S T) B e = let p : T ≡ B = cc in (S, ap (s_pair S) p)
is-pair-right _ B e = cc

is-list : (A B : Srt) → item_of A ≡ Some B → A ≡ s_list B
is-list (s_list S) B e = let p : S ≡ B = cc in ap s_list p
is-list _ B e = cc

either-one : (G H : Option Srt) (A : Srt) → or_else G H ≡ Some A → (or_else (or_else G H) G ≡ Some A) × (or_else (or_else G H) H ≡ Some A)
either-one (Some B) H A e = (e, e)
either-one None (Some B) A e = (e, e)
either-one None None A e = cc

module _ (p at : ℕ) where
  pub prim-row : (o : Op) (Gs : List (Option Srt)) (W : Option Srt) (S : Srt) → is_inner o ≡ false → length Gs ≡ length (row_args o)
      → prim_needs p o Gs ≡ [] → prim_breaks at o Gs W ≡ [] → or_else W (prim_given o Gs) ≡ Some S → HasRow o Gs W S
  prim-row op.Add (G ∷ H ∷ []) W S n l d e h = (s_int ∷ s_int ∷ [], (record { first = s_unit; second = s_unit; args = refl; result = sym (clash-settled at s_int S W e h) }, (refl, (refl, tt))))
  prim-row op.Sub (G ∷ H ∷ []) W S n l d e h = (s_int ∷ s_int ∷ [], (record { first = s_unit; second = s_unit; args = refl; result = sym (clash-settled at s_int S W e h) }, (refl, (refl, tt))))
  prim-row op.Mul (G ∷ H ∷ []) W S n l d e h = (s_int ∷ s_int ∷ [], (record { first = s_unit; second = s_unit; args = refl; result = sym (clash-settled at s_int S W e h) }, (refl, (refl, tt))))
  prim-row op.Div (G ∷ H ∷ []) W S n l d e h = (s_int ∷ s_int ∷ [], (record { first = s_unit; second = s_unit; args = refl; result = sym (clash-settled at s_int S W e h) }, (refl, (refl, tt))))
  prim-row op.Rem (G ∷ H ∷ []) W S n l d e h = (s_int ∷ s_int ∷ [], (record { first = s_unit; second = s_unit; args = refl; result = sym (clash-settled at s_int S W e h) }, (refl, (refl, tt))))
  prim-row op.Neg (G ∷ []) W S n l d e h = (s_int ∷ [], (record { first = s_unit; second = s_unit; args = refl; result = sym (clash-settled at s_int S W e h) }, (refl, tt)))
  prim-row op.Le (G ∷ H ∷ []) W S n l d e h = (s_int ∷ s_int ∷ [], (record { first = s_unit; second = s_unit; args = refl; result = sym (clash-settled at s_bool S W e h) }, (refl, (refl, tt))))
  prim-row op.Lt (G ∷ H ∷ []) W S n l d e h = (s_int ∷ s_int ∷ [], (record { first = s_unit; second = s_unit; args = refl; result = sym (clash-settled at s_bool S W e h) }, (refl, (refl, tt))))
  prim-row op.Eq (G ∷ H ∷ []) W S n l d e h =
      let a = needed p (or_else G H) d in
      let b = either-one G H a.0 a.1 in
      (a.0 ∷ a.0 ∷ [], (record { first = a.0; second = s_unit; args = refl; result = sym (clash-settled at s_bool S W e h) }, (b.0, (b.1, tt))))
  prim-row op.Pair (Some A ∷ Some B ∷ []) None S n l d e h = (A ∷ B ∷ [], (record { first = A; second = B; args = refl; result = cc }, (refl, (refl, tt))))
  prim-row op.Pair (None ∷ H ∷ []) None S n l d e h = cc
  prim-row op.Pair (Some A ∷ None ∷ []) None S n l d e h = cc
  prim-row op.Pair (G ∷ H ∷ []) (Some (s_pair A B)) S n l d e h = (A ∷ B ∷ [], (record { first = A; second = B; args = refl; result = cc }, (refl, (refl, tt))))
  prim-row op.Pair (G ∷ H ∷ []) (Some _) S n l d e h = cc
  prim-row op.Fst (G ∷ []) W S n l d e h =
      let a = of-part p at left_of G (clash at (with_sort G left_of) W) d e in
      let c = is-pair-left a.0 a.1.0 a.1.1.1 in
      let given : with_sort G left_of ≡ Some a.1.0 = ap (λ X. with_sort X left_of) a.1.1.0 ∙ a.1.1.1 in
      let same : a.1.0 ≡ S = clash-settled at a.1.0 S W (subst (λ X. clash at X W ≡ []) given (none-right (needs_sort at (with_sort G left_of)) _ e)) (subst (λ X. or_else W X ≡ Some S) given h) in
      (s_pair a.1.0 c.0 ∷ [], (record { first = a.1.0; second = c.0; args = refl; result = sym same }, (a.1.1.0 ∙ ap Some c.1, tt)))
  prim-row op.Snd (G ∷ []) W S n l d e h =
      let a = of-part p at right_of G (clash at (with_sort G right_of) W) d e in
      let c = is-pair-right a.0 a.1.0 a.1.1.1 in
      let given : with_sort G right_of ≡ Some a.1.0 = ap (λ X. with_sort X right_of) a.1.1.0 ∙ a.1.1.1 in
      let same : a.1.0 ≡ S = clash-settled at a.1.0 S W (subst (λ X. clash at X W ≡ []) given (none-right (needs_sort at (with_sort G right_of)) _ e)) (subst (λ X. or_else W X ≡ Some S) given h) in
      (s_pair c.0 a.1.0 ∷ [], (record { first = c.0; second = a.1.0; args = refl; result = sym same }, (a.1.1.0 ∙ ap Some c.1, tt)))
  prim-row op.Nothing [] (Some (s_opt A)) S n l d e h = ([], (record { first = A; second = s_unit; args = refl; result = cc }, tt))
  prim-row op.Nothing [] None S n l d e h = cc
  prim-row op.Nothing [] (Some _) S n l d e h = cc
  prim-row op.Just (Some A ∷ []) None S n l d e h = (A ∷ [], (record { first = A; second = s_unit; args = refl; result = cc }, (refl, tt)))
  prim-row op.Just (None ∷ []) None S n l d e h = cc
  prim-row op.Just (G ∷ []) (Some (s_opt A)) S n l d e h = (A ∷ [], (record { first = A; second = s_unit; args = refl; result = cc }, (refl, tt)))
  prim-row op.Just (G ∷ []) (Some _) S n l d e h = cc
  prim-row op.Nil [] (Some (s_list A)) S n l d e h = ([], (record { first = A; second = s_unit; args = refl; result = cc }, tt))
  prim-row op.Nil [] None S n l d e h = cc
  prim-row op.Nil [] (Some _) S n l d e h = cc
  prim-row op.Cons (Some A ∷ H ∷ []) None S n l d e h = (A ∷ s_list A ∷ [], (record { first = A; second = s_unit; args = refl; result = cc }, (refl, (refl, tt))))
  prim-row op.Cons (None ∷ Some (s_list A) ∷ []) None S n l d e h = (A ∷ s_list A ∷ [], (record { first = A; second = s_unit; args = refl; result = cc }, (refl, (refl, tt))))
  prim-row op.Cons (None ∷ Some _ ∷ []) None S n l d e h = cc
  prim-row op.Cons (None ∷ None ∷ []) None S n l d e h = cc
  prim-row op.Cons (G ∷ H ∷ []) (Some (s_list A)) S n l d e h = (A ∷ s_list A ∷ [], (record { first = A; second = s_unit; args = refl; result = cc }, (refl, (refl, tt))))
  prim-row op.Cons (G ∷ H ∷ []) (Some _) S n l d e h = cc
  prim-row op.Inl (G ∷ []) (Some (s_either A B)) S n l d e h = (A ∷ [], (record { first = A; second = B; args = refl; result = cc }, (refl, tt)))
  prim-row op.Inl (G ∷ []) None S n l d e h = cc
  prim-row op.Inl (G ∷ []) (Some _) S n l d e h = cc
  prim-row op.Inr (G ∷ []) (Some (s_either A B)) S n l d e h = (B ∷ [], (record { first = A; second = B; args = refl; result = cc }, (refl, tt)))
  prim-row op.Inr (G ∷ []) None S n l d e h = cc
  prim-row op.Inr (G ∷ []) (Some _) S n l d e h = cc
  prim-row op.Len (G ∷ []) W S n l d e h =
      let a = of-part p at item_of G (clash at (Some s_int) W) d e in
      (s_list a.1.0 ∷ [], (record { first = a.1.0; second = s_unit; args = refl; result = sym (clash-settled at s_int S W (none-right (needs_sort at (with_sort G item_of)) _ e) h) }, (a.1.1.0 ∙ ap Some (is-list a.0 a.1.0 a.1.1.1), tt)))
  prim-row o Gs W S n l d e h = cc

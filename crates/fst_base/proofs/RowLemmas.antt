-- The primitives keep the sorts of their rows.
use Rattle.std.proofs.Common.{◌≡◌, Bool, true, false, ◌||◌, List, [], ◌∷◌, map, refl, sym, ap, ap₂, ◌∙◌, subst}
use Rattle.fst_base.specs.declared.op.Op.{Op}
use Rattle.fst_base.specs.declared.op.Op.TheVariants as op
use Rattle.fst_base.specs.Sorts.{Srt, s_unit, s_bool, s_int, s_a, s_b, s_pair, s_opt, s_list, s_either, put_sorts, holds_a, holds_b}
use Rattle.fst_base.specs.Values.{Val, v_unit, v_bool, v_int, v_pair, v_none, v_some, v_nil, v_cons, v_inl, v_inr, Has, HasSorts, default_of}
use Rattle.fst_base.specs.Primitives.{prim, first, second, fst_of, snd_of, hd_of, tl_of, the_of, outl_of, outr_of}
use Rattle.fst_base.specs.Rows.{row_args, row_result, is_inner}

-- the default value of a sort has it
pub default-has : (S : Srt) → Has S (default_of S)
default-has s_unit = tt
default-has s_bool = tt
default-has s_int = tt
default-has s_a = tt
default-has s_b = tt
default-has (s_pair S T) = (default-has S, default-has T)
default-has (s_opt S) = tt
default-has (s_list S) = tt
default-has (s_either S T) = default-has S

first-has : (S : Srt) (Ss : List Srt) (vs : List Val) → HasSorts (S ∷ Ss) vs → Has S (first vs)
first-has S Ss [] h = absurd h
first-has S Ss (v ∷ vs) h = h.0

second-has : (S T : Srt) (Ss : List Srt) (vs : List Val) → HasSorts (S ∷ T ∷ Ss) vs → Has T (second vs)
second-has S T Ss [] h = absurd h
second-has S T Ss (v ∷ vs) h = first-has T Ss vs h.1

-- a selector of its own constructor gives the component, and the default value of another
module _ (d : Srt) where
  fst-has : (S T : Srt) (v : Val) → Has (s_pair S T) v → Has S (fst_of d v)
  fst-has S T (v_pair a b) h = h.0
  fst-has S T v h = absurd h

  snd-has : (S T : Srt) (v : Val) → Has (s_pair S T) v → Has T (snd_of d v)
  snd-has S T (v_pair a b) h = h.1
  snd-has S T v h = absurd h

  hd-has : (S : Srt) (v : Val) → Has S (default_of d) → Has (s_list S) v → Has S (hd_of d v)
  hd-has S (v_cons a b) e h = h.0
  hd-has S v e h = e

  tl-has : (S : Srt) (v : Val) → Has (s_list S) (default_of d) → Has (s_list S) v → Has (s_list S) (tl_of d v)
  tl-has S (v_cons a b) e h = h.1
  tl-has S v e h = e

  the-has : (S : Srt) (v : Val) → Has S (default_of d) → Has (s_opt S) v → Has S (the_of d v)
  the-has S (v_some a) e h = h
  the-has S v e h = e

  outl-has : (S T : Srt) (v : Val) → Has S (default_of d) → Has (s_either S T) v → Has S (outl_of d v)
  outl-has S T (v_inl a) e h = h
  outl-has S T v e h = e

  outr-has : (S T : Srt) (v : Val) → Has T (default_of d) → Has (s_either S T) v → Has T (outr_of d v)
  outr-has S T (v_inr a) e h = h
  outr-has S T v e h = e

-- on arguments of its sorts a primitive gives a value of its result's sort; an inner selector does where its default value has it
pub prim-has : (o : Op) (A B d : Srt) (vs : List Val) → (is_inner o ≡ true → Has (put_sorts A B (row_result o)) (default_of d)) → HasSorts (map (put_sorts A B) (row_args o)) vs → Has (put_sorts A B (row_result o)) (prim o d vs)
prim-has op.Add A B d vs e h = tt
prim-has op.Sub A B d vs e h = tt
prim-has op.Mul A B d vs e h = tt
prim-has op.Div A B d vs e h = tt
prim-has op.Rem A B d vs e h = tt
prim-has op.Neg A B d vs e h = tt
prim-has op.Le A B d vs e h = tt
prim-has op.Lt A B d vs e h = tt
prim-has op.Eq A B d vs e h = tt
prim-has op.Pair A B d vs e h = (first-has A (B ∷ []) vs h, second-has A B [] vs h)
prim-has op.Fst A B d vs e h = fst-has d A B (first vs) (first-has (s_pair A B) [] vs h)
prim-has op.Snd A B d vs e h = snd-has d A B (first vs) (first-has (s_pair A B) [] vs h)
prim-has op.Nothing A B d vs e h = tt
prim-has op.Just A B d vs e h = first-has A [] vs h
prim-has op.Nil A B d vs e h = tt
prim-has op.Cons A B d vs e h = (first-has A (s_list A ∷ []) vs h, second-has A (s_list A) [] vs h)
prim-has op.Inl A B d vs e h = first-has A [] vs h
prim-has op.Inr A B d vs e h = first-has B [] vs h
prim-has op.Len A B d vs e h = tt
prim-has op.Hd A B d vs e h = hd-has d A (first vs) (e refl) (first-has (s_list A) [] vs h)
prim-has op.Tl A B d vs e h = tl-has d A (first vs) (e refl) (first-has (s_list A) [] vs h)
prim-has op.The A B d vs e h = the-has d A (first vs) (e refl) (first-has (s_opt A) [] vs h)
prim-has op.Outl A B d vs e h = outl-has d A B (first vs) (e refl) (first-has (s_either A B) [] vs h)
prim-has op.Outr A B d vs e h = outr-has d A B (first vs) (e refl) (first-has (s_either A B) [] vs h)

-- putting sorts twice is putting the sorts put
pub put_sorts-twice : (C D A B S : Srt) → put_sorts C D (put_sorts A B S) ≡ put_sorts (put_sorts C D A) (put_sorts C D B) S
put_sorts-twice C D A B s_unit = refl
put_sorts-twice C D A B s_bool = refl
put_sorts-twice C D A B s_int = refl
put_sorts-twice C D A B s_a = refl
put_sorts-twice C D A B s_b = refl
put_sorts-twice C D A B (s_pair S T) = ap₂ s_pair (put_sorts-twice C D A B S) (put_sorts-twice C D A B T)
put_sorts-twice C D A B (s_opt S) = ap s_opt (put_sorts-twice C D A B S)
put_sorts-twice C D A B (s_list S) = ap s_list (put_sorts-twice C D A B S)
put_sorts-twice C D A B (s_either S T) = ap₂ s_either (put_sorts-twice C D A B S) (put_sorts-twice C D A B T)

-- putting the variables themselves changes nothing
pub put_sorts-same : (S : Srt) → put_sorts s_a s_b S ≡ S
put_sorts-same s_unit = refl
put_sorts-same s_bool = refl
put_sorts-same s_int = refl
put_sorts-same s_a = refl
put_sorts-same s_b = refl
put_sorts-same (s_pair S T) = ap₂ s_pair (put_sorts-same S) (put_sorts-same T)
put_sorts-same (s_opt S) = ap s_opt (put_sorts-same S)
put_sorts-same (s_list S) = ap s_list (put_sorts-same S)
put_sorts-same (s_either S T) = ap₂ s_either (put_sorts-same S) (put_sorts-same T)

or-left : (a b : Bool) → a || b ≡ false → a ≡ false
or-left true b h = h
or-left false b h = refl

or-right : (a b : Bool) → a || b ≡ false → b ≡ false
or-right true true h = h
or-right true false h = refl
or-right false b h = h

-- where the variable b is not held, what is put for it is of no account
pub put_sorts-without_b : (A B C S : Srt) → holds_b S ≡ false → put_sorts A B S ≡ put_sorts A C S
put_sorts-without_b A B C s_unit h = refl
put_sorts-without_b A B C s_bool h = refl
put_sorts-without_b A B C s_int h = refl
put_sorts-without_b A B C s_a h = refl
put_sorts-without_b A B C s_b h = cc
put_sorts-without_b A B C (s_pair S T) h = ap₂ s_pair (put_sorts-without_b A B C S (or-left _ _ h)) (put_sorts-without_b A B C T (or-right _ _ h))
put_sorts-without_b A B C (s_opt S) h = ap s_opt (put_sorts-without_b A B C S h)
put_sorts-without_b A B C (s_list S) h = ap s_list (put_sorts-without_b A B C S h)
put_sorts-without_b A B C (s_either S T) h = ap₂ s_either (put_sorts-without_b A B C S (or-left _ _ h)) (put_sorts-without_b A B C T (or-right _ _ h))

-- a sort without variables stays as it is
pub put_sorts-closed : (A B S : Srt) → holds_a S ≡ false → holds_b S ≡ false → put_sorts A B S ≡ S
put_sorts-closed A B s_unit h k = refl
put_sorts-closed A B s_bool h k = refl
put_sorts-closed A B s_int h k = refl
put_sorts-closed A B s_a h k = cc
put_sorts-closed A B s_b h k = cc
put_sorts-closed A B (s_pair S T) h k = ap₂ s_pair (put_sorts-closed A B S (or-left _ _ h) (or-left _ _ k)) (put_sorts-closed A B T (or-right _ _ h) (or-right _ _ k))
put_sorts-closed A B (s_opt S) h k = ap s_opt (put_sorts-closed A B S h k)
put_sorts-closed A B (s_list S) h k = ap s_list (put_sorts-closed A B S h k)
put_sorts-closed A B (s_either S T) h k = ap₂ s_either (put_sorts-closed A B S (or-left _ _ h) (or-left _ _ k)) (put_sorts-closed A B T (or-right _ _ h) (or-right _ _ k))

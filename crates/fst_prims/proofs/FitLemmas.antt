-- What it says of the arguments that they fit a row.
use Rattle.std.proofs.Common.{ℤ, List, [], ◌∷◌, map, ◌≡◌, ◌⊎◌, inl, inr, refl, sym, ap, ap₂, subst, ◌∙◌}
use Rattle.fst_base.specs.Rows.{row_args}
use Rattle.fst_base.specs.Sorts.{Srt, put_sorts, s_int, s_pair, s_opt, s_list, s_either}
use Rattle.fst_base.specs.Values.{Val, v_int, v_pair, v_none, v_some, v_nil, v_cons, v_inl, v_inr, plain_value, Has, HasSorts}
use Rattle.fst_base.specs.declared.op.Op.{Op}
use Rattle.fst_base.specs.declared.op.Op.TheVariants as op
use Rattle.fst_base.specs.declared.value.Value.{Value}
use Rattle.fst_base.specs.declared.value.Value.TheVariants as V
use Rattle.fst_base.proofs.ValueLemmas.{value_of_plain, value-back}
use Rattle.fst_prims.specs.Arguments.{AreArguments}
use Rattle.fst_prims.specs.Opened.{AreNone, AreTwoInts, IsOneInt, IsOne, AreTwo, IsOnePair, IsOneOption, IsOneEither, IsOneList, IsOneAndList}

-- a value is what its plain tree says
from_plain : (v : Value) (w : Val) → plain_value v ≡ w → v ≡ value_of_plain w
from_plain v w e = sym (value-back v) ∙ ap value_of_plain e

-- values of a sort, by its head

plain_int : (w : Val) → Has s_int w → (n : ℤ) × (w ≡ v_int n)
plain_int (v_int n) h = (n, refl)
plain_int w h = absurd h

has_int : (v : Value) → Has s_int (plain_value v) → (n : ℤ) × (v ≡ V.Int n)
has_int v h = let m = plain_int _ h in (m.0, from_plain v _ m.1)

plain_pair : (S T : Srt) (w : Val) → Has (s_pair S T) w → (a b : Val) × (w ≡ v_pair a b)
plain_pair S T (v_pair a b) h = (a, b, refl)
plain_pair S T w h = absurd h

has_pair : (S T : Srt) (v : Value) → Has (s_pair S T) (plain_value v) → (a b : Value) × (v ≡ V.Pair a b)
has_pair S T v h = let m = plain_pair S T _ h in (value_of_plain m.0, value_of_plain m.1, from_plain v _ m.2)

plain_list : (S : Srt) (w : Val) → Has (s_list S) w → (vs : List Value) × (value_of_plain w ≡ V.List vs)
plain_list S v_nil h = ([], refl)
plain_list S (v_cons a b) h = (_, refl)
plain_list S w h = absurd h

has_list : (S : Srt) (v : Value) → Has (s_list S) (plain_value v) → (vs : List Value) × (v ≡ V.List vs)
has_list S v h = let m = plain_list S _ h in (m.0, from_plain v _ refl ∙ m.1)

plain_option : (S : Srt) (w : Val) → Has (s_opt S) w → (value_of_plain w ≡ V.Nothing) ⊎ ((a : Value) × (value_of_plain w ≡ V.Just a))
plain_option S v_none h = inl refl
plain_option S (v_some a) h = inr (_, refl)
plain_option S w h = absurd h

plain_either : (S T : Srt) (w : Val) → Has (s_either S T) w → ((a : Value) × (value_of_plain w ≡ V.Left a)) ⊎ ((a : Value) × (value_of_plain w ≡ V.Right a))
plain_either S T (v_inl a) h = inl (_, refl)
plain_either S T (v_inr a) h = inr (_, refl)
plain_either S T w h = absurd h

-- no argument, one and two

none_of : (vs : List Value) → HasSorts [] (map plain_value vs) → AreNone vs
none_of [] h = refl
none_of (v ∷ vs) h = absurd h

record IsOneOf (S : Srt) (vs : List Value) : Type 0 where
  value : Value
  is : vs ≡ value ∷ []
  sort : Has S (plain_value value)

record AreTwoOf (S T : Srt) (vs : List Value) : Type 0 where
  value : Value
  other : Value
  is : vs ≡ value ∷ other ∷ []
  sort : Has S (plain_value value)
  other_sort : Has T (plain_value other)

one_of : (S : Srt) (vs : List Value) → HasSorts (S ∷ []) (map plain_value vs) → IsOneOf S vs
one_of S [] h = absurd h
one_of S (v ∷ []) h = record { value = v; is = refl; sort = h.0 }
one_of S (v ∷ w ∷ vs) h = absurd h.1

two_of : (S T : Srt) (vs : List Value) → HasSorts (S ∷ T ∷ []) (map plain_value vs) → AreTwoOf S T vs
two_of S T [] h = absurd h
two_of S T (v ∷ []) h = absurd h.1
two_of S T (v ∷ w ∷ []) h = record { value = v; other = w; is = refl; sort = h.0; other_sort = h.1.0 }
two_of S T (v ∷ w ∷ x ∷ vs) h = absurd h.1.1

two_ints : (vs : List Value) → AreTwoOf s_int s_int vs → AreTwoInts vs
two_ints vs h =
    let m = has_int h.value h.sort in
    let n = has_int h.other h.other_sort in
    (m.0, n.0, h.is ∙ ap₂ (λ x y. x ∷ y ∷ []) m.1 n.1)

one_int : (vs : List Value) → IsOneOf s_int vs → IsOneInt vs
one_int vs h = let m = has_int h.value h.sort in (m.0, h.is ∙ ap (λ x. x ∷ []) m.1)

one_pair : (S T : Srt) (vs : List Value) → IsOneOf (s_pair S T) vs → IsOnePair vs
one_pair S T vs h = let m = has_pair S T h.value h.sort in (m.0, m.1, h.is ∙ ap (λ x. x ∷ []) m.2)

one_list : (S : Srt) (vs : List Value) → IsOneOf (s_list S) vs → IsOneList vs
one_list S vs h = let m = has_list S h.value h.sort in (m.0, h.is ∙ ap (λ x. x ∷ []) m.1)

one_and_list : (S T : Srt) (vs : List Value) → AreTwoOf S (s_list T) vs → IsOneAndList vs
one_and_list S T vs h = let m = has_list T h.other h.other_sort in (h.value, (m.0, h.is ∙ ap (λ x. h.value ∷ x ∷ []) m.1))

one_option : (S : Srt) (vs : List Value) → IsOneOf (s_opt S) vs → IsOneOption vs
one_option S vs h = elim (plain_option S _ h.sort) [
  | inl e ↦ inl (h.is ∙ ap (λ x. x ∷ []) (from_plain h.value _ refl ∙ e))
  | inr m ↦ inr (m.0, h.is ∙ ap (λ x. x ∷ []) (from_plain h.value _ refl ∙ m.1))
]

one_either : (S T : Srt) (vs : List Value) → IsOneOf (s_either S T) vs → IsOneEither vs
one_either S T vs h = elim (plain_either S T _ h.sort) [
  | inl m ↦ inl (m.0, h.is ∙ ap (λ x. x ∷ []) (from_plain h.value _ refl ∙ m.1))
  | inr m ↦ inr (m.0, h.is ∙ ap (λ x. x ∷ []) (from_plain h.value _ refl ∙ m.1))
]

-- each row

module _ (o : Op) (vs : List Value) (S : Srt) (f : AreArguments o (map plain_value vs) S) where
  args_at : (p : Op) → o ≡ p → HasSorts (map (put_sorts f.fit.first f.fit.second) (row_args p)) (map plain_value vs)
  args_at p e = subst (λ Ss. HasSorts Ss (map plain_value vs)) (f.fit.args ∙ ap (λ q. map (put_sorts f.fit.first f.fit.second) (row_args q)) e) f.have

  pub fits-Add : o ≡ op.Add → AreTwoInts vs
  fits-Add e = two_ints vs (two_of _ _ vs (args_at op.Add e))

  pub fits-Sub : o ≡ op.Sub → AreTwoInts vs
  fits-Sub e = two_ints vs (two_of _ _ vs (args_at op.Sub e))

  pub fits-Mul : o ≡ op.Mul → AreTwoInts vs
  fits-Mul e = two_ints vs (two_of _ _ vs (args_at op.Mul e))

  pub fits-Div : o ≡ op.Div → AreTwoInts vs
  fits-Div e = two_ints vs (two_of _ _ vs (args_at op.Div e))

  pub fits-Rem : o ≡ op.Rem → AreTwoInts vs
  fits-Rem e = two_ints vs (two_of _ _ vs (args_at op.Rem e))

  pub fits-Neg : o ≡ op.Neg → IsOneInt vs
  fits-Neg e = one_int vs (one_of _ vs (args_at op.Neg e))

  pub fits-Le : o ≡ op.Le → AreTwoInts vs
  fits-Le e = two_ints vs (two_of _ _ vs (args_at op.Le e))

  pub fits-Lt : o ≡ op.Lt → AreTwoInts vs
  fits-Lt e = two_ints vs (two_of _ _ vs (args_at op.Lt e))

  pub fits-Eq : o ≡ op.Eq → AreTwo vs
  fits-Eq e = let t = two_of f.fit.first f.fit.first vs (args_at op.Eq e) in (t.value, t.other, t.is)

  pub fits-Pair : o ≡ op.Pair → AreTwo vs
  fits-Pair e = let t = two_of f.fit.first f.fit.second vs (args_at op.Pair e) in (t.value, t.other, t.is)

  pub fits-Fst : o ≡ op.Fst → IsOnePair vs
  fits-Fst e = one_pair _ _ vs (one_of _ vs (args_at op.Fst e))

  pub fits-Snd : o ≡ op.Snd → IsOnePair vs
  fits-Snd e = one_pair _ _ vs (one_of _ vs (args_at op.Snd e))

  pub fits-Nothing : o ≡ op.Nothing → AreNone vs
  fits-Nothing e = none_of vs (args_at op.Nothing e)

  pub fits-Just : o ≡ op.Just → IsOne vs
  fits-Just e = let t = one_of f.fit.first vs (args_at op.Just e) in (t.value, t.is)

  pub fits-Nil : o ≡ op.Nil → AreNone vs
  fits-Nil e = none_of vs (args_at op.Nil e)

  pub fits-Cons : o ≡ op.Cons → IsOneAndList vs
  fits-Cons e = one_and_list f.fit.first f.fit.first vs (two_of _ _ vs (args_at op.Cons e))

  pub fits-Inl : o ≡ op.Inl → IsOne vs
  fits-Inl e = let t = one_of f.fit.first vs (args_at op.Inl e) in (t.value, t.is)

  pub fits-Inr : o ≡ op.Inr → IsOne vs
  fits-Inr e = let t = one_of f.fit.second vs (args_at op.Inr e) in (t.value, t.is)

  pub fits-Len : o ≡ op.Len → IsOneList vs
  fits-Len e = one_list _ vs (one_of _ vs (args_at op.Len e))

  pub fits-Hd : o ≡ op.Hd → IsOneList vs
  fits-Hd e = one_list _ vs (one_of _ vs (args_at op.Hd e))

  pub fits-Tl : o ≡ op.Tl → IsOneList vs
  fits-Tl e = one_list _ vs (one_of _ vs (args_at op.Tl e))

  pub fits-The : o ≡ op.The → IsOneOption vs
  fits-The e = one_option _ vs (one_of _ vs (args_at op.The e))

  pub fits-Outl : o ≡ op.Outl → IsOneEither vs
  fits-Outl e = one_either _ _ vs (one_of _ vs (args_at op.Outl e))

  pub fits-Outr : o ≡ op.Outr → IsOneEither vs
  fits-Outr e = one_either _ _ vs (one_of _ vs (args_at op.Outr e))

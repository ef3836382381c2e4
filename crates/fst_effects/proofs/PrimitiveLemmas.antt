-- What primitives want of their arguments, and break by themselves, a row at a time.
use Rattle.std.proofs.Common.{◌≡◌, List, Option, Some, None, refl}
use Rattle.fst_base.specs.declared.op.Op.TheVariants as op
use Rattle.fst_base.specs.declared.place.Pos.{Pos}
use Rattle.fst_base.specs.Sorts.{Srt, s_int, s_bool}
use Rattle.fst_names.specs.Broken.{first_broken, least}
use Rattle.fst_names.proofs.BrokenLemmas.{first-append}
use Rattle.fst_effects.specs.Known.{with_sort, needs_sort, clash}
use Rattle.fst_effects.specs.TermSorts.{first, left_of, right_of, option_of, item_of, inl_of, inr_of, compared, other_sort}
use Rattle.fst_effects.specs.TermChecks.{clash_of, need_of, other_of, prim_need, prim_own}
use Rattle.fst_effects.proofs.PlainLemmas.{plain-sort-Int, plain-sort-Bool}

module _ (at : Pos) (Gs : List (Option Srt)) where
  pub need-Fst : prim_need at op.Fst Gs ≡ need_of at (first Gs)
  unfolding prim_need need_of
  need-Fst = refl

  pub need-Snd : prim_need at op.Snd Gs ≡ need_of at (first Gs)
  unfolding prim_need need_of
  need-Snd = refl

  pub need-Len : prim_need at op.Len Gs ≡ need_of at (first Gs)
  unfolding prim_need need_of
  need-Len = refl

  pub need-Eq : prim_need at op.Eq Gs ≡ need_of at (compared Gs)
  unfolding prim_need need_of
  need-Eq = refl

  pub need-Add : prim_need at op.Add Gs ≡ None
  unfolding prim_need
  need-Add = refl

  pub need-Sub : prim_need at op.Sub Gs ≡ None
  unfolding prim_need
  need-Sub = refl

  pub need-Mul : prim_need at op.Mul Gs ≡ None
  unfolding prim_need
  need-Mul = refl

  pub need-Div : prim_need at op.Div Gs ≡ None
  unfolding prim_need
  need-Div = refl

  pub need-Rem : prim_need at op.Rem Gs ≡ None
  unfolding prim_need
  need-Rem = refl

  pub need-Neg : prim_need at op.Neg Gs ≡ None
  unfolding prim_need
  need-Neg = refl

  pub need-Le : prim_need at op.Le Gs ≡ None
  unfolding prim_need
  need-Le = refl

  pub need-Lt : prim_need at op.Lt Gs ≡ None
  unfolding prim_need
  need-Lt = refl

  pub need-Pair : prim_need at op.Pair Gs ≡ None
  unfolding prim_need
  need-Pair = refl

  pub need-Nothing : prim_need at op.Nothing Gs ≡ None
  unfolding prim_need
  need-Nothing = refl

  pub need-Just : prim_need at op.Just Gs ≡ None
  unfolding prim_need
  need-Just = refl

  pub need-Nil : prim_need at op.Nil Gs ≡ None
  unfolding prim_need
  need-Nil = refl

  pub need-Cons : prim_need at op.Cons Gs ≡ None
  unfolding prim_need
  need-Cons = refl

  pub need-Inl : prim_need at op.Inl Gs ≡ None
  unfolding prim_need
  need-Inl = refl

  pub need-Inr : prim_need at op.Inr Gs ≡ None
  unfolding prim_need
  need-Inr = refl

  pub need-Hd : prim_need at op.Hd Gs ≡ None
  unfolding prim_need
  need-Hd = refl

  pub need-Tl : prim_need at op.Tl Gs ≡ None
  unfolding prim_need
  need-Tl = refl

  pub need-The : prim_need at op.The Gs ≡ None
  unfolding prim_need
  need-The = refl

  pub need-Outl : prim_need at op.Outl Gs ≡ None
  unfolding prim_need
  need-Outl = refl

  pub need-Outr : prim_need at op.Outr Gs ≡ None
  unfolding prim_need
  need-Outr = refl

other-none : (at : Pos) (W : Option Srt) (part : Srt → Option Srt) → first_broken (other_sort at.at W part) ≡ other_of at W (with_sort W part)
unfolding need_of
other-none at None part = refl
other-none at (Some S) part = refl

module _ (at : Pos) (Gs : List (Option Srt)) (W : Option Srt) where
  pub own-Pair : prim_own at op.Pair Gs W ≡ other_of at W (with_sort W left_of)
  unfolding prim_own
  own-Pair = other-none at W left_of

  pub own-Nothing : prim_own at op.Nothing Gs W ≡ other_of at W (with_sort W option_of)
  unfolding prim_own
  own-Nothing = other-none at W option_of

  pub own-Just : prim_own at op.Just Gs W ≡ other_of at W (with_sort W option_of)
  unfolding prim_own
  own-Just = other-none at W option_of

  pub own-Nil : prim_own at op.Nil Gs W ≡ other_of at W (with_sort W item_of)
  unfolding prim_own
  own-Nil = other-none at W item_of

  pub own-Cons : prim_own at op.Cons Gs W ≡ other_of at W (with_sort W item_of)
  unfolding prim_own
  own-Cons = other-none at W item_of

  pub own-Inl : prim_own at op.Inl Gs W ≡ other_of at W (with_sort W inl_of)
  unfolding prim_own
  own-Inl = other-none at W inl_of

  pub own-Inr : prim_own at op.Inr Gs W ≡ other_of at W (with_sort W inr_of)
  unfolding prim_own
  own-Inr = other-none at W inr_of

  pub own-Fst : prim_own at op.Fst Gs W ≡ least (need_of at (with_sort (first Gs) left_of)) (clash_of at (with_sort (first Gs) left_of) W)
  unfolding prim_own need_of clash_of
  own-Fst = first-append (needs_sort at.at (with_sort (first Gs) left_of)) (clash at.at (with_sort (first Gs) left_of) W)

  pub own-Snd : prim_own at op.Snd Gs W ≡ least (need_of at (with_sort (first Gs) right_of)) (clash_of at (with_sort (first Gs) right_of) W)
  unfolding prim_own need_of clash_of
  own-Snd = first-append (needs_sort at.at (with_sort (first Gs) right_of)) (clash at.at (with_sort (first Gs) right_of) W)

  pub own-Len : prim_own at op.Len Gs W ≡ least (need_of at (with_sort (first Gs) item_of)) (clash_of at (Some s_int) W)
  unfolding prim_own need_of clash_of
  own-Len = first-append (needs_sort at.at (with_sort (first Gs) item_of)) (clash at.at (Some s_int) W)

  pub own-Le : prim_own at op.Le Gs W ≡ clash_of at (Some s_bool) W
  unfolding prim_own clash_of
  own-Le = refl

  pub own-Lt : prim_own at op.Lt Gs W ≡ clash_of at (Some s_bool) W
  unfolding prim_own clash_of
  own-Lt = refl

  pub own-Eq : prim_own at op.Eq Gs W ≡ clash_of at (Some s_bool) W
  unfolding prim_own clash_of
  own-Eq = refl

  pub own-Hd : prim_own at op.Hd Gs W ≡ clash_of at None W
  unfolding prim_own clash_of
  own-Hd = refl

  pub own-Tl : prim_own at op.Tl Gs W ≡ clash_of at None W
  unfolding prim_own clash_of
  own-Tl = refl

  pub own-The : prim_own at op.The Gs W ≡ clash_of at None W
  unfolding prim_own clash_of
  own-The = refl

  pub own-Outl : prim_own at op.Outl Gs W ≡ clash_of at None W
  unfolding prim_own clash_of
  own-Outl = refl

  pub own-Outr : prim_own at op.Outr Gs W ≡ clash_of at None W
  unfolding prim_own clash_of
  own-Outr = refl

  pub own-Add : prim_own at op.Add Gs W ≡ clash_of at (Some s_int) W
  unfolding prim_own clash_of
  own-Add = refl

  pub own-Sub : prim_own at op.Sub Gs W ≡ clash_of at (Some s_int) W
  unfolding prim_own clash_of
  own-Sub = refl

  pub own-Mul : prim_own at op.Mul Gs W ≡ clash_of at (Some s_int) W
  unfolding prim_own clash_of
  own-Mul = refl

  pub own-Div : prim_own at op.Div Gs W ≡ clash_of at (Some s_int) W
  unfolding prim_own clash_of
  own-Div = refl

  pub own-Rem : prim_own at op.Rem Gs W ≡ clash_of at (Some s_int) W
  unfolding prim_own clash_of
  own-Rem = refl

  pub own-Neg : prim_own at op.Neg Gs W ≡ clash_of at (Some s_int) W
  unfolding prim_own clash_of
  own-Neg = refl

pub ruleset wanted = (plain-sort-Int, plain-sort-Bool)

pub ruleset needs = (need-Fst, need-Snd, need-Len, need-Eq, need-Add, need-Sub, need-Mul, need-Div, need-Rem, need-Neg, need-Le, need-Lt, need-Pair, need-Nothing, need-Just, need-Nil, need-Cons, need-Inl, need-Inr, need-Hd, need-Tl, need-The, need-Outl, need-Outr)

pub ruleset own = (plain-sort-Int, plain-sort-Bool, own-Pair, own-Nothing, own-Just, own-Nil, own-Cons, own-Inl, own-Inr, own-Fst, own-Snd, own-Len, own-Le, own-Lt, own-Eq, own-Hd, own-Tl, own-The, own-Outl, own-Outr, own-Add, own-Sub, own-Mul, own-Div, own-Rem, own-Neg)

-- A value that has a text at a sort has the sort.
use Rattle.std.proofs.Common.{ℕ, true, false, List}
use Rattle.fst_base.specs.Sorts.{Srt, s_unit, s_bool, s_int, s_pair, s_opt, s_list, s_either}
use Rattle.fst_base.specs.Values.{Val, v_unit, v_bool, v_int, v_pair, v_none, v_some, v_nil, v_cons, v_inl, v_inr, Has}
use Rattle.fst_values.specs.Texts.{Text, More}

mutual
  -- the value has the sort
  pub text-has : (S : Srt) (v : Val) (from to : List ℕ) → Text S v from to → Has S v
  text-has s_unit v_unit from to h = tt
  text-has s_bool (v_bool true) from to h = tt
  text-has s_bool (v_bool false) from to h = tt
  text-has s_int (v_int n) from to h = tt
  text-has (s_pair S T) (v_pair a b) from to h = (text-has S a h.0 h.1 h.4.1, text-has T b h.2 h.3 h.4.3)
  text-has (s_opt S) v_none from to h = tt
  text-has (s_opt S) (v_some a) from to h = text-has S a h.0 to h.1.1
  text-has (s_list S) v_nil from to h = tt
  text-has (s_list S) (v_cons a b) from to h = (text-has S a h.0 h.1 h.2.1, more-has S b h.1 to h.2.2)
  text-has (s_either S T) (v_inl a) from to h = text-has S a h.0 to h.1.1
  text-has (s_either S T) (v_inr a) from to h = text-has T a h.0 to h.1.1
  text-has S v from to h = absurd h

  more-has : (S : Srt) (v : Val) (from to : List ℕ) → More S v from to → Has (s_list S) v
  more-has S v_nil from to h = tt
  more-has S (v_cons a b) from to h = (text-has S a h.0 h.1 h.2.1, more-has S b h.1 to h.2.2)
  more-has S v from to h = absurd h

-- Worked programs without user effects, as plain trees: the cases by which the definitions are checked.
use Rattle.std.specs.Prelude.{ℕ, codes, pos, true, false, List, [], ◌∷◌, Option, Some, None}
use Rattle.fst_base.specs.declared.op.Op.{Op}
use Rattle.fst_base.specs.declared.op.Op.TheVariants as op
use Rattle.fst_base.specs.Sorts.{Srt, s_bool, s_int, s_pair, s_list}
use Rattle.fst_base.specs.Values.{Val, v_int, chain}
use Rattle.fst_terms.specs.Terms.{Tm, t_var, t_int, t_bool, t_prim, t_if, t_app, row}
use Rattle.fst_program.specs.declared.comp.Con.TheVariants as con
use Rattle.fst_program.specs.declared.effect.Effect.{Effect}
use Rattle.fst_program.specs.declared.effect.Effect.TheVariants as effect
use Rattle.fst_program.specs.Texts.{Cm, c_ret, c_let, c_ghost, c_assert, c_match, c_call, c_end, c_arm, Prm, Fn, Prog}

-- names

abbrev pub word_b : List ℕ
word_b = codes "b"

abbrev pub word_d : List ℕ
word_d = codes "d"

abbrev pub word_e : List ℕ
word_e = codes "e"

abbrev pub word_f : List ℕ
word_f = codes "f"

abbrev pub word_g : List ℕ
word_g = codes "g"

abbrev pub word_l : List ℕ
word_l = codes "l"

abbrev pub word_m : List ℕ
word_m = codes "m"

abbrev pub word_n : List ℕ
word_n = codes "n"

abbrev pub word_q : List ℕ
word_q = codes "q"

abbrev pub word_r : List ℕ
word_r = codes "r"

abbrev pub word_s : List ℕ
word_s = codes "s"

abbrev pub word_t : List ℕ
word_t = codes "t"

abbrev pub word_u : List ℕ
word_u = codes "u"

abbrev pub word_x : List ℕ
word_x = codes "x"

abbrev pub word_y : List ℕ
word_y = codes "y"

abbrev pub word_flip : List ℕ
word_flip = codes "flip"

abbrev pub word_main : List ℕ
word_main = codes "main"

abbrev pub word_sum : List ℕ
word_sum = codes "sum"

abbrev pub word_add1 : List ℕ
word_add1 = codes "add1"

abbrev pub word_get : List ℕ
word_get = codes "get"

abbrev pub word_put : List ℕ
word_put = codes "put"

abbrev pub word_raise : List ℕ
word_raise = codes "raise"

abbrev pub word_tick : List ℕ
word_tick = codes "tick"

abbrev pub word_withdraw : List ℕ
word_withdraw = codes "withdraw"

abbrev pub word_ST : List ℕ
word_ST = codes "ST"

abbrev pub word_EX : List ℕ
word_EX = codes "EX"

abbrev pub word_TW : List ℕ
word_TW = codes "TW"

abbrev pub word_input : List ℕ
word_input = codes "input"

-- short forms: variables, numbers, primitives at place 0

abbrev pub v : ℕ → Tm
v i = t_var i

abbrev pub num : ℕ → Tm
num n = t_int (pos n)

abbrev pub one : Op → Srt → Tm → Tm
one o S t = t_prim o S (row (t ∷ [])) 0

abbrev pub two : Op → Srt → Tm → Tm → Tm
two o S t u = t_prim o S (row (t ∷ u ∷ [])) 0

abbrev pub plus : Tm → Tm → Tm
plus t u = two op.Add s_int t u

abbrev pub minus : Tm → Tm → Tm
minus t u = two op.Sub s_int t u

abbrev pub is : Tm → Tm → Tm
is t u = two op.Eq s_bool t u

abbrev pub at_most_ : Tm → Tm → Tm
at_most_ t u = two op.Le s_bool t u

abbrev pub pair : Srt → Srt → Tm → Tm → Tm
pair S T t u = two op.Pair (s_pair S T) t u

abbrev pub call : ℕ → List Tm → Cm
call j ts = c_call j (row ts) 0

abbrev pub param : List ℕ → Srt → Prm
param x S = record { name = x; sort = S; hidden = false; refine = None }

-- a function without decreases, a group of its own
abbrev pub fun_of : List ℕ → ℕ → List Prm → Effect → Srt → Option Tm → Option Tm → Cm → Fn
fun_of x k ps E S needs gives c = record { name = x; place = 0; params = ps; effect = E; sort = S; needs = needs; gives = gives; measures = []; unfolds = 1; body = c; group = k }

abbrev pub only : List Fn → List (Option Fn)
only [] = []
only (f ∷ fs) = Some f ∷ only fs

-- fun flip (b : bool) : PURE bool ensures result = b { not b }
abbrev pub flip : Prog
flip = record {
  effects = [];
  lifts = [];
  funs = only (record {
    name = word_flip;
    place = 4;
    params = param word_b s_bool ∷ [];
    effect = effect.Pure;
    sort = s_bool;
    needs = None;
    gives = Some (t_prim op.Eq s_bool (row (v 0 ∷ v 1 ∷ [])) 47);
    measures = [];
    unfolds = 1;
    group = 0;
    body = c_ret (t_if (v 0) (t_bool false) (t_bool true));
  } ∷ []);
}

-- fun main (l : list int) : PURE int
-- { match l with | x :: r -> x end }
abbrev pub head : Prog
head = record {
  effects = [];
  lifts = [];
  funs = only (record {
    name = word_main;
    place = 4;
    params = param word_l (s_list s_int) ∷ [];
    effect = effect.Pure;
    sort = s_int;
    needs = None;
    gives = None;
    measures = [];
    unfolds = 1;
    group = 0;
    body = c_match (v 0) 37 (c_arm con.Cons (word_x ∷ word_r ∷ []) (c_ret (v 1)) c_end);
  } ∷ []);
}

-- fun main (n : int) (d : int) : PURE int
-- { n / d }
abbrev pub divide : Prog
divide = record {
  effects = [];
  lifts = [];
  funs = only (record {
    name = word_main;
    place = 4;
    params = param word_n s_int ∷ param word_d s_int ∷ [];
    effect = effect.Pure;
    sort = s_int;
    needs = None;
    gives = None;
    measures = [];
    unfolds = 1;
    group = 0;
    body = c_ret (t_prim op.Div s_int (row (v 1 ∷ v 0 ∷ [])) 44);
  } ∷ []);
}

-- fun main (n : int) (d : int) : PURE int
-- { (if d = 0 then 1 else n / d) }
abbrev pub divide_unless_0 : Prog
divide_unless_0 = record {
  effects = [];
  lifts = [];
  funs = only (fun_of word_main 0 (param word_n s_int ∷ param word_d s_int ∷ []) effect.Pure s_int None None
      (c_ret (t_if (is (v 0) (num 0)) (num 1) (two op.Div s_int (v 1) (v 0)))) ∷ []);
}

-- fun add1 (x : int) ghost (n : int) : PURE int
--   requires n <= x
--   ensures n < result
-- { ghost let m = n + 1 in assert m <= x + 1; x + 1 }
abbrev pub add1 : Prog
add1 = record {
  effects = [];
  lifts = [];
  funs = only (record {
    name = word_add1;
    place = 4;
    params = param word_x s_int ∷ record { name = word_n; sort = s_int; hidden = true; refine = None } ∷ [];
    effect = effect.Pure;
    sort = s_int;
    needs = Some (t_prim op.Le s_bool (row (v 0 ∷ v 1 ∷ [])) 59);
    gives = Some (t_prim op.Lt s_bool (row (v 1 ∷ v 0 ∷ [])) 76);
    measures = [];
    unfolds = 1;
    group = 0;
    body = c_ghost word_m (c_ret (t_prim op.Add s_int (row (v 0 ∷ num 1 ∷ [])) 103))
        (c_assert (t_prim op.Le s_bool (row (v 0 ∷ t_prim op.Add s_int (row (v 2 ∷ num 1 ∷ [])) 124 ∷ [])) 119) 110
        (c_ret (t_prim op.Add s_int (row (v 2 ∷ num 1 ∷ [])) 131)));
  } ∷ []);
}

-- fun sum (l : list int) : PURE int decreases len l
-- { match l with | [] -> 0 | x :: r -> let s = sum(r) in x + s end }
-- fun main (l : list int) : PURE int ensures result = sum(l) { sum(l) }
abbrev pub sum : Prog
sum = record {
  effects = [];
  lifts = [];
  funs = only (
      record {
        name = word_sum;
        place = 0;
        params = param word_l (s_list s_int) ∷ [];
        effect = effect.Pure;
        sort = s_int;
        needs = None;
        gives = None;
        measures = one op.Len s_int (v 0) ∷ [];
        unfolds = 1;
        group = 0;
        body = c_match (v 0) 0 (c_arm con.Nil [] (c_ret (num 0))
            (c_arm con.Cons (word_x ∷ word_r ∷ []) (c_let word_s (call 0 (v 0 ∷ [])) (c_ret (plus (v 2) (v 0)))) c_end));
      }
      ∷ fun_of word_main 1 (param word_l (s_list s_int) ∷ []) effect.Pure s_int None (Some (is (v 0) (t_app 0 s_int (row (v 1 ∷ []))))) (call 0 (v 0 ∷ []))
      ∷ []);
}

-- fun f (x : int) : PURE int requires 0 <= x ensures x <= result { x }
abbrev pub bounded : Fn
bounded = fun_of word_f 0 (param word_x s_int ∷ []) effect.Pure s_int (Some (at_most_ (num 0) (v 0))) (Some (at_most_ (v 1) (v 0))) (c_ret (v 0))

-- fun main (x : int) : PURE int requires 0 <= x ensures x <= result
-- { let y = f(x) in ghost let g = f(y) in assert x <= g; y }
abbrev pub relay : Prog
relay = record {
  effects = [];
  lifts = [];
  funs = only (bounded
      ∷ fun_of word_main 1 (param word_x s_int ∷ []) effect.Pure s_int (Some (at_most_ (num 0) (v 0))) (Some (at_most_ (v 1) (v 0)))
      (c_let word_y (call 0 (v 0 ∷ [])) (c_ghost word_g (call 0 (v 0 ∷ [])) (c_assert (at_most_ (v 2) (v 0)) 0 (c_ret (v 1)))))
      ∷ []);
}

-- fun main (x : int) : PURE int { ghost let g = x + 1 in x }
abbrev pub ghostly : Prog
ghostly = record {
  effects = [];
  lifts = [];
  funs = only (fun_of word_main 0 (param word_x s_int ∷ []) effect.Pure s_int None None
      (c_ghost word_g (c_ret (plus (v 0) (num 1))) (c_ret (v 1))) ∷ []);
}

-- fun main (x : int) : PURE int ensures result = x + 1 { x + 1 }
abbrev pub next : Prog
next = record {
  effects = [];
  lifts = [];
  funs = only (fun_of word_main 0 (param word_x s_int ∷ []) effect.Pure s_int None
      (Some (is (v 0) (plus (v 1) (num 1)))) (c_ret (plus (v 0) (num 1))) ∷ []);
}

abbrev pub int : ℕ → Val
int n = v_int (pos n)

-- [1; 2; 3]
abbrev pub three : Val
three = chain (int 1 ∷ int 2 ∷ int 3 ∷ [])

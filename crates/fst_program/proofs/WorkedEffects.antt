-- Worked programs with user effects and a lift, as plain trees.
use Rattle.std.specs.Prelude.{ℕ, false, List, [], ◌∷◌, Some, None}
use Rattle.fst_base.specs.declared.op.Op.TheVariants as op
use Rattle.fst_base.specs.Sorts.{Srt, s_unit, s_int, s_a, s_b, s_pair, s_either}
use Rattle.fst_terms.specs.Terms.{Tm, t_bool, t_unit, t_if}
use Rattle.fst_program.specs.declared.comp.Con.TheVariants as con
use Rattle.fst_program.specs.declared.effect.Effect.TheVariants as effect
use Rattle.fst_program.specs.Texts.{d_ret, d_let, d_match, d_run_f, d_run_g, d_end, d_arm, Cm, c_ret, c_let, c_bind, c_if, c_reify, c_reflect, c_return, c_lift, Prm, EffDef, Fn, Prog}
use Rattle.fst_program.proofs.WorkedPrograms.{word_b, word_e, word_f, word_g, word_n, word_q, word_r, word_s, word_t, word_u, word_x, word_y, word_main, word_get, word_put, word_raise, word_tick, word_withdraw, word_ST, word_EX, word_TW, v, num, one, plus, minus, is, at_most_, pair, call, param, fun_of, only, bounded}

-- effect ST : PURE input int result a * int
--   return x s { (x, s) }
--   bind f g s { let r = f(s) in match r with | (x, t) -> g(x, t) end }
abbrev pub state : EffDef
state = record {
  name = word_ST;
  base = effect.Pure;
  input = s_int;
  result = s_pair s_a s_int;
  ret_names = word_x ∷ word_s ∷ [];
  ret = d_ret (pair s_a s_int (v 1) (v 0));
  bind_names = word_f ∷ word_g ∷ word_s ∷ [];
  bind = d_let word_r (d_run_f (v 0)) (d_match (v 0) (d_arm con.Pair (word_x ∷ word_t ∷ []) (d_run_g (v 1) (v 0)) d_end));
}

-- a function of effect 0, 1, ..
abbrev pub user : List ℕ → ℕ → ℕ → List Prm → Srt → Tm → Cm → Fn
user x k E ps S gives c = fun_of x k ps (effect.User E) S None (Some gives) c

-- fun get : ST int ensures result = (input, input) { reflect ST int (s) { (s, s) } }
-- fun put (n : int) : ST unit ensures result = ((), n) { reflect ST unit (s) { ((), n) } }
-- fun main : ST int ensures result = (input, input + 1) { let x = get() in let u = put(x + 1) in x }
abbrev pub st : Prog
st = record {
  effects = state ∷ [];
  lifts = [];
  funs = only (
      user word_get 0 0 [] s_int (is (v 0) (pair s_int s_int (v 1) (v 1))) (c_reflect 0 s_int word_s (c_ret (pair s_int s_int (v 0) (v 0))))
      ∷ user word_put 1 0 (param word_n s_int ∷ []) s_unit (is (v 0) (pair s_unit s_int t_unit (v 2))) (c_reflect 0 s_unit word_s (c_ret (pair s_unit s_int t_unit (v 1))))
      ∷ user word_main 2 0 [] s_int (is (v 0) (pair s_int s_int (v 1) (plus (v 1) (num 1))))
      (c_bind 0 word_x (call 0 []) (c_bind 0 word_u (call 1 (plus (v 0) (num 1) ∷ [])) (c_return 0 (c_ret (v 1)))))
      ∷ []);
}

-- fun main : ST int ensures result = (input, input) { let y = f(1) in get() }, with the functions f and get
abbrev pub mixed : Prog
mixed = record {
  effects = state ∷ [];
  lifts = [];
  funs = only (bounded
      ∷ user word_get 1 0 [] s_int (is (v 0) (pair s_int s_int (v 1) (v 1))) (c_reflect 0 s_int word_s (c_ret (pair s_int s_int (v 0) (v 0))))
      ∷ user word_main 2 0 [] s_int (is (v 0) (pair s_int s_int (v 1) (v 1))) (c_let word_y (call 0 (num 1 ∷ [])) (call 1 []))
      ∷ []);
}

-- fun tick : E unit ensures result = ((), input + 1) { reflect E unit (s) { ((), s + 1) } }, for the effect 0
abbrev pub tick : Fn
tick = user word_tick 0 0 [] s_unit (is (v 0) (pair s_unit s_int t_unit (plus (v 1) (num 1)))) (c_reflect 0 s_unit word_s (c_ret (pair s_unit s_int t_unit (plus (v 0) (num 1)))))

-- effect TW : PURE input int result a * int
--   return x s { (x, s) }
--   bind f g s { let r = f(s) in match r with | (x, t) -> let q = g(x, t) in match q with | (y, u) -> g(x, u) end end }
-- fun main : TW unit ensures result = ((), input + 3) { let u = tick() in tick() }
abbrev pub tw : Prog
tw = record {
  effects = record {
    name = word_TW;
    base = effect.Pure;
    input = s_int;
    result = s_pair s_a s_int;
    ret_names = word_x ∷ word_s ∷ [];
    ret = d_ret (pair s_a s_int (v 1) (v 0));
    bind_names = word_f ∷ word_g ∷ word_s ∷ [];
    bind = d_let word_r (d_run_f (v 0)) (d_match (v 0) (d_arm con.Pair (word_x ∷ word_t ∷ [])
        (d_let word_q (d_run_g (v 1) (v 0)) (d_match (v 0) (d_arm con.Pair (word_y ∷ word_u ∷ []) (d_run_g (v 4) (v 0)) d_end))) d_end));
  } ∷ [];
  lifts = [];
  funs = only (tick
      ∷ user word_main 1 0 [] s_unit (is (v 0) (pair s_unit s_int t_unit (plus (v 1) (num 3)))) (c_bind 0 word_u (call 0 []) (call 0 []))
      ∷ []);
}

-- fun main (n : int) : PURE int ensures result = n + 2
-- { let r = reify ST unit { let u = tick() in tick() } (n) in snd r }
abbrev pub reified : Prog
reified = record {
  effects = state ∷ [];
  lifts = [];
  funs = only (tick
      ∷ fun_of word_main 1 (param word_n s_int ∷ []) effect.Pure s_int None (Some (is (v 0) (plus (v 1) (num 2))))
      (c_let word_r (c_reify 0 s_unit (c_bind 0 word_u (call 0 []) (call 0 [])) (v 0)) (c_ret (one op.Snd s_int (v 0))))
      ∷ []);
}

-- effect EX : PURE input int result either int a * int
--   return x s { (inr x, s) }
--   bind f g s { let r = f(s) in match r with | (e, t) -> match e with | inl n -> (inl n, t) | inr x -> g(x, t) end end }
abbrev pub exceptions : EffDef
exceptions = record {
  name = word_EX;
  base = effect.Pure;
  input = s_int;
  result = s_pair (s_either s_int s_a) s_int;
  ret_names = word_x ∷ word_s ∷ [];
  ret = d_ret (pair (s_either s_int s_a) s_int (one op.Inr (s_either s_int s_a) (v 1)) (v 0));
  bind_names = word_f ∷ word_g ∷ word_s ∷ [];
  bind = d_let word_r (d_run_f (v 0)) (d_match (v 0) (d_arm con.Pair (word_e ∷ word_t ∷ [])
      (d_match (v 1) (d_arm con.Left (word_n ∷ []) (d_ret (pair (s_either s_int s_b) s_int (one op.Inl (s_either s_int s_b) (v 0)) (v 1)))
      (d_arm con.Right (word_x ∷ []) (d_run_g (v 0) (v 1)) d_end))) d_end));
}

-- fun raise (n : int) : EX int ensures result = (inl n, input) { reflect EX int (s) { (inl n, s) } }, for the effect E
abbrev pub raise : ℕ → ℕ → Fn
raise k E = user word_raise k E (param word_n s_int ∷ []) s_int
    (is (v 0) (pair (s_either s_int s_int) s_int (one op.Inl (s_either s_int s_int) (v 2)) (v 1)))
    (c_reflect E s_int word_s (c_ret (pair (s_either s_int s_int) s_int (one op.Inl (s_either s_int s_int) (v 1)) (v 0))))

-- fun main (n : int) : EX int ensures result = (inl n, input) { let x = raise(n) in x + 1 }
abbrev pub ex : Prog
ex = record {
  effects = exceptions ∷ [];
  lifts = [];
  funs = only (raise 0 0
      ∷ user word_main 1 0 (param word_n s_int ∷ []) s_int
      (is (v 0) (pair (s_either s_int s_int) s_int (one op.Inl (s_either s_int s_int) (v 2)) (v 1)))
      (c_bind 0 word_x (call 0 (v 0 ∷ [])) (c_return 0 (c_ret (plus (v 0) (num 1)))))
      ∷ []);
}

-- fun get : EX int ensures result = (inr input, input) { reflect EX int (s) { (inr s, s) } }
-- fun put (n : int) : EX unit ensures result = (inr (), n) { reflect EX unit (s) { (inr (), n) } }
-- fun withdraw (n : int) : EX int requires 0 <= input && 0 <= n ensures 0 <= snd result
-- { let b = get() in if n <= b then let u = put(b - n) in b - n else raise(n) }
-- fun main (n : int) : EX int requires 0 <= input && 0 <= n ensures 0 <= snd result { withdraw(n) }
abbrev pub enough : Tm
enough = t_if (at_most_ (num 0) (v 0)) (at_most_ (num 0) (v 1)) (t_bool false)

abbrev pub bank : Prog
bank = record {
  effects = exceptions ∷ [];
  lifts = [];
  funs = only (raise 0 0
      ∷ user word_get 1 0 [] s_int (is (v 0) (pair (s_either s_int s_int) s_int (one op.Inr (s_either s_int s_int) (v 1)) (v 1)))
      (c_reflect 0 s_int word_s (c_ret (pair (s_either s_int s_int) s_int (one op.Inr (s_either s_int s_int) (v 0)) (v 0))))
      ∷ user word_put 2 0 (param word_n s_int ∷ []) s_unit (is (v 0) (pair (s_either s_int s_unit) s_int (one op.Inr (s_either s_int s_unit) t_unit) (v 2)))
      (c_reflect 0 s_unit word_s (c_ret (pair (s_either s_int s_unit) s_int (one op.Inr (s_either s_int s_unit) t_unit) (v 1))))
      ∷ fun_of word_withdraw 3 (param word_n s_int ∷ []) (effect.User 0) s_int (Some enough) (Some (at_most_ (num 0) (one op.Snd s_int (v 0))))
      (c_bind 0 word_b (call 1 []) (c_if (at_most_ (v 1) (v 0))
      (c_bind 0 word_u (call 2 (minus (v 0) (v 1) ∷ [])) (c_return 0 (c_ret (minus (v 1) (v 2)))))
      (call 0 (v 1 ∷ []))))
      ∷ fun_of word_main 4 (param word_n s_int ∷ []) (effect.User 0) s_int (Some enough) (Some (at_most_ (num 0) (one op.Snd s_int (v 0)))) (call 3 (v 0 ∷ []))
      ∷ []);
}

-- lift ST to EX by f s { let r = f(s) in match r with | (x, t) -> (inr x, t) end }
-- fun main : EX int ensures result = (inl 5, input + 1) { let u = tick() in raise(5) }
abbrev pub lifted : Prog
lifted = record {
  effects = state ∷ exceptions ∷ [];
  lifts = record {
    from = 0;
    «to» = 1;
    names = word_f ∷ word_s ∷ [];
    text = d_let word_r (d_run_f (v 0)) (d_match (v 0) (d_arm con.Pair (word_x ∷ word_t ∷ [])
        (d_ret (pair (s_either s_int s_a) s_int (one op.Inr (s_either s_int s_a) (v 1)) (v 0))) d_end));
  } ∷ [];
  funs = only (tick ∷ raise 1 1
      ∷ user word_main 2 1 [] s_int (is (v 0) (pair (s_either s_int s_int) s_int (one op.Inl (s_either s_int s_int) (num 5)) (plus (v 1) (num 1))))
      (c_bind 1 word_u (c_lift 0 (call 0 [])) (call 1 (num 5 ∷ [])))
      ∷ []);
}

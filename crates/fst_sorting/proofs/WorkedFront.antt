-- The law of the front on small programs.
use Rattle.std.proofs.Common.{◌≡◌, ℕ, true, false, List, [], ◌∷◌, None, codes, pos, IsTrue, refl}
use Rattle.fst_base.specs.declared.op.Op.TheVariants as op
use Rattle.fst_base.specs.declared.rule.Rule.TheVariants as rule
use Rattle.fst_trees.specs.declared.word.Word.{Word}
use Rattle.fst_trees.specs.declared.pattern.ConWord.TheVariants as word
use Rattle.fst_trees.specs.declared.decl.EffectName.TheVariants as name
use Rattle.fst_names.specs.Broken.{broken_at}
use Rattle.fst_names.specs.Trees.{w_int, w_pair, w_name, WForm, f_ident, f_int, f_prim, f_end, f_more, x_let, x_match, x_part, p_call, p_term, x_end, x_arm, WDecl, w_effect, w_fun}
use Rattle.fst_program.specs.Sorted.{IsSorted}
use Rattle.fst_sorting.specs.Written.{are_written}
use Rattle.fst_sorting.specs.Front.{front_refusal, program_of}
use Rattle.fst_sorting.proofs.FrontLemmas.{front-sorted}

w : List ℕ → (at : ℕ) → Word
w x at = record { text = x; at = record { at = at } }

-- an effect State: its computations take an int and give a result and an int
state : WDecl Word
state = w_effect (record {
  name = w (codes "State") 7;
  div = false;
  input = w_int;
  result = w_pair (w_name (w (codes "a") 10)) w_int;
  ret_names = w (codes "x") 20 ∷ w (codes "s") 21 ∷ [];
  ret = x_part (p_term 22 (f_prim 22 op.Pair (f_more (f_ident 23 (w (codes "x") 23)) (f_more (f_ident 24 (w (codes "s") 24)) f_end))));
  bind_names = w (codes "f") 30 ∷ w (codes "g") 31 ∷ w (codes "s") 32 ∷ [];
  bind = x_let false (w (codes "r") 33) None (p_call 34 (w (codes "f") 34) (f_more (f_ident 35 (w (codes "s") 35)) f_end))
      (x_match (f_ident 36 (w (codes "r") 36)) 36 (x_arm 37 word.Pair (w (codes "y") 38 ∷ w (codes "t") 39 ∷ []) (x_part (p_call 40 (w (codes "g") 40) (f_more (f_ident 41 (w (codes "y") 41)) (f_more (f_ident 42 (w (codes "t") 42)) f_end)))) x_end));
})

-- it gives n + 1, at the last term of the list
next : WForm Word → WDecl Word
next t = w_fun (record {
  name = w (codes "next") 50;
  params = record { name = w (codes "n") 51; sort = w_int; hidden = false; refine = None } ∷ [];
  effect = name.User (w (codes "State") 52);
  sort = w_int;
  needs = None;
  gives = None;
  measures = [];
  unfolds = 0;
  joined = false;
  body = x_let true (w (codes "h") 60) None (p_term 61 (f_ident 61 (w (codes "n") 61))) (x_part (p_term 70 t));
})

plus : List ℕ → WForm Word
plus x = f_prim 70 op.Add (f_more (f_ident 71 (w x 71)) (f_more (f_int 72 (pos 1)) f_end))

good : List (WDecl Word)
good = state ∷ next (plus (codes "n")) ∷ []

good-written : IsTrue (are_written good)
unfolding good state next plus w
good-written = refl

good-passes : front_refusal good ≡ None
unfolding good state next plus w
good-passes = refl

good-sorted : IsSorted (program_of good)
good-sorted = front-sorted good good-written good-passes

-- a ghost variable outside of ghost parts is refused
leaks : front_refusal (state ∷ next (plus (codes "h")) ∷ []) ≡ broken_at rule.GhostUse 71
unfolding state next plus w
leaks = refl

-- Sorts of small terms, and effects that break a rule.
use Rattle.std.proofs.Common.{◌≡◌, ℕ, false, List, [], ◌∷◌, Option, Some, None, codes, pos, refl}
use Rattle.fst_base.specs.declared.op.Op.TheVariants as op
use Rattle.fst_base.specs.declared.rule.Rule.TheVariants as rule
use Rattle.fst_base.specs.Sorts.{s_bool, s_int, s_opt}
use Rattle.fst_terms.specs.Terms.{t_end, t_more, t_prim, t_var}
use Rattle.fst_trees.specs.declared.word.Word.{Word}
use Rattle.fst_trees.specs.declared.pattern.ConWord.TheVariants as word
use Rattle.fst_names.specs.declared.reference.Ref.{Ref}
use Rattle.fst_names.specs.declared.reference.RefKind.{RefKind}
use Rattle.fst_names.specs.declared.reference.RefKind.TheVariants as kind
use Rattle.fst_names.specs.Broken.{broken_at, first_broken}
use Rattle.fst_names.specs.Trees.{WSort, w_int, w_name, w_opt, WForm, f_bool, f_ident, f_int, f_prim, f_if, f_end, f_more, WText, x_let, x_match, x_part, p_call, p_term, WArms, x_end, x_arm, WEffect}
use Rattle.fst_effects.specs.Known.{Callee, Ctx}
use Rattle.fst_effects.specs.TermSorts.{broken, core, given, visible}
use Rattle.fst_effects.specs.Definitions.{broken_effect}

-- no function is applied, and the variables are a bool and, before it, an int
nothing : Ref → Option Callee
nothing r = None

scope : Ctx
scope = visible s_bool ∷ visible s_int ∷ []

use_of : RefKind → (index at : ℕ) → Ref
use_of k i at = record { kind = k; index = i; at = record { at = at } }

local : (index at : ℕ) → WForm Ref
local i at = f_ident at (use_of kind.Local i at)

-- `b && 3` is `(if b then 3 else false)`, which gives int; the made `false` stands at `&&`
conjunction : first_broken (broken nothing false scope (f_if 2 (local 0 0) (f_int 5 (pos 3)) (f_bool 2 false)) (Some s_bool)) ≡ broken_at rule.SortClash 2
unfolding nothing scope local use_of
conjunction = refl

-- `(if b then none else fst 1) = b`: no side gives a sort, and `none` is fitted to bool
sides : first_broken (broken nothing false scope (f_prim 30 op.Eq (f_more (f_if 1 (local 0 4) (f_prim 11 op.Nothing f_end) (f_prim 21 op.Fst (f_more (f_int 25 (pos 1)) f_end))) (f_more (local 0 32) f_end))) None) ≡ broken_at rule.SortClash 11
unfolding nothing scope local use_of
sides = refl

-- `some n` gives option int, and fits no other sort
option_given : given nothing scope (f_prim 0 op.Just (f_more (local 1 5) f_end)) ≡ Some (s_opt s_int)
unfolding nothing scope local use_of
option_given = refl

-- `none = some n` is an equation at option int
equation : core nothing scope (f_prim 5 op.Eq (f_more (f_prim 0 op.Nothing f_end) (f_more (f_prim 7 op.Just (f_more (local 1 12) f_end)) f_end))) None
    ≡ t_prim op.Eq s_bool (t_more (t_prim op.Nothing (s_opt s_int) t_end 0) (t_more (t_prim op.Just (s_opt s_int) (t_more (t_var 1) t_end) 7) t_end)) 5
unfolding nothing scope local use_of
equation = refl

-- `len n` has a sort that is no list's: at its own place; `len none` gives its argument none: at the argument
length_of_int : first_broken (broken nothing false scope (f_prim 3 op.Len (f_more (local 1 7) f_end)) None) ≡ broken_at rule.SortClash 3
unfolding nothing scope local use_of
length_of_int = refl

length_of_none : first_broken (broken nothing false scope (f_prim 3 op.Len (f_more (f_prim 7 op.Nothing f_end) f_end)) None) ≡ broken_at rule.SortClash 7
unfolding nothing scope
length_of_none = refl

-- ---- effects

w : List ℕ → (at : ℕ) → Word
w x at = record { text = x; at = record { at = at } }

-- an effect of failures, whose results are options; its bind is this text
failing : (input : WSort Ref) → WText Ref → WEffect Ref
failing input bind = record {
  name = w (codes "Fail") 7;
  div = false;
  input = input;
  result = w_opt (w_name (use_of kind.SortA 0 40));
  ret_names = w (codes "x") 50 ∷ w (codes "s") 52 ∷ [];
  ret = x_part (p_term 56 (f_prim 56 op.Just (f_more (local 1 61) f_end)));
  bind_names = w (codes "f") 70 ∷ w (codes "g") 72 ∷ w (codes "s") 74 ∷ [];
  bind = bind;
}

-- let r = f(s) in match r with | some y -> g(y, s), and this arm
bind_text : WArms Ref → WText Ref
bind_text more = x_let false (w (codes "r") 80) None (p_call 84 (use_of kind.RunF 0 84) (f_more (local 0 86) f_end))
    (x_match (local 0 90) 88 (x_arm 92 word.Full (w (codes "y") 97 ∷ []) (x_part (p_call 100 (use_of kind.RunG 0 100) (f_more (local 0 102) (f_more (local 2 104) f_end)))) more))

nothing_else : WArms Ref
nothing_else = x_arm 110 word.Empty [] (x_part (p_term 118 (f_prim 118 op.Nothing f_end))) x_end

whole : broken_effect (failing w_int (bind_text nothing_else)) ≡ []
unfolding failing bind_text nothing_else w local use_of
whole = refl

-- the match lacks `none`
half : first_broken (broken_effect (failing w_int (bind_text x_end))) ≡ broken_at rule.OpenMatch 88
unfolding failing bind_text w local use_of
half = refl

-- an input of the sort `a`
shape : first_broken (broken_effect (failing (w_name (use_of kind.SortA 0 30)) (bind_text x_end))) ≡ broken_at rule.EffectShape 30
unfolding failing bind_text w local use_of
shape = refl

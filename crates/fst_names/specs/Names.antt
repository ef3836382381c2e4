-- What names stand for, and the rules on names: a name is declared nowhere or isn't in scope, is declared or bound twice, or is named
-- too early; a call has the wrong number of arguments; there are too many functions or effects.
use Rattle.std.specs.Prelude.{ℕ, zero, suc, Bool, true, false, not, ◌&&◌, ◌||◌, nat_lt, nat_le, nat_eq, List, [], ◌∷◌, ◌++◌, length, map, Option, Some, None, option_map, if◌then◌else◌, codes, bytes_eq}
use Rattle.fst_base.specs.declared.rule.Rule.TheVariants as rule
use Rattle.fst_trees.specs.declared.word.Word.{Word}
use Rattle.fst_trees.specs.declared.pattern.ConWord.{ConWord}
use denote.Enum.Bare.{sameb}
use Rattle.fst_trees.specs.contracts.pattern.ConWord as con
use Rattle.fst_trees.specs.declared.decl.EffectName.{EffectName}
use Rattle.fst_trees.specs.declared.decl.EffectName.TheVariants as effect
use Rattle.fst_names.specs.declared.reference.Ref.{Ref}
use Rattle.fst_names.specs.declared.reference.RefKind.{RefKind}
use Rattle.fst_names.specs.declared.reference.RefKind.TheVariants as kind
use Rattle.fst_names.specs.declared.broken.Broken.{Broken}
use Rattle.fst_names.specs.Broken.{breaks, broken_at, innermost}
use Rattle.fst_names.specs.Trees.{WSort, w_unit, w_bool, w_int, w_pair, w_opt, w_list, w_either, w_name, WForm, WForms, f_ident, f_int, f_bool, f_unit, f_prim, f_if, f_app, f_let, f_end, f_more, WText, WPart, WArms, x_let, x_assert, x_if, x_match, x_part, p_block, p_call, p_reify, p_reflect, p_term, x_end, x_arm, WParam, WFun, WEffect, WLift, WDecl, w_effect, w_lift, w_fun}

-- names, of which the last bound one stands first
abbrev pub Names : Type 0
Names = List (List ℕ)

-- the number of the first of these names that is this one, where the first has number i
abbrev pub number_from : (i : ℕ) → (name : List ℕ) → Names → Option ℕ
number_from i x [] = None
number_from i x (y ∷ ys) = if bytes_eq x y then Some i else number_from (suc i) x ys

abbrev pub number_of : (name : List ℕ) → Names → Option ℕ
number_of = number_from 0

-- the name is one of these
abbrev pub is_among : (name : List ℕ) → Names → Bool
is_among x [] = false
is_among x (y ∷ ys) = bytes_eq x y || is_among x ys

-- the first, or the second where there is none
abbrev pub or_else : Option ℕ → Option ℕ → Option ℕ
or_else None o = o
or_else (Some n) o = Some n

-- the number, or 0 where there is none
abbrev pub or_zero : Option ℕ → ℕ
or_zero None = zero
or_zero (Some n) = n

abbrev pub is_some : {A : Type 0} → Option A → Bool
is_some None = false
is_some (Some a) = true

abbrev pub listed : Option Broken → List Broken
listed None = []
listed (Some b) = b ∷ []

-- nothing is broken where the test is true, else the rule is
abbrev pub unless : Bool → List Broken → List Broken
unless true bs = []
unless false bs = bs

-- ---- what stands in scope

-- what a name stands for where it is used, the rule that is broken there, and how many arguments a call of it has, where it is known
pub record Use : Type 0 where
  pub reference : Ref
  pub broken : Option Broken
  pub arity : Option ℕ

-- what the names of a declaration are looked up in: called names in texts, applied names in formulas, effects; and whether a and b are
-- sorts
pub record Tables : Type 0 where
  pub called : Word → Use
  pub applied : Word → Use
  pub effect : Word → Use
  pub has_variables : Bool

abbrev pub refer : RefKind → ℕ → Word → Ref
refer k n w = record { kind = k; index = n; at = w.at }

-- a variable
abbrev pub local : Names → Word → Ref
local xs w = refer kind.Local (or_zero (number_of w.text xs)) w

abbrev pub broken_local : Names → Word → List Broken
broken_local xs w = unless (is_among w.text xs) (breaks rule.Unknown w.at.at)

-- a call with this many arguments, where its name is known
abbrev pub broken_count : (arity : Option ℕ) → (count : ℕ) → Word → List Broken
broken_count None n w = []
broken_count (Some m) n w = unless (nat_eq m n) (breaks rule.Arity w.at.at)

-- A called name with its arguments: what is broken at the name counts whatever the arguments break, a wrong number of them only where
-- they break nothing.
abbrev pub broken_call : Use → (count : ℕ) → Word → (args : List Broken) → List Broken
broken_call u n w args = listed u.broken ++ innermost args (broken_count u.arity n w)

-- the second of a name among words that are bound together; `_` binds nothing
abbrev pub is_blank : List ℕ → Bool
is_blank x = bytes_eq x (codes "_")

abbrev pub broken_words : (met : Names) → List Word → List Broken
broken_words met [] = []
broken_words met (w ∷ ws) = unless (is_blank w.text || not (is_among w.text met)) (breaks rule.Twice w.at.at) ++ broken_words (w.text ∷ met) ws

-- the names with these bound after them, in order
abbrev pub binding : List Word → Names → Names
binding [] xs = xs
binding (w ∷ ws) xs = binding ws (w.text ∷ xs)

-- how many there are
abbrev pub count_forms : {R : Type 0} → WForms R → ℕ
count_forms f_end = zero
count_forms (f_more f fs) = suc (count_forms fs)

-- the constructor is one of these
abbrev pub has_con : ConWord → List ConWord → Bool
has_con k [] = false
has_con k (l ∷ ls) = sameb con.the_type k l || has_con k ls

-- ---- terms and formulas

module _ (T : Tables) where
  abbrev mutual
    pub named_form : Names → WForm Word → WForm Ref
    named_form xs (f_ident at w) = f_ident at (local xs w)
    named_form xs (f_int at n) = f_int at n
    named_form xs (f_bool at b) = f_bool at b
    named_form xs (f_unit at) = f_unit at
    named_form xs (f_prim at o fs) = f_prim at o (named_forms xs fs)
    named_form xs (f_if at c f g) = f_if at (named_form xs c) (named_form xs f) (named_form xs g)
    named_form xs (f_app at w fs) = f_app at (T.applied w).reference (named_forms xs fs)
    named_form xs (f_let at x f g) = f_let at x (named_form xs f) (named_form (x.text ∷ xs) g)

    pub named_forms : Names → WForms Word → WForms Ref
    named_forms xs f_end = f_end
    named_forms xs (f_more f fs) = f_more (named_form xs f) (named_forms xs fs)

  abbrev mutual
    pub broken_form : Names → WForm Word → List Broken
    broken_form xs (f_ident at w) = broken_local xs w
    broken_form xs (f_int at n) = []
    broken_form xs (f_bool at b) = []
    broken_form xs (f_unit at) = []
    broken_form xs (f_prim at o fs) = broken_forms xs fs
    broken_form xs (f_if at c f g) = broken_form xs c ++ broken_form xs f ++ broken_form xs g
    broken_form xs (f_app at w fs) = broken_call (T.applied w) (count_forms fs) w (broken_forms xs fs)
    broken_form xs (f_let at x f g) = broken_form xs f ++ broken_form (x.text ∷ xs) g

    pub broken_forms : Names → WForms Word → List Broken
    broken_forms xs f_end = []
    broken_forms xs (f_more f fs) = broken_form xs f ++ broken_forms xs fs

  -- ---- sorts: a and b alone are names of sorts, in effects and lifts

  abbrev pub variable_kind : List ℕ → Option RefKind
  variable_kind x = if T.has_variables && bytes_eq x (codes "a") then Some kind.SortA else (if T.has_variables && bytes_eq x (codes "b") then Some kind.SortB else None)

  abbrev pub kind_or_a : Option RefKind → RefKind
  kind_or_a None = kind.SortA
  kind_or_a (Some k) = k

  abbrev pub named_sort : WSort Word → WSort Ref
  named_sort w_unit = w_unit
  named_sort w_bool = w_bool
  named_sort w_int = w_int
  named_sort (w_pair s t) = w_pair (named_sort s) (named_sort t)
  named_sort (w_opt s) = w_opt (named_sort s)
  named_sort (w_list s) = w_list (named_sort s)
  named_sort (w_either s t) = w_either (named_sort s) (named_sort t)
  named_sort (w_name w) = w_name (refer (kind_or_a (variable_kind w.text)) 0 w)

  abbrev pub broken_sort : WSort Word → List Broken
  broken_sort (w_pair s t) = broken_sort s ++ broken_sort t
  broken_sort (w_opt s) = broken_sort s
  broken_sort (w_list s) = broken_sort s
  broken_sort (w_either s t) = broken_sort s ++ broken_sort t
  broken_sort (w_name w) = unless (is_some (variable_kind w.text)) (breaks rule.Unknown w.at.at)
  broken_sort _ = []

  abbrev pub broken_note : Option (WSort Word) → List Broken
  broken_note None = []
  broken_note (Some s) = broken_sort s

  -- ---- texts

  abbrev mutual
    pub named_text : Names → WText Word → WText Ref
    named_text xs (x_let ghost x s p c) = x_let ghost x (option_map named_sort s) (named_part xs p) (named_text (x.text ∷ xs) c)
    named_text xs (x_assert f at c) = x_assert (named_form xs f) at (named_text xs c)
    named_text xs (x_if f c d) = x_if (named_form xs f) (named_text xs c) (named_text xs d)
    named_text xs (x_match f at arms) = x_match (named_form xs f) at (named_arms xs arms)
    named_text xs (x_part p) = x_part (named_part xs p)

    pub named_part : Names → WPart Word → WPart Ref
    named_part xs (p_block at c) = p_block at (named_text xs c)
    named_part xs (p_call at w fs) = p_call at (T.called w).reference (named_forms xs fs)
    named_part xs (p_reify at w s c f) = p_reify at (T.effect w).reference (named_sort s) (named_text xs c) (named_form xs f)
    named_part xs (p_reflect at w s x c) = p_reflect at (T.effect w).reference (named_sort s) x (named_text (x.text ∷ xs) c)
    named_part xs (p_term at f) = p_term at (named_form xs f)

    pub named_arms : Names → WArms Word → WArms Ref
    named_arms xs x_end = x_end
    named_arms xs (x_arm at con ws c more) = x_arm at con ws (named_text (binding ws xs) c) (named_arms xs more)

  abbrev mutual
    pub broken_text : Names → WText Word → List Broken
    broken_text xs (x_let ghost x s p c) = broken_note s ++ broken_part xs p ++ broken_text (x.text ∷ xs) c
    broken_text xs (x_assert f at c) = broken_form xs f ++ broken_text xs c
    broken_text xs (x_if f c d) = broken_form xs f ++ broken_text xs c ++ broken_text xs d
    broken_text xs (x_match f at arms) = broken_form xs f ++ broken_arms xs [] arms
    broken_text xs (x_part p) = broken_part xs p

    pub broken_part : Names → WPart Word → List Broken
    broken_part xs (p_block at c) = broken_text xs c
    broken_part xs (p_call at w fs) = broken_call (T.called w) (count_forms fs) w (broken_forms xs fs)
    broken_part xs (p_reify at w s c f) = listed (T.effect w).broken ++ broken_sort s ++ broken_text xs c ++ broken_form xs f
    broken_part xs (p_reflect at w s x c) = listed (T.effect w).broken ++ broken_sort s ++ broken_text (x.text ∷ xs) c
    broken_part xs (p_term at f) = broken_form xs f

    -- no constructor has two arms, and no pattern binds a name twice
    pub broken_arms : Names → (met : List ConWord) → WArms Word → List Broken
    broken_arms xs met x_end = []
    broken_arms xs met (x_arm at con ws c more) =
        unless (not (has_con con met)) (breaks rule.Twice at) ++ broken_words [] ws ++ broken_text (binding ws xs) c ++ broken_arms xs (met ++ con ∷ []) more

-- ---- declarations

-- what is known of a function before its text is read
pub record FunHead : Type 0 where
  pub name : List ℕ
  pub arity : ℕ
  pub group : ℕ

-- all functions and the names of all effects of the program, in order
pub record Globals : Type 0 where
  pub funs : List FunHead
  pub effects : Names

-- how much of the program stands before a declaration: the group of the function, if it is one, and how many functions and effects
pub record Before : Type 0 where
  pub group : ℕ
  pub funs : ℕ
  pub effects : ℕ

-- the head of a group's next function
abbrev pub group_of : (joined : Bool) → Before → ℕ
group_of true b = b.group
group_of false b = b.funs

abbrev pub head_of : Before → WFun Word → FunHead
head_of b f = record { name = f.name.text; arity = length f.params; group = group_of f.joined b }

abbrev pub after : Before → WDecl Word → Before
after b (w_effect e) = record { group = b.group; funs = b.funs; effects = suc b.effects }
after b (w_lift l) = b
after b (w_fun f) = record { group = group_of f.joined b; funs = suc b.funs; effects = b.effects }

abbrev pub start : Before
start = record { group = 0; funs = 0; effects = 0 }

abbrev pub globals_from : Before → List (WDecl Word) → Globals
globals_from b [] = record { funs = []; effects = [] }
globals_from b (d ∷ ds) = with_decl d (globals_from (after b d) ds)
  where
    with_decl : WDecl Word → Globals → Globals
    with_decl (w_effect e) g = record { funs = g.funs; effects = e.name.text ∷ g.effects }
    with_decl (w_lift l) g = g
    with_decl (w_fun f) g = record { funs = head_of b f ∷ g.funs; effects = g.effects }

abbrev pub globals : List (WDecl Word) → Globals
globals = globals_from start

-- ---- uses of functions, effects and a header's computations

-- a function or an effect of this number, where it is one of the program; too early where the test on it is false
abbrev pub broken_global : (found : Option Bool) → Word → Option Broken
broken_global None w = broken_at rule.Unknown w.at.at
broken_global (Some true) w = None
broken_global (Some false) w = broken_at rule.TooEarly w.at.at

-- the number and the head of the first function of the name
abbrev pub fun_from : (i : ℕ) → (name : List ℕ) → List FunHead → Option (ℕ × FunHead)
fun_from i x [] = None
fun_from i x (f ∷ fs) = if bytes_eq x f.name then Some (i, f) else fun_from (suc i) x fs

-- In a definition a called name is one of the header's computations: the first takes an input, the second a value and an input.
abbrev pub run_use : Word → Option ℕ → Use
run_use w None = record { reference = refer kind.RunF 0 w; broken = broken_at rule.Unknown w.at.at; arity = None }
run_use w (Some zero) = record { reference = refer kind.RunF 0 w; broken = None; arity = Some 1 }
run_use w (Some (suc n)) = record { reference = refer kind.RunG 0 w; broken = None; arity = Some 2 }

module _ (G : Globals) (b : Before) where
  abbrev pub fun_use : (in_time : FunHead → Bool) → Word → Option (ℕ × FunHead) → Use
  fun_use in_time w None = record { reference = refer kind.Fun 0 w; broken = broken_global None w; arity = None }
  fun_use in_time w (Some p) = record { reference = refer kind.Fun p.0 w; broken = broken_global (Some (in_time p.1)) w; arity = Some p.1.arity }

  -- a text calls functions up to its own group, a formula applies functions of earlier groups
  abbrev pub called_fun : Word → Use
  called_fun w = fun_use (λ f. nat_le f.group b.group) w (fun_from 0 w.text G.funs)

  abbrev pub applied_fun : Word → Use
  applied_fun w = fun_use (λ f. nat_lt f.group b.group) w (fun_from 0 w.text G.funs)

  abbrev pub effect_use : Word → Option ℕ → Use
  effect_use w None = record { reference = refer kind.Effect 0 w; broken = broken_global None w; arity = None }
  effect_use w (Some n) = record { reference = refer kind.Effect n w; broken = broken_global (Some (nat_lt n b.effects)) w; arity = None }

  -- an effect that stands before
  abbrev pub named_effect : Word → Use
  named_effect w = effect_use w (number_of w.text G.effects)

  abbrev pub fun_tables : Tables
  fun_tables = record { called = called_fun; applied = applied_fun; effect = named_effect; has_variables = false }

  abbrev pub definition_tables : (runs : Names) → Tables
  definition_tables runs = record { called = λ w. run_use w (number_of w.text runs); applied = applied_fun; effect = named_effect; has_variables = true }

-- ---- declarations

-- the names of a header: its computations, and its variables
abbrev pub texts : List Word → Names
texts ws = map (λ w. w.text) ws

-- the computations, and the variables of a bind and of a lift, the last name being the input's
abbrev pub runs_of : List Word → Names
runs_of [] = []
runs_of (w ∷ []) = []
runs_of (w ∷ v ∷ ws) = w.text ∷ runs_of (v ∷ ws)

abbrev pub input_of : List Word → Names
input_of [] = []
input_of (w ∷ []) = w.text ∷ []
input_of (w ∷ v ∷ ws) = input_of (v ∷ ws)

abbrev pub optional : {A : Type 0} → (A → List Broken) → Option A → List Broken
optional k None = []
optional k (Some a) = k a

abbrev pub each : {A : Type 0} → (A → List Broken) → List A → List Broken
each k [] = []
each k (a ∷ more) = k a ++ each k more

-- the number is one of the first so many
abbrev pub is_before : (count : ℕ) → Option ℕ → Bool
is_before count None = false
is_before count (Some n) = nat_lt n count

-- each refinement sees the parameters up to its own
abbrev pub named_params : Tables → Names → List (WParam Word) → List (WParam Ref)
named_params T xs [] = []
named_params T xs (p ∷ ps) =
    record { name = p.name; sort = named_sort T p.sort; hidden = p.hidden; refine = option_map (named_form T (p.name.text ∷ xs)) p.refine }
    ∷ named_params T (p.name.text ∷ xs) ps

abbrev pub broken_params : Tables → Names → List (WParam Word) → List Broken
broken_params T xs [] = []
broken_params T xs (p ∷ ps) = broken_sort T p.sort ++ optional (broken_form T (p.name.text ∷ xs)) p.refine ++ broken_params T (p.name.text ∷ xs) ps

-- the names in scope in a clause: with a user effect the word input stands for its input
abbrev pub clause_names : EffectName Word → Names → Names
clause_names (effect.User w) xs = codes "input" ∷ xs
clause_names _ xs = xs

module _ (G : Globals) (b : Before) where
  -- the text of a definition, over its computations and its variables
  abbrev pub named_dm : (runs xs : Names) → WText Word → WText Ref
  named_dm runs = named_text (definition_tables G b runs)

  abbrev pub broken_dm : (runs xs : Names) → WText Word → List Broken
  broken_dm runs = broken_text (definition_tables G b runs)

  abbrev pub named_effect_decl : WEffect Word → WEffect Ref
  named_effect_decl e = record {
    name = e.name;
    div = e.div;
    input = named_sort (definition_tables G b []) e.input;
    result = named_sort (definition_tables G b []) e.result;
    ret_names = e.ret_names;
    ret = named_dm [] (binding e.ret_names []) e.ret;
    bind_names = e.bind_names;
    bind = named_dm (runs_of e.bind_names) (input_of e.bind_names) e.bind;
  }

  -- an effect's name: it is declared before, or there are too many effects
  abbrev pub broken_effect_word : Word → List Broken
  broken_effect_word w = unless (not (is_before b.effects (number_of w.text G.effects))) (breaks rule.Twice w.at.at) ++ unless (nat_lt b.effects 32) (breaks rule.TooMany w.at.at)

  abbrev pub broken_effect_decl : WEffect Word → List Broken
  broken_effect_decl e =
      broken_effect_word e.name
      ++ broken_sort (definition_tables G b []) e.input ++ broken_sort (definition_tables G b []) e.result
      ++ broken_words [] e.ret_names ++ broken_dm [] (binding e.ret_names []) e.ret
      ++ broken_words [] e.bind_names ++ broken_dm (runs_of e.bind_names) (input_of e.bind_names) e.bind

  abbrev pub named_lift_decl : WLift Word → WLift Ref
  named_lift_decl l = record { place = l.place; from = (named_effect G b l.from).reference; «to» = (named_effect G b l.«to»).reference; names = l.names; text = named_dm (runs_of l.names) (input_of l.names) l.text }

  abbrev pub broken_lift_decl : WLift Word → List Broken
  broken_lift_decl l =
      listed (named_effect G b l.from).broken ++ listed (named_effect G b l.«to»).broken ++ broken_words [] l.names
      ++ broken_dm (runs_of l.names) (input_of l.names) l.text

  abbrev pub named_effect_name : EffectName Word → EffectName Ref
  named_effect_name effect.Pure = effect.Pure
  named_effect_name effect.Ghost = effect.Ghost
  named_effect_name effect.Div = effect.Div
  named_effect_name (effect.User w) = effect.User (named_effect G b w).reference

  abbrev pub broken_effect_name : EffectName Word → List Broken
  broken_effect_name (effect.User w) = listed (named_effect G b w).broken
  broken_effect_name _ = []

  abbrev pub named_fun_decl : WFun Word → WFun Ref
  named_fun_decl f =
      let xs = binding (map (λ p. p.name) f.params) [] in
      let T = fun_tables G b in
      record {
        name = f.name;
        params = named_params T [] f.params;
        effect = named_effect_name f.effect;
        sort = named_sort T f.sort;
        needs = option_map (named_form T (clause_names f.effect xs)) f.needs;
        gives = option_map (named_form T (codes "result" ∷ clause_names f.effect xs)) f.gives;
        measures = map (named_form T xs) f.measures;
        unfolds = f.unfolds;
        joined = f.joined;
        body = named_text T xs f.body;
      }

  -- a function's name: it is declared before, or there are too many functions
  abbrev pub broken_fun_word : Word → List Broken
  broken_fun_word w = unless (not (is_before b.funs (option_map (λ p. p.0) (fun_from 0 w.text G.funs)))) (breaks rule.Twice w.at.at) ++ unless (nat_lt b.funs 1000) (breaks rule.TooMany w.at.at)

  abbrev pub broken_fun_decl : WFun Word → List Broken
  broken_fun_decl f =
      let xs = binding (map (λ p. p.name) f.params) [] in
      let T = fun_tables G b in
      broken_fun_word f.name
      ++ broken_words [] (map (λ p. p.name) f.params) ++ broken_params T [] f.params ++ broken_effect_name f.effect ++ broken_sort T f.sort
      ++ optional (broken_form T (clause_names f.effect xs)) f.needs
      ++ optional (broken_form T (codes "result" ∷ clause_names f.effect xs)) f.gives
      ++ each (broken_form T xs) f.measures ++ broken_text T xs f.body

-- a function's formulas apply functions of groups before its own, and its texts call functions up to its own group
abbrev pub own_group : WDecl Word → Before → Before
own_group (w_fun f) b = record { group = group_of f.joined b; funs = b.funs; effects = b.effects }
own_group _ b = b

abbrev pub named_decl : Globals → Before → WDecl Word → WDecl Ref
named_decl G b (w_effect e) = w_effect (named_effect_decl G b e)
named_decl G b (w_lift l) = w_lift (named_lift_decl G b l)
named_decl G b (w_fun f) = w_fun (named_fun_decl G (own_group (w_fun f) b) f)

abbrev pub broken_decl : Globals → Before → WDecl Word → List Broken
broken_decl G b (w_effect e) = broken_effect_decl G b e
broken_decl G b (w_lift l) = broken_lift_decl G b l
broken_decl G b (w_fun f) = broken_fun_decl G (own_group (w_fun f) b) f

abbrev pub named_from : Globals → Before → List (WDecl Word) → List (WDecl Ref)
named_from G b [] = []
named_from G b (d ∷ ds) = named_decl G b d ∷ named_from G (after b d) ds

abbrev pub broken_from : Globals → Before → List (WDecl Word) → List Broken
broken_from G b [] = []
broken_from G b (d ∷ ds) = broken_decl G b d ++ broken_from G (after b d) ds

-- the program with what its names stand for, and the rules on names that it breaks
abbrev pub named : List (WDecl Word) → List (WDecl Ref)
named ds = named_from (globals ds) start ds

abbrev pub broken_names : List (WDecl Word) → List Broken
broken_names ds = broken_from (globals ds) start ds

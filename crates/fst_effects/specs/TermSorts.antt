-- Sorts of terms. A term gives a sort, or is fitted to one; so it has the sort that it gives, the rules that it breaks where a sort is
-- wanted or none is, and the core term that it is there.
use Rattle.std.specs.Prelude.{ℕ, Bool, true, false, not, ◌&&◌, List, [], ◌∷◌, ◌++◌, Option, Some, None, option_map, slice_get, if◌then◌else◌}
use Rattle.fst_base.specs.declared.op.Op.{Op}
use Rattle.fst_base.specs.declared.op.Op.TheVariants as op
use Rattle.fst_base.specs.declared.rule.Rule.TheVariants as rule
use Rattle.fst_base.specs.Sorts.{Srt, s_unit, s_bool, s_int, s_pair, s_opt, s_list, s_either}
use Rattle.fst_terms.specs.Terms.{Tm, Tms, t_var, t_int, t_bool, t_unit, t_prim, t_if, t_app, t_let, t_end, t_more}
use Rattle.fst_program.specs.declared.effect.Effect.{Effect}
use Rattle.fst_program.specs.declared.effect.Effect.TheVariants as effect
use Rattle.fst_names.specs.declared.reference.Ref.{Ref}
use Rattle.fst_names.specs.declared.broken.Broken.{Broken}
use Rattle.fst_names.specs.Broken.{breaks, innermost}
use Rattle.fst_names.specs.Trees.{WForm, WForms, f_ident, f_int, f_bool, f_unit, f_prim, f_if, f_app, f_let, f_end, f_more}
use Rattle.fst_program.specs.LiftPaths.{or_else}
use Rattle.fst_effects.specs.Known.{Entry, Ctx, Callee, or_unit, with_sort, where_known, clash, needs_sort}

-- ---- primitives: Gs are the sorts that the arguments give, W is the sort that is wanted

-- the sort that the first argument gives, and the second
abbrev pub first : List (Option Srt) → Option Srt
first [] = None
first (G ∷ Gs) = G

abbrev pub second : List (Option Srt) → Option Srt
second [] = None
second (G ∷ Gs) = first Gs

-- the parts of a sort, where it is one with such parts
abbrev pub left_of : Srt → Option Srt
left_of (s_pair S T) = Some S
left_of _ = None

abbrev pub right_of : Srt → Option Srt
right_of (s_pair S T) = Some T
right_of _ = None

abbrev pub option_of : Srt → Option Srt
option_of (s_opt S) = Some S
option_of _ = None

abbrev pub item_of : Srt → Option Srt
item_of (s_list S) = Some S
item_of _ = None

abbrev pub inl_of : Srt → Option Srt
inl_of (s_either S T) = Some S
inl_of _ = None

abbrev pub inr_of : Srt → Option Srt
inr_of (s_either S T) = Some T
inr_of _ = None

-- the items of a list term: of the sort that the first one gives, else of those of the rest
abbrev pub items : List (Option Srt) → Option Srt
items Gs = or_else (first Gs) (with_sort (second Gs) item_of)

-- the sides of an equation have the sort of the first that gives one
abbrev pub compared : List (Option Srt) → Option Srt
compared Gs = or_else (first Gs) (second Gs)

abbrev pub pair_of : Option Srt → Option Srt → Option Srt
pair_of G H = with_sort G (λ S. option_map (s_pair S) H)

-- the sort that the primitive gives
abbrev pub prim_given : Op → (Gs : List (Option Srt)) → Option Srt
prim_given op.Le Gs = Some s_bool
prim_given op.Lt Gs = Some s_bool
prim_given op.Eq Gs = Some s_bool
prim_given op.Pair Gs = pair_of (first Gs) (second Gs)
prim_given op.Fst Gs = with_sort (first Gs) left_of
prim_given op.Snd Gs = with_sort (first Gs) right_of
prim_given op.Nothing Gs = None
prim_given op.Just Gs = option_map s_opt (first Gs)
prim_given op.Nil Gs = None
prim_given op.Cons Gs = option_map s_list (items Gs)
prim_given op.Inl Gs = None
prim_given op.Inr Gs = None
prim_given op.Hd Gs = None
prim_given op.Tl Gs = None
prim_given op.The Gs = None
prim_given op.Outl Gs = None
prim_given op.Outr Gs = None
prim_given _ Gs = Some s_int

-- the sorts that are wanted of the arguments
abbrev pub prim_wants : Op → (Gs : List (Option Srt)) → (W : Option Srt) → List (Option Srt)
prim_wants op.Eq Gs W = compared Gs ∷ compared Gs ∷ []
prim_wants op.Pair Gs W = with_sort W left_of ∷ with_sort W right_of ∷ []
prim_wants op.Just Gs W = with_sort W option_of ∷ []
prim_wants op.Cons Gs W = or_else (with_sort W item_of) (items Gs) ∷ option_map s_list (or_else (with_sort W item_of) (items Gs)) ∷ []
prim_wants op.Inl Gs W = with_sort W inl_of ∷ []
prim_wants op.Inr Gs W = with_sort W inr_of ∷ []
prim_wants op.Nothing Gs W = []
prim_wants op.Nil Gs W = []
prim_wants op.Fst Gs W = None ∷ []
prim_wants op.Snd Gs W = None ∷ []
prim_wants op.Len Gs W = None ∷ []
prim_wants op.Neg Gs W = Some s_int ∷ []
prim_wants _ Gs W = Some s_int ∷ Some s_int ∷ []

-- a term of this constructor stands where a sort of another one is wanted
abbrev pub other_sort : (place : ℕ) → (W : Option Srt) → (part : Srt → Option Srt) → List Broken
other_sort at None part = []
other_sort at (Some S) part = needs_sort at (part S)

-- what the primitive breaks by itself
abbrev pub prim_breaks : (place : ℕ) → Op → (Gs : List (Option Srt)) → (W : Option Srt) → List Broken
prim_breaks at op.Pair Gs W = other_sort at W left_of
prim_breaks at op.Nothing Gs W = other_sort at W option_of
prim_breaks at op.Just Gs W = other_sort at W option_of
prim_breaks at op.Nil Gs W = other_sort at W item_of
prim_breaks at op.Cons Gs W = other_sort at W item_of
prim_breaks at op.Inl Gs W = other_sort at W inl_of
prim_breaks at op.Inr Gs W = other_sort at W inr_of
prim_breaks at op.Fst Gs W = needs_sort at (with_sort (first Gs) left_of) ++ clash at (with_sort (first Gs) left_of) W
prim_breaks at op.Snd Gs W = needs_sort at (with_sort (first Gs) right_of) ++ clash at (with_sort (first Gs) right_of) W
prim_breaks at op.Len Gs W = needs_sort at (with_sort (first Gs) item_of) ++ clash at (Some s_int) W
prim_breaks at o Gs W = clash at (prim_given o Gs) W

-- the argument that has to give a sort: that of a selector or of len, and where neither side of an equation gives one the first
abbrev pub prim_needs : (place : ℕ) → Op → (Gs : List (Option Srt)) → List Broken
prim_needs at op.Fst Gs = needs_sort at (first Gs)
prim_needs at op.Snd Gs = needs_sort at (first Gs)
prim_needs at op.Len Gs = needs_sort at (first Gs)
prim_needs at op.Eq Gs = needs_sort at (compared Gs)
prim_needs at o Gs = []

-- ---- terms

abbrev pub place_of : WForm Ref → ℕ
place_of (f_ident at r) = at
place_of (f_int at n) = at
place_of (f_bool at b) = at
place_of (f_unit at) = at
place_of (f_prim at o fs) = at
place_of (f_if at c f g) = at
place_of (f_app at r fs) = at
place_of (f_let at x f g) = at

abbrev pub first_place : (place : ℕ) → WForms Ref → ℕ
first_place at f_end = at
first_place at (f_more f fs) = place_of f

abbrev pub sort_in : Option Entry → Option Srt
sort_in = option_map (λ x. x.sort)

abbrev pub visible : Srt → Entry
visible S = record { sort = S; hidden = false }

-- a ghost variable stands outside ghost places
abbrev pub misused : (ghost : Bool) → (place : ℕ) → Option Entry → List Broken
misused ghost at None = []
misused ghost at (Some x) = if x.hidden && not ghost then breaks rule.GhostUse at else []

abbrev pub is_pure_or_ghost : Effect → Bool
is_pure_or_ghost effect.Pure = true
is_pure_or_ghost effect.Ghost = true
is_pure_or_ghost _ = false

-- a formula names a function that is neither PURE nor GHOST
abbrev pub not_applied : (place : ℕ) → Option Callee → List Broken
not_applied at None = []
not_applied at (Some f) = if is_pure_or_ghost f.effect then [] else breaks rule.NoLift at

abbrev pub args_of : Option Callee → List Entry
args_of None = []
args_of (Some f) = f.args

abbrev pub wants_of : List Entry → List (Option Srt)
wants_of [] = []
wants_of (x ∷ xs) = Some x.sort ∷ wants_of xs

-- what an applied name stands for is known
module _ (applied : Ref → Option Callee) where
  -- the sort that a term gives
  abbrev mutual
    pub given : Ctx → WForm Ref → Option Srt
    given xs (f_ident at r) = sort_in (slice_get xs r.index)
    given xs (f_int at n) = Some s_int
    given xs (f_bool at b) = Some s_bool
    given xs (f_unit at) = Some s_unit
    given xs (f_prim at o fs) = prim_given o (givens xs fs)
    given xs (f_if at c f g) = or_else (given xs f) (given xs g)
    given xs (f_app at r fs) = option_map (λ f. f.sort) (applied r)
    given xs (f_let at x f g) = with_sort (given xs f) (λ S. given (visible S ∷ xs) g)

    pub givens : Ctx → WForms Ref → List (Option Srt)
    givens xs f_end = []
    givens xs (f_more f fs) = given xs f ∷ givens xs fs

  -- The rules that a term breaks, where W is the sort that is wanted, and ghost tells that it stands in a ghost place. An `if` or a let
  -- has the sort that it gives, and the one that is wanted only where it gives none.
  abbrev mutual
    pub broken : (ghost : Bool) → Ctx → WForm Ref → (W : Option Srt) → List Broken
    broken gh xs (f_ident at r) W = misused gh at (slice_get xs r.index) ++ clash at (sort_in (slice_get xs r.index)) W
    broken gh xs (f_int at n) W = clash at (Some s_int) W
    broken gh xs (f_bool at b) W = clash at (Some s_bool) W
    broken gh xs (f_unit at) W = clash at (Some s_unit) W
    broken gh xs (f_prim at o fs) W =
        innermost (innermost (brokens gh xs fs (prim_wants o (givens xs fs) W)) (prim_needs (first_place at fs) o (givens xs fs))) (prim_breaks at o (givens xs fs) W)
    broken gh xs (f_if at c f g) W =
        let S = or_else (given xs f) (given xs g) in
        innermost (broken gh xs c (Some s_bool) ++ broken gh xs f (or_else S W) ++ broken gh xs g (or_else S W)) (clash at S W)
    broken gh xs (f_app at r fs) W =
        innermost (brokens true xs fs (wants_of (args_of (applied r)))) (not_applied at (applied r) ++ clash at (option_map (λ f. f.sort) (applied r)) W)
    broken gh xs (f_let at x f g) W =
        innermost (broken gh xs f None) (needs_sort (place_of f) (given xs f))
        ++ where_known (given xs f) (λ S. let G = given (visible S ∷ xs) g in innermost (broken gh (visible S ∷ xs) g (or_else G W)) (clash at G W))

    pub brokens : (ghost : Bool) → Ctx → WForms Ref → (Ws : List (Option Srt)) → List Broken
    brokens gh xs f_end Ws = []
    brokens gh xs (f_more f fs) [] = broken gh xs f None ++ brokens gh xs fs []
    brokens gh xs (f_more f fs) (W ∷ Ws) = broken gh xs f W ++ brokens gh xs fs Ws

  -- a term that has to give a sort
  abbrev pub broken_giving : (ghost : Bool) → Ctx → WForm Ref → List Broken
  broken_giving gh xs f = innermost (broken gh xs f None) (needs_sort (place_of f) (given xs f))

  -- the core term
  abbrev mutual
    pub core : Ctx → WForm Ref → (W : Option Srt) → Tm
    core xs (f_ident at r) W = t_var r.index
    core xs (f_int at n) W = t_int n
    core xs (f_bool at b) W = t_bool b
    core xs (f_unit at) W = t_unit
    core xs (f_prim at o fs) W = t_prim o (or_unit (or_else W (prim_given o (givens xs fs)))) (cores xs fs (prim_wants o (givens xs fs) W)) at
    core xs (f_if at c f g) W =
        let S = or_else (or_else (given xs f) (given xs g)) W in t_if (core xs c (Some s_bool)) (core xs f S) (core xs g S)
    core xs (f_app at r fs) W = t_app r.index (or_unit (option_map (λ f. f.sort) (applied r))) (cores xs fs (wants_of (args_of (applied r))))
    core xs (f_let at x f g) W =
        let ys = visible (or_unit (given xs f)) ∷ xs in t_let x.text (core xs f None) (core ys g (or_else (given ys g) W))

    pub cores : Ctx → WForms Ref → (Ws : List (Option Srt)) → Tms
    cores xs f_end Ws = t_end
    cores xs (f_more f fs) [] = t_more (core xs f None) (cores xs fs [])
    cores xs (f_more f fs) (W ∷ Ws) = t_more (core xs f W) (cores xs fs Ws)

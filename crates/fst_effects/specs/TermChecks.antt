-- What is due of the code on terms.
use Rattle.std.specs.Prelude.{ℕ, Bool, true, false, List, [], ◌∷◌, Option, Some, None, option_map, slice_get}
use Rattle.fst_base.specs.declared.op.Op.{Op}
use Rattle.fst_base.specs.declared.op.Op.TheVariants as op
use Rattle.fst_base.specs.declared.place.Pos.{Pos}
use Rattle.fst_base.specs.Sorts.{Srt}
use Rattle.fst_terms.specs.Terms.{Tm, Tms}
use Rattle.fst_program.specs.LiftPaths.{or_else}
use Rattle.fst_trees.specs.declared.word.Word.{Word}
use Rattle.fst_trees.specs.declared.form.Form.{Form}
use Rattle.fst_trees.specs.declared.form.FormNode.{FormNode}
use Rattle.fst_trees.specs.declared.form.FormNode.TheVariants as V
use Rattle.fst_names.specs.declared.reference.Ref.{Ref}
use Rattle.fst_names.specs.declared.broken.Broken.{Broken}
use Rattle.fst_names.specs.Broken.{first_broken, inner, least}
use Rattle.fst_names.specs.Trees.{plain_node, plain_forms}
use Rattle.fst_effects.specs.Known.{Entry, Ctx, Callee, clash, needs_sort}
use Rattle.fst_effects.specs.TermSorts.{given, givens, broken, brokens, core, cores, visible, first, second, sort_in, prim_needs, prim_breaks, misused, not_applied}
use Rattle.fst_effects.specs.Scopes.{want_at}

-- ---- the sort that is given

unfoldable pub node_given : (Ref → Option Callee) → Ctx → Pos → FormNode Ref → Option Srt
node_given A xs at n = given A xs (plain_node at n)

abbrev pub form_given : (Ref → Option Callee) → Ctx → Form Ref → Option Srt
form_given A xs f = node_given A xs f.at f.node

-- by the argument of this number
unfoldable pub arg_given : (Ref → Option Callee) → Ctx → List (Form Ref) → (i : ℕ) → Option Srt
arg_given A xs fs i = want_at (givens A xs (plain_forms fs)) i

-- a primitive at its place
abbrev pub prim_given_at : (Ref → Option Callee) → Ctx → Pos → Op → List (Form Ref) → Option Srt
prim_given_at A xs at o fs = node_given A xs at (V.Prim o fs)

unfoldable pub applied_sort : (Ref → Option Callee) → Ref → Option Srt
applied_sort A r = option_map (λ f. f.sort) (A r)

-- ---- broken rules

unfoldable pub clash_of : Pos → (given want : Option Srt) → Option Broken
clash_of at S W = first_broken (clash at.at S W)

unfoldable pub need_of : Pos → (given : Option Srt) → Option Broken
need_of at S = first_broken (needs_sort at.at S)

unfoldable pub misused_of : (ghost : Bool) → Pos → Option Entry → Option Broken
misused_of gh at e = first_broken (misused gh at.at e)

unfoldable pub not_applied_of : Pos → Option Callee → Option Broken
not_applied_of at f = first_broken (not_applied at.at f)

-- a sort of another constructor than the one of which these are the parts
abbrev pub other_of : Pos → (W part : Option Srt) → Option Broken
other_of at None part = None
other_of at (Some S) part = need_of at part

-- a variable
abbrev pub local_breaks : (ghost : Bool) → Ctx → Pos → Ref → (W : Option Srt) → Option Broken
local_breaks gh xs at r W = least (misused_of gh at (slice_get xs r.index)) (clash_of at (sort_in (slice_get xs r.index)) W)

unfoldable pub node_breaks : (Ref → Option Callee) → (ghost : Bool) → Ctx → Pos → FormNode Ref → (W : Option Srt) → Option Broken
node_breaks A gh xs at n W = first_broken (broken A gh xs (plain_node at n) W)

abbrev pub form_breaks : (Ref → Option Callee) → (ghost : Bool) → Ctx → Form Ref → (W : Option Srt) → Option Broken
form_breaks A gh xs f W = node_breaks A gh xs f.at f.node W

unfoldable pub forms_break : (Ref → Option Callee) → (ghost : Bool) → Ctx → List (Form Ref) → (Ws : List (Option Srt)) → Option Broken
forms_break A gh xs fs Ws = first_broken (brokens A gh xs (plain_forms fs) Ws)

-- a term that has to give a sort
abbrev pub giving_breaks : (Ref → Option Callee) → (ghost : Bool) → Ctx → Form Ref → Option Broken
giving_breaks A gh xs f = inner (form_breaks A gh xs f None) (need_of f.at (form_given A xs f))

-- the body of a let at this place, which has the sort that it gives, and the one that is wanted only where it gives none
abbrev pub rest_breaks : (Ref → Option Callee) → (ghost : Bool) → Ctx → Pos → Form Ref → (W : Option Srt) → Option Broken
rest_breaks A gh xs at g W = inner (form_breaks A gh xs g (or_else (form_given A xs g) W)) (clash_of at (form_given A xs g) W)

-- what follows a let's bound term: nothing where that gives no sort
abbrev pub rest_where : (Ref → Option Callee) → (ghost : Bool) → Ctx → Pos → Form Ref → (W : Option Srt) → (bound : Option Srt) → Option Broken
rest_where A gh xs at g W None = None
rest_where A gh xs at g W (Some S) = rest_breaks A gh (visible S ∷ xs) at g W

-- ---- primitives

-- what is wanted of the arguments depends on the sorts that they give
abbrev pub fits_by_parts : Op → Bool
fits_by_parts op.Eq = true
fits_by_parts op.Cons = true
fits_by_parts op.Fst = true
fits_by_parts op.Snd = true
fits_by_parts op.Len = true
fits_by_parts _ = false

abbrev pub seen : Bool → (G H : Option Srt) → List (Option Srt)
seen true G H = G ∷ H ∷ []
seen false G H = None ∷ None ∷ []

abbrev pub two : List (Option Srt) → List (Option Srt)
two Ws = first Ws ∷ second Ws ∷ []

unfoldable pub prim_need : Pos → Op → List (Option Srt) → Option Broken
prim_need at o Gs = first_broken (prim_needs at.at o Gs)

unfoldable pub prim_own : Pos → Op → List (Option Srt) → (W : Option Srt) → Option Broken
prim_own at o Gs W = first_broken (prim_breaks at.at o Gs W)

-- the place of the first argument, or this one
abbrev pub first_at : Pos → List (Form Ref) → Pos
first_at at [] = at
first_at at (f ∷ fs) = f.at

-- a let that binds the first
abbrev pub let_at : (Ref → Option Callee) → (ghost : Bool) → Ctx → Pos → (f g : Form Ref) → (W : Option Srt) → Option Broken
let_at A gh xs at f g W = least (giving_breaks A gh xs f) (rest_where A gh xs at g W (form_given A xs f))

-- a primitive, and an application, at their places
abbrev pub prim_at : (Ref → Option Callee) → (ghost : Bool) → Ctx → Pos → Op → List (Form Ref) → (W : Option Srt) → Option Broken
prim_at A gh xs at o fs W = node_breaks A gh xs at (V.Prim o fs) W

abbrev pub app_at : (Ref → Option Callee) → (ghost : Bool) → Ctx → Pos → Ref → List (Form Ref) → (W : Option Srt) → Option Broken
app_at A gh xs at r fs W = node_breaks A gh xs at (V.App r fs) W

-- ---- core terms

unfoldable pub node_core : (Ref → Option Callee) → Ctx → Pos → FormNode Ref → (W : Option Srt) → Tm
node_core A xs at n W = core A xs (plain_node at n) W

abbrev pub form_core : (Ref → Option Callee) → Ctx → Form Ref → (W : Option Srt) → Tm
form_core A xs f W = node_core A xs f.at f.node W

unfoldable pub forms_core : (Ref → Option Callee) → Ctx → List (Form Ref) → (Ws : List (Option Srt)) → Tms
forms_core A xs fs Ws = cores A xs (plain_forms fs) Ws

-- a primitive, an application and a let at their places
abbrev pub prim_core : (Ref → Option Callee) → Ctx → Pos → Op → List (Form Ref) → (W : Option Srt) → Tm
prim_core A xs at o fs W = node_core A xs at (V.Prim o fs) W

abbrev pub app_core : (Ref → Option Callee) → Ctx → Pos → Ref → List (Form Ref) → (W : Option Srt) → Tm
app_core A xs at r fs W = node_core A xs at (V.App r fs) W

abbrev pub let_core : (Ref → Option Callee) → Ctx → Pos → Word → (f g : Form Ref) → (W : Option Srt) → Tm
let_core A xs at w f g W = node_core A xs at (V.Let w f g) W

-- the body of a let: it has the sort that it gives, and the one that is wanted only where it gives none
abbrev pub rest_core : (Ref → Option Callee) → Ctx → Form Ref → (W : Option Srt) → Tm
rest_core A xs g W = form_core A xs g (or_else (form_given A xs g) W)

-- The program that a tree is, for the first programs (PURE functions over bool and unit, without calls): indices for names, and a sort
-- for each term; None where the tree holds something that isn't built, a name isn't in scope or is declared twice, or a term doesn't fit
-- its sort.
use Rattle.std.specs.Prelude.{ℕ, suc, nat_le, nat_eq, Bool, true, false, ◌&&◌, ◌||◌, not, if◌then◌else◌, List, [], ◌∷◌, ◌++◌, map, reverse, length, codes, Option, Some, None, bytes_eq}
use Rattle.fst_base.specs.declared.op.Op.{Op}
use Rattle.fst_base.specs.declared.op.Op.TheVariants as op
use Rattle.fst_base.specs.declared.place.Pos.{Pos}
use Rattle.fst_base.specs.Sorts.{Srt, s_unit, s_bool, same_sort}
use Rattle.fst_terms.specs.Terms.{Tm, t_var, t_bool, t_unit, t_prim, t_if, row}
use Rattle.fst_terms.specs.Meaning.{Vr}
use Rattle.fst_program.specs.declared.effect.Effect.TheVariants as effect
use Rattle.fst_program.specs.Texts.{Cm, c_ret, c_let, c_if, Prm, Fn, Prog}
use Rattle.fst_trees.specs.declared.word.Word.{Word}
use Rattle.fst_trees.specs.declared.form.Form.{Form}
use Rattle.fst_trees.specs.declared.form.FormNode.{fold-FormNode}
use Rattle.fst_trees.specs.declared.form.FormNode.TheOpen as F
use Rattle.fst_trees.specs.declared.form.FormNode.TheVariants as V
use Rattle.fst_trees.specs.declared.body.BodyTree.{BodyTree, fold-BodyTree}
use Rattle.fst_trees.specs.declared.body.BodyTree.TheOpen as B
use Rattle.fst_trees.specs.declared.body.PartTree.{PartTree}
use Rattle.fst_trees.specs.declared.body.PartNode.{fold-PartNode}
use Rattle.fst_trees.specs.declared.sort.SortTree.{SortTree, out-SortTree}
use Rattle.fst_trees.specs.declared.sort.SortTree.TheOpen as S
use Rattle.fst_trees.specs.declared.decl.EffectName.{EffectName}
use Rattle.fst_trees.specs.declared.decl.EffectName.TheVariants as E
use Rattle.fst_trees.specs.declared.decl.ParamTree.{ParamTree}
use Rattle.fst_trees.specs.declared.decl.FunTree.{FunTree}
use Rattle.fst_trees.specs.declared.decl.Decl.{Decl}
use Rattle.fst_trees.specs.declared.decl.Decl.TheVariants as D

-- goes on with what is there
abbrev pub given_some : {A B : Type 0} → Option A → (A → Option B) → Option B
given_some None k = None
given_some (Some a) k = k a

-- goes on where the test is true
abbrev pub only_if : {B : Type 0} → Bool → Option B → Option B
only_if true o = o
only_if false o = None

-- ---- terms

-- a term and its sort
pub record Typed : Type 0 where
  pub term : Tm
  pub sort : Srt

abbrev pub typed : Tm → Srt → Option Typed
typed t S = Some (record { term = t; sort = S })

-- the variables in scope, the last first
abbrev pub Scope : Type 0
Scope = List Vr

-- the last variable of the name, where the first one looked at has index i
abbrev pub variable : (i : ℕ) → Scope → (name : List ℕ) → Option Typed
variable i [] name = None
variable i (x ∷ xs) name = if bytes_eq x.name name then typed (t_var i) x.sort else variable (suc i) xs name

-- an equation has sides of one sort
abbrev pub equation_of : (place : ℕ) → Typed → Typed → Option Typed
equation_of at x y = only_if (same_sort x.sort y.sort) (typed (t_prim op.Eq s_bool (row (x.term ∷ y.term ∷ [])) at) s_bool)

-- an `if` stands at bool alone
abbrev pub if_of : Typed → Typed → Typed → Option Typed
if_of c x y = only_if (same_sort c.sort s_bool && same_sort x.sort s_bool && same_sort y.sort s_bool) (typed (t_if c.term x.term y.term) s_bool)

abbrev pub node_layer : F.FormNode-F Word ((place : ℕ) → Scope → Option Typed) (Scope → Option Typed) → (place : ℕ) → Scope → Option Typed
node_layer (F.Ident w) at xs = variable 0 xs w.text
node_layer (F.Bool b) at xs = typed (t_bool b) s_bool
node_layer F.Unit at xs = typed t_unit s_unit
node_layer (F.Prim op.Eq (x ∷ y ∷ [])) at xs = given_some (x xs) (λ t. given_some (y xs) (λ u. equation_of at t u))
node_layer (F.If c x y) at xs = given_some (c xs) (λ s. given_some (x xs) (λ t. given_some (y xs) (λ u. if_of s t u)))
node_layer _ at xs = None

-- the term that a form is, in a scope
abbrev pub term_of : Form Word → Scope → Option Typed
term_of f xs = fold-FormNode Word ((place : ℕ) → Scope → Option Typed) (Scope → Option Typed) node_layer (λ g. g.node g.at.at) f.node f.at.at xs

-- the form of a primitive with these sides, at a place
abbrev pub prim_form : Pos → Op → List (Form Word) → Form Word
prim_form at o fs = record { at = at; node = V.Prim o fs }

-- ---- bodies

-- core text and the sort of its value
pub record TypedText : Type 0 where
  pub text : Cm
  pub sort : Srt

abbrev pub let_of : Word → Typed → TypedText → Option TypedText
let_of w t c = Some (record { text = c_let w.text (c_ret t.term) c.text; sort = c.sort })

-- the sides of an `if` have one sort
abbrev pub branch_of : Typed → TypedText → TypedText → Option TypedText
branch_of s c d = only_if (same_sort s.sort s_bool && same_sort c.sort d.sort) (Some (record { text = c_if s.term c.text d.text; sort = c.sort }))

abbrev pub body_layer : B.BodyTree-F Word (Scope → Option TypedText) (Scope → Option Typed) (Scope → Option Typed) → Scope → Option TypedText
body_layer (B.Let w None part rest) xs = given_some (part xs) (λ t. given_some (rest (record { name = w.text; sort = t.sort } ∷ xs)) (λ c. let_of w t c))
body_layer (B.If f left right) xs = given_some (term_of f xs) (λ s. given_some (left xs) (λ c. given_some (right xs) (λ d. branch_of s c d)))
body_layer (B.Part part) xs = given_some (part xs) (λ t. Some (record { text = c_ret t.term; sort = t.sort }))
body_layer _ xs = None

-- a part is a term
abbrev pub part_layer : B.PartNode-F Word (Scope → Option TypedText) (Scope → Option Typed) (Scope → Option Typed) → Scope → Option Typed
part_layer (B.Term f) xs = term_of f xs
part_layer _ xs = None

-- the term that a part is, in a scope
abbrev pub part_of : PartTree Word → Scope → Option Typed
part_of part xs = fold-PartNode Word (Scope → Option TypedText) (Scope → Option Typed) (Scope → Option Typed) body_layer part_layer (λ p. p.node) part.node xs

-- the core text that a body is, in a scope
abbrev pub text_of : BodyTree Word → Scope → Option TypedText
text_of = fold-BodyTree Word (Scope → Option TypedText) (Scope → Option Typed) (Scope → Option Typed) body_layer part_layer (λ p. p.node)

-- ---- functions

-- only bool and unit are built
abbrev pub sort_layer : S.SortTree-F Word (SortTree Word) → Option Srt
sort_layer S.Bool = Some s_bool
sort_layer S.Unit = Some s_unit
sort_layer _ = None

abbrev pub sort_of_tree : SortTree Word → Option Srt
sort_of_tree tree = sort_layer (out-SortTree Word tree)

-- the name is one of these
abbrev pub is_named : (name : List ℕ) → List (List ℕ) → Bool
is_named x [] = false
is_named x (y ∷ ys) = if bytes_eq x y then true else is_named x ys

-- the name binds nothing
abbrev pub is_blank : (name : List ℕ) → Bool
is_blank x = bytes_eq x (codes "_")

-- where nothing stands
abbrev pub where_none : {A B : Type 0} → Option A → Option B → Option B
where_none None o = o
where_none (Some a) o = None

-- a parameter without refinement, and not a ghost one
abbrev pub param_of : ParamTree Word → Option Prm
param_of p = given_some (sort_of_tree p.sort) (λ T. only_if (not p.hidden) (where_none p.refine (Some (record { name = p.name.text; sort = T; hidden = false; refine = None }))))

-- the parameters, no two of one name; met are the names of those before
abbrev pub params_of_trees : (met : List (List ℕ)) → List (ParamTree Word) → Option (List Prm)
params_of_trees met [] = Some []
params_of_trees met (p ∷ ps) =
    given_some (param_of p) (λ q. only_if (is_blank q.name || not (is_named q.name met)) (given_some (params_of_trees (met ++ q.name ∷ []) ps) (λ qs. Some (q ∷ qs))))

-- the parameters as variables, the last first
abbrev pub scope_of : List Prm → Scope
scope_of ps = reverse (map (λ p. record { name = p.name; sort = p.sort }) ps)

-- a clause is a formula, where it stands
abbrev pub clause_of : Option (Form Word) → Scope → Option (Option Tm)
clause_of None xs = Some None
clause_of (Some f) xs = given_some (term_of f xs) (λ t. only_if (same_sort t.sort s_bool) (Some (Some t.term)))

abbrev pub is_pure_name : EffectName Word → Bool
is_pure_name E.Pure = true
is_pure_name _ = false

abbrev pub is_none : {A : Type 0} → List A → Bool
is_none [] = true
is_none (x ∷ xs) = false

-- the word result
abbrev pub result_name : List ℕ
result_name = codes "result"

-- function k; the name result stands in ensures
abbrev pub fun_of_tree : (k : ℕ) → FunTree Word → Option Fn
fun_of_tree k f =
    only_if (is_pure_name f.head.effect && is_none f.head.measures && nat_eq f.head.«unfold» 1 && not f.joined)
    (given_some (params_of_trees [] f.head.params) λ ps.
    given_some (sort_of_tree f.head.sort) λ T.
    given_some (clause_of f.head.needs (scope_of ps)) λ needs.
    given_some (clause_of f.head.gives (record { name = result_name; sort = T } ∷ scope_of ps)) λ gives.
    given_some (text_of f.body (scope_of ps)) λ c.
    only_if (same_sort c.sort T)
    (Some (record { name = f.head.name.text; place = f.head.name.at.at; params = ps; effect = effect.Pure; sort = T; needs = needs; gives = gives; measures = []; unfolds = 1; body = c.text; group = k })))

-- ---- programs

abbrev pub fun_decl : Decl Word → Option (FunTree Word)
fun_decl (D.Fun f) = Some f
fun_decl _ = None

-- the functions from number k on, no two of one name; met are the names of those before
abbrev pub funs_from : (k : ℕ) → (met : List (List ℕ)) → List (Decl Word) → Option (List Fn)
funs_from k met [] = Some []
funs_from k met (d ∷ ds) =
    given_some (fun_decl d) λ tree.
    given_some (fun_of_tree k tree) λ f.
    only_if (not (is_named f.name met))
    (given_some (funs_from (suc k) (met ++ f.name ∷ []) ds) λ fs.
    Some (f ∷ fs))

-- the greatest number of functions
abbrev pub most_funs : ℕ
most_funs = 1000

-- the program of these declarations
abbrev pub program_of : List (Decl Word) → Option Prog
program_of ds = only_if (nat_le (length ds) most_funs) (given_some (funs_from 0 [] ds) λ fs. Some (record { effects = []; lifts = []; funs = map Some fs }))

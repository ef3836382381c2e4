-- Each elaborated term has its sort, and each elaborated program is built.
use Rattle.std.proofs.Common.{◌≡◌, ℕ, suc, ◌+◌, Bool, true, false, if◌then◌else◌, List, [], ◌∷◌, map, slice_get, Option, Some, None, refl, sym, ap, ◌∙◌, subst, arith, ◌&&◌, bytes_eq}
use Rattle.fst_base.specs.declared.op.Op.TheVariants as op
use Rattle.fst_base.specs.Sorts.{Srt, s_bool, same_sort}
use Rattle.fst_base.proofs.SortLemmas.{same_sort-decides}
use Rattle.fst_terms.specs.Terms.{t_var, t_prim, t_if, row}
use Rattle.fst_terms.specs.Propositional.{SortPropositional, TmPropositional, VarsPropositional}
use Rattle.fst_top.specs.Elaboration.{Typed, Scope, variable, typed, equation_of, if_of, given_some, only_if}

-- ---- what is there

pub some-given : {A B : Type 0} (o : Option A) (k : A → Option B) (b : B) → given_some o k ≡ Some b → (a : A) × ((o ≡ Some a) × (k a ≡ Some b))
some-given None k b e = cc
some-given (Some a) k b e = (a, (refl, e))

pub some-only : {A : Type 0} (t : Bool) (o : Option A) (a : A) → only_if t o ≡ Some a → (t ≡ true) × (o ≡ Some a)
some-only true o a e = (refl, e)
some-only false o a e = cc

pub some-same : {A : Type 0} (a b : A) → Some a ≡ Some b → a ≡ b
some-same a b e = cc

pub both-true : (a b : Bool) → a && b ≡ true → (a ≡ true) × (b ≡ true)
both-true true b e = (refl, e)
both-true false b e = cc

-- ---- terms

abbrev pub sorts : Scope → List Srt
sorts xs = map (λ x. x.sort) xs

-- the term has its sort, which is bool or unit
pub record IsTyped (Ss : List Srt) (t : Typed) : Type 0 where
  pub sort : SortPropositional t.sort
  pub term : TmPropositional Ss t.term t.sort

-- the variable j further on, where the first one looked at has index i
pub record IsFound (i : ℕ) (xs : Scope) (t : Typed) : Type 0 where
  pub sort : SortPropositional t.sort
  pub place : ℕ
  pub term : t.term ≡ t_var (i + place)
  pub there : slice_get (sorts xs) place ≡ Some t.sort

found : (i : ℕ) (xs : Scope) (name : List ℕ) (t : Typed) → VarsPropositional xs → variable i xs name ≡ Some t → IsFound i xs t
found i [] name t h e = cc
found i (x ∷ xs) name t h e = go (bytes_eq x.name name) (found (suc i) xs name t h.1) e
  where
    go : (b : Bool) → (variable (suc i) xs name ≡ Some t → IsFound (suc i) xs t) → (if b then typed (t_var i) x.sort else variable (suc i) xs name) ≡ Some t → IsFound i (x ∷ xs) t
    go true later e =
        let same : record { term = t_var i; sort = x.sort } ≡ t = cc in
        subst (IsFound i (x ∷ xs)) same (record { sort = h.0; place = 0; term = ap t_var (omega arith); there = refl })
    go false later e =
        let r = later e in
        record { sort = r.sort; place = suc r.place; term = r.term ∙ ap t_var (omega arith); there = r.there }

pub variable-typed : (xs : Scope) (name : List ℕ) (t : Typed) → VarsPropositional xs → variable 0 xs name ≡ Some t → IsTyped (sorts xs) t
variable-typed xs name t h e =
    let r = found 0 xs name t h e in
    record { sort = r.sort; term = subst (λ u. TmPropositional (sorts xs) u t.sort) (sym (r.term ∙ ap t_var (omega arith))) r.there }

pub equation-typed : (Ss : List Srt) (at : ℕ) (x y t : Typed) → IsTyped Ss x → IsTyped Ss y → equation_of at x y ≡ Some t → IsTyped Ss t
equation-typed Ss at x y t h k e =
    let p = some-only (same_sort x.sort y.sort) _ t e in
    let same : x.sort ≡ y.sort = (same_sort-decides x.sort y.sort).0 p.0 in
    let is : record { term = t_prim op.Eq s_bool (row (x.term ∷ y.term ∷ [])) at; sort = s_bool } ≡ t = some-same _ _ p.1 in
    subst (IsTyped Ss) is (record { sort = tt; term = (refl, refl, (x.sort, (h.sort, h.term, subst (TmPropositional Ss y.term) (sym same) k.term))) })

pub at-bool : (Ss : List Srt) (x : Typed) → IsTyped Ss x → same_sort x.sort s_bool ≡ true → TmPropositional Ss x.term s_bool
at-bool Ss x h e = subst (TmPropositional Ss x.term) ((same_sort-decides x.sort s_bool).0 e) h.term

pub if-typed : (Ss : List Srt) (c x y t : Typed) → IsTyped Ss c → IsTyped Ss x → IsTyped Ss y → if_of c x y ≡ Some t → IsTyped Ss t
if-typed Ss c x y t h k l e =
    let p = some-only (same_sort c.sort s_bool && same_sort x.sort s_bool && same_sort y.sort s_bool) _ t e in
    let q = both-true _ _ p.0 in
    let r = both-true _ _ q.0 in
    let is : record { term = t_if c.term x.term y.term; sort = s_bool } ≡ t = some-same _ _ p.1 in
    subst (IsTyped Ss) is (record { sort = tt; term = (refl, at-bool Ss c h r.0, at-bool Ss x k r.1, at-bool Ss y l q.1) })

-- Arguments of terms, and tests of terms and sorts, as the code reads them.
use Rattle.std.proofs.Common.{◌≡◌, ℕ, zero, suc, ◌+◌, ◌<◌, ◌≤◌, Bool, true, false, not, if◌then◌else◌, nat_eq, List, [], ◌∷◌, length, get_or, take, map, Some, None, refl, sym, ap, ap₂, ◌∙◌, arith, add-one, Decides}
use Rattle.std.proofs.lemmas.Bool.{ne_eqb}
use Rattle.std.proofs.lemmas.Bool.Decides.{same_from_decides}
use Rattle.fst_base.proofs.DecideLemmas.{decided-by}
use Rattle.fst_base.proofs.SortLemmas.{sort-injective, same_sort-decides}
use Rattle.fst_base.specs.declared.op.Op.{Op}
use Rattle.fst_base.specs.declared.op.Op.TheVariants as op
use Rattle.fst_base.specs.Sorts.{Srt, plain_sort, same_sort}
use Rattle.fst_base.specs.declared.sort.Sort.{Sort}
use Rattle.fst_base.specs.declared.place.Pos.{Pos}
use Rattle.fst_base.specs.Rows.{same_op}
use Rattle.fst_shapes.specs.Preparing.{only, parts_from}
use Rattle.fst_shapes.specs.Relations.{is_same, relation, relation_two}
use Rattle.fst_shapes.specs.Sides.{is_two}
use Rattle.fst_terms.specs.Formulas.{sort_of}
use Rattle.fst_terms.specs.Naming.{is_data}
use Rattle.fst_terms.specs.Skeletons.{k_atom, turned}
use Rattle.fst_terms.specs.Terms.{Tm, Tms, t_prim, row, listed, plain_term, plain_terms}
use Rattle.fst_terms.specs.DataFacts.{is_sort_among}
use Rattle.fst_terms.specs.declared.term.Term.{Term}
use Rattle.fst_terms.specs.declared.term.Term.TheVariants as T
use Rattle.fst_terms.proofs.PlainLemmas.{plain-term-Prim}
use Rattle.fst_terms.proofs.FirstsLemmas.{listed-row}

get-map : (args : List Term) (k : ℕ) (d : Term) (u : Tm) → k < length args → plain_term (get_or args k d) ≡ get_or (map plain_term args) k u
get-map [] k d u h = absurd (omega arith)
get-map (t ∷ ts) zero d u h = refl
get-map (t ∷ ts) (suc k) d u h = get-map ts k d u (omega arith)

past-map : (args : List Term) (k : ℕ) (u : Tm) → length args ≤ k → u ≡ get_or (map plain_term args) k u
past-map [] k u h = refl
past-map (t ∷ ts) zero u h = absurd (omega arith)
past-map (t ∷ ts) (suc k) u h = past-map ts k u (omega arith)

-- the argument at a place, from a list of arguments
pub argument-at : (args : List Term) (ts : Tms) (k : ℕ) (d x : Term) (u : Tm) → plain_terms args ≡ ts → k < length args → x ≡ get_or args k d → plain_term x ≡ get_or (listed ts) k u
argument-at args ts k d x u e h is = ap plain_term is ∙ get-map args k d u h ∙ ap (λ ts. get_or ts k u) (sym (listed-row (map plain_term args))) ∙ ap (λ ts. get_or (listed ts) k u) e

pub argument-past : (args : List Term) (ts : Tms) (k : ℕ) (u : Tm) → plain_terms args ≡ ts → length args ≤ k → u ≡ get_or (listed ts) k u
argument-past args ts k u e h = past-map args k u h ∙ ap (λ ts. get_or ts k u) (sym (listed-row (map plain_term args))) ∙ ap (λ ts. get_or (listed ts) k u) e

-- ---- sorts

pub same-plain-sort : (s t : Sort) (b : Bool) → Decides b (s ≡ t) → b ≡ same_sort (plain_sort s) (plain_sort t)
same-plain-sort s t b d = same_from_decides b (same_sort (plain_sort s) (plain_sort t)) d (decided-by (sort-injective s t) (ap plain_sort) (same_sort-decides (plain_sort s) (plain_sort t)))

found : (b c : Bool) → c ≡ true → (if b then true else c) ≡ true
found true c e = refl
found false c e = e

missed : (b c d : Bool) → (if b then true else c) ≡ false → (c ≡ false → d ≡ false) → (if b then true else d) ≡ false
missed true c d e f = e
missed false c d e f = f e

pub sort-at : (s : Sort) (ts : List Sort) (k : ℕ) (d : Sort) → k < length ts → same_sort (plain_sort s) (plain_sort (get_or ts k d)) ≡ true → is_sort_among (plain_sort s) (map plain_sort ts) ≡ true
sort-at s [] k d h e = absurd (omega arith)
sort-at s (t ∷ ts) zero d h e = rw e refl
sort-at s (t ∷ ts) (suc k) d h e = found (same_sort (plain_sort s) (plain_sort t)) _ (sort-at s ts k d (omega arith) e)

sort-suc : (s : Sort) (ts : List Sort) (k : ℕ) (d : Sort) → k < length ts → is_sort_among (plain_sort s) (map plain_sort (take k ts)) ≡ false → same_sort (plain_sort s) (plain_sort (get_or ts k d)) ≡ false → is_sort_among (plain_sort s) (map plain_sort (take (suc k) ts)) ≡ false
sort-suc s [] k d h e f = absurd (omega arith)
sort-suc s (t ∷ ts) zero d h e f = rw f refl
sort-suc s (t ∷ ts) (suc k) d h e f = missed (same_sort (plain_sort s) (plain_sort t)) _ _ e (λ g. sort-suc s ts k d (omega arith) g f)

pub sort-more : (s : Sort) (ts : List Sort) (k : ℕ) (d : Sort) → k < length ts → is_sort_among (plain_sort s) (map plain_sort (take k ts)) ≡ false → same_sort (plain_sort s) (plain_sort (get_or ts k d)) ≡ false → is_sort_among (plain_sort s) (map plain_sort (take (k + 1) ts)) ≡ false
sort-more s ts k d h e f = rw add-one (sort-suc s ts k d h e f)

-- ---- how many arguments

pub only-one : (ts : List Term) (x : Term) → length ts ≡ 1 → x ≡ get_or ts 0 x → Some (plain_term x) ≡ only (plain_terms ts)
only-one [] x h e = absurd (omega (arith, h))
only-one (t ∷ []) x h e = ap (λ t. Some (plain_term t)) e
only-one (t ∷ u ∷ ts) x h e = absurd (omega (arith, h))

pub only-none : (ts : List Term) → (length ts ≡ 1 → ⊥) → None ≡ only (plain_terms ts)
only-none [] h = refl
only-none (t ∷ []) h = absurd (h refl)
only-none (t ∷ u ∷ ts) h = refl

pub two-length : (ts : List Term) → nat_eq (length ts) 2 ≡ is_two (plain_terms ts)
two-length [] = refl
two-length (t ∷ []) = refl
two-length (t ∷ u ∷ []) = refl
two-length (t ∷ u ∷ v ∷ ts) = ne_eqb (length (t ∷ u ∷ v ∷ ts)) 2 (λ e. absurd (omega (arith, e)))

pub turned-two : (S : Srt) (ts : List Term) (at : ℕ) (x y : Term) → length ts ≡ 2 → x ≡ get_or ts 0 x → y ≡ get_or ts 1 y
    → t_prim op.Eq S (row (plain_term y ∷ plain_term x ∷ [])) at ≡ turned (t_prim op.Eq S (plain_terms ts) at)
turned-two S [] at x y h e f = absurd (omega (arith, h))
turned-two S (t ∷ []) at x y h e f = absurd (omega (arith, h))
turned-two S (t ∷ u ∷ []) at x y h e f = ap₂ (λ a b. t_prim op.Eq S (row (plain_term b ∷ plain_term a ∷ [])) at) e f
turned-two S (t ∷ u ∷ v ∷ ts) at x y h e f = absurd (omega (arith, h))

pub turned-other : (S : Srt) (ts : List Term) (at : ℕ) → (length ts ≡ 2 → ⊥) → t_prim op.Eq S (plain_terms ts) at ≡ turned (t_prim op.Eq S (plain_terms ts) at)
turned-other S [] at h = refl
turned-other S (t ∷ []) at h = refl
turned-other S (t ∷ u ∷ []) at h = absurd (h refl)
turned-other S (t ∷ u ∷ v ∷ ts) at h = refl

pub bools-two : (Ss : List Srt) (ts : List Term) (x : Term) (b : Bool) → length ts ≡ 2 → x ≡ get_or ts 0 x → b ≡ is_data (sort_of Ss (plain_term x)) → not b ≡ is_same Ss op.Eq (plain_terms ts)
bools-two Ss [] x b h e f = absurd (omega (arith, h))
bools-two Ss (t ∷ []) x b h e f = absurd (omega (arith, h))
bools-two Ss (t ∷ u ∷ []) x b h e f = ap not (f ∙ ap (λ t. is_data (sort_of Ss (plain_term t))) e)
bools-two Ss (t ∷ u ∷ v ∷ ts) x b h e f = absurd (omega (arith, h))

pub bools-other : (Ss : List Srt) (ts : List Term) → (length ts ≡ 2 → ⊥) → false ≡ is_same Ss op.Eq (plain_terms ts)
bools-other Ss [] h = refl
bools-other Ss (t ∷ []) h = refl
bools-other Ss (t ∷ u ∷ []) h = absurd (h refl)
bools-other Ss (t ∷ u ∷ v ∷ ts) h = refl

pub relation-two : (Ss : List Srt) (o : Op) (ts : List Term) (x y : Term) (w : Tm) → length ts ≡ 2 → x ≡ get_or ts 0 x → y ≡ get_or ts 1 y
    → relation_two Ss o (plain_term x) (plain_term y) w ≡ relation Ss o (plain_terms ts) w
relation-two Ss o [] x y w h e f = absurd (omega (arith, h))
relation-two Ss o (t ∷ []) x y w h e f = absurd (omega (arith, h))
relation-two Ss o (t ∷ u ∷ []) x y w h e f = ap₂ (λ t u. relation_two Ss o (plain_term t) (plain_term u) w) e f ∙ when o
  where
    when : (o : Op) → relation_two Ss o (plain_term t) (plain_term u) w ≡ relation Ss o (plain_terms (t ∷ u ∷ [])) w
    when op.Le = refl
    when op.Lt = refl
    when op.Eq = refl
    when o = refl
relation-two Ss o (t ∷ u ∷ v ∷ ts) x y w h e f = absurd (omega (arith, h))

pub relation-other : (Ss : List Srt) (o : Op) (ts : List Term) (w : Tm) → (length ts ≡ 2 → ⊥) → k_atom w ≡ relation Ss o (plain_terms ts) w
relation-other Ss op.Le [] w h = refl
relation-other Ss op.Le (t ∷ []) w h = refl
relation-other Ss op.Le (t ∷ u ∷ []) w h = absurd (h refl)
relation-other Ss op.Le (t ∷ u ∷ v ∷ ts) w h = refl
relation-other Ss op.Lt [] w h = refl
relation-other Ss op.Lt (t ∷ []) w h = refl
relation-other Ss op.Lt (t ∷ u ∷ []) w h = absurd (h refl)
relation-other Ss op.Lt (t ∷ u ∷ v ∷ ts) w h = refl
relation-other Ss op.Eq [] w h = refl
relation-other Ss op.Eq (t ∷ []) w h = refl
relation-other Ss op.Eq (t ∷ u ∷ []) w h = absurd (h refl)
relation-other Ss op.Eq (t ∷ u ∷ v ∷ ts) w h = refl
relation-other Ss o ts w h = refl

-- ---- arguments of a constructor term

pub parts-from-Prim : (o m : Op) (S : Sort) (ts us : List Term) (p : Pos) (t : Term) → t ≡ T.Prim o S ts p → same_op o m ≡ true → us ≡ ts → Some (map plain_term us) ≡ parts_from m (plain_term t)
parts-from-Prim o m S ts us p t is e f =
    ap Some (ap (map plain_term) f ∙ sym (listed-row (map plain_term ts))) ∙ sym (ap (parts_from m) (ap plain_term is ∙ plain-term-Prim o S ts p) ∙ ap (λ b. if b then Some (listed (plain_terms ts)) else None) e)

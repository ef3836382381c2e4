-- Ways that stand in an environment, and values that a symbolic run reaches. A run takes one of the ways of the symbolic run: the one
-- whose hypotheses its environment makes true. `Stands` says that of a way, `Extends` that a way and its environment are further on, and
-- `Reaches` that a value is that of a term with which the walk goes on, further on, with valid goals.
use Rattle.std.proofs.Common.{◌≡◌, ℕ, suc, ◌+◌, ◌-◌, true, List, [], ◌∷◌, ◌++◌, map, reverse, length, refl, sym, ap, ap₂, ◌∙◌, subst, arith}
use Rattle.std.proofs.lemmas.List.{reverse-reverse}
use mathlib.Core.List.{reverse_aux}
use Rattle.fst_base.specs.Sorts.{Srt}
use Rattle.fst_base.specs.Values.{Val, v_bool, Has, HasSorts}
use Rattle.fst_base.specs.Primitives.{is_true}
use Rattle.fst_terms.specs.Terms.{Tm, shift}
use Rattle.fst_terms.specs.Meaning.{Env, Meaning, value, Truth, AllTrue, Vr}
use Rattle.fst_terms.proofs.PutLemmas.{put_values}
use Rattle.fst_terms.proofs.TermLemmas.{shift_law}
use Rattle.fst_program.specs.declared.goal.SiteKind.{SiteKind}
use Rattle.fst_program.specs.Texts.{Prog}
use Rattle.fst_program.specs.Paths.{Gl, Way, count, suppose, suppose_all, raised, all_raised, goal_site, GoalsValid}
use Rattle.fst_program.specs.Sorted.{Applies, FormSorted}
use Rattle.fst_program.proofs.SortedTerms.{AllSorted, raise-sorted}

pub valid-left : (M : Meaning) (gs hs : List Gl) → GoalsValid M (gs ++ hs) → GoalsValid M gs
valid-left M [] hs h = tt
valid-left M (g ∷ gs) hs h = (h.0, valid-left M gs hs h.1)

pub valid-right : (M : Meaning) (gs hs : List Gl) → GoalsValid M (gs ++ hs) → GoalsValid M hs
valid-right M [] hs h = h
valid-right M (g ∷ gs) hs h = valid-right M gs hs h.1

pub true-value : (v : Val) → is_true v ≡ true → v ≡ v_bool true
true-value (v_bool x) e = ap v_bool e
true-value v e = cc

-- the sorts of a way's variables, the last first
abbrev pub way_sorts : Way → List Srt
way_sorts w = map (λ (x : Vr). x.sort) w.vars

turned-true : (M : Meaning) (e : Env) (phis psis : List Tm) → AllTrue M phis e → AllTrue M psis e → AllTrue M (reverse_aux phis psis) e
turned-true M e [] psis h k = k
turned-true M e (phi ∷ phis) psis h k = turned-true M e phis (phi ∷ psis) h.1 (h.0, k)

map-++ : (xs ys : List Vr) → map (λ (x : Vr). x.sort) (xs ++ ys) ≡ map (λ (x : Vr). x.sort) xs ++ map (λ (x : Vr). x.sort) ys
map-++ [] ys = refl
map-++ (x ∷ xs) ys = ap (λ Ss. x.sort ∷ Ss) (map-++ xs ys)

map-turned : (xs ys : List Vr) → map (λ (x : Vr). x.sort) (reverse_aux xs ys) ≡ reverse_aux (map (λ (x : Vr). x.sort) xs) (map (λ (x : Vr). x.sort) ys)
map-turned [] ys = refl
map-turned (x ∷ xs) ys = map-turned xs (x ∷ ys)

pub turned-sorts : (w : Way) → reverse (map (λ (x : Vr). x.sort) (reverse w.vars)) ≡ way_sorts w
turned-sorts w = ap reverse (map-turned w.vars []) ∙ reverse-reverse (way_sorts w)

-- the environment has the sorts of the way's variables and makes its hypotheses true
pub record Stands (M : Meaning) (w : Way) (e : Env) : Type 0 where
  pub sorts : HasSorts (way_sorts w) e
  pub hyps : AllTrue M w.hyps e

-- a valid goal of a way that stands is true
pub goal-true : (M : Meaning) (k : ℕ) (m : SiteKind) (at : ℕ) (phi : Tm) (w : Way) (e : Env) → Stands M w e → GoalsValid M (goal_site k m at phi w) → Truth M phi e
goal-true M k m at phi w e s h =
    h.0 e (subst (λ Ss. HasSorts Ss e) (sym (turned-sorts w)) s.sorts) (turned-true M e w.hyps [] s.hyps tt)

pub suppose-stands : (M : Meaning) (phi : Tm) (w : Way) (e : Env) → Stands M w e → Truth M phi e → Stands M (suppose phi w) e
suppose-stands M phi w e s t = record { sorts = s.sorts; hyps = (t, s.hyps) }

pub suppose-all-vars : (phis : List Tm) (w : Way) → (suppose_all phis w).vars ≡ w.vars
suppose-all-vars [] w = refl
suppose-all-vars (phi ∷ phis) w = suppose-all-vars phis (suppose phi w)

pub suppose-all-stands : (M : Meaning) (phis : List Tm) (w : Way) (e : Env) → Stands M w e → AllTrue M phis e → Stands M (suppose_all phis w) e
suppose-all-stands M [] w e s h = s
suppose-all-stands M (phi ∷ phis) w e s h = suppose-all-stands M phis (suppose phi w) e (suppose-stands M phi w e s h.0) h.1

-- the way w1 has further variables before those of w, and e1 their values before e
pub record Extends (w : Way) (e : Env) (w1 : Way) (e1 : Env) : Type 0 where
  pub news : List Vr
  pub new : Env
  pub vars : w1.vars ≡ news ++ w.vars
  pub env : e1 ≡ new ++ e
  pub long : length news ≡ length new

pub extends-same : (w w1 : Way) (e : Env) → w1.vars ≡ w.vars → Extends w e w1 e
extends-same w w1 e p = record { news = []; new = []; vars = p; env = refl; long = refl }

append-again {ℓ} : {A : Type ℓ} (xs ys zs : List A) → xs ++ (ys ++ zs) ≡ (xs ++ ys) ++ zs
append-again [] ys zs = refl
append-again (x ∷ xs) ys zs = ap (λ l. x ∷ l) (append-again xs ys zs)

length-++ {ℓ} : {A : Type ℓ} (xs ys : List A) → length (xs ++ ys) ≡ length xs + length ys
length-++ [] ys = omega arith
length-++ (x ∷ xs) ys = ap suc (length-++ xs ys) ∙ omega arith

pub extends-then : (w : Way) (e : Env) (w1 : Way) (e1 : Env) (w2 : Way) (e2 : Env) → Extends w e w1 e1 → Extends w1 e1 w2 e2 → Extends w e w2 e2
extends-then w e w1 e1 w2 e2 x y = record {
  news = y.news ++ x.news;
  new = y.new ++ x.new;
  vars = y.vars ∙ ap (λ l. y.news ++ l) x.vars ∙ append-again y.news x.news w.vars;
  env = y.env ∙ ap (λ l. y.new ++ l) x.env ∙ append-again y.new x.new e;
  long = length-++ y.news x.news ∙ ap₂ ◌+◌ y.long x.long ∙ sym (length-++ y.new x.new);
}

extra : (w : Way) (e : Env) (w1 : Way) (e1 : Env) (x : Extends w e w1 e1) → count w1 - count w ≡ length x.news
extra w e w1 e1 x = let p : count w1 ≡ length x.news + count w = ap length x.vars ∙ length-++ x.news w.vars in omega arith

-- a raised term keeps its value and its sort
pub raised-value : (M : Meaning) (w : Way) (e : Env) (w1 : Way) (e1 : Env) (t : Tm) → Extends w e w1 e1 → value M (raised (count w) w1 t) e1 ≡ value M t e
raised-value M w e w1 e1 t x =
    ap (λ n. value M (shift 0 n t) e1) (extra w e w1 e1 x ∙ x.long) ∙ ap (λ e2. value M (shift 0 (length x.new) t) e2) x.env ∙ shift_law M 0 t e x.new

pub raised-put-values : (M : Meaning) (w : Way) (e : Env) (w1 : Way) (e1 : Env) (us : List Tm) → Extends w e w1 e1 → put_values M (all_raised (count w) w1 us) e1 ≡ put_values M us e
raised-put-values M w e w1 e1 [] x = refl
raised-put-values M w e w1 e1 (u ∷ us) x = ap₂ ◌∷◌ (raised-value M w e w1 e1 u x) (raised-put-values M w e w1 e1 us x)

extended-sorts : (w : Way) (e : Env) (w1 : Way) (e1 : Env) (x : Extends w e w1 e1) → way_sorts w1 ≡ map (λ (v : Vr). v.sort) x.news ++ way_sorts w
extended-sorts w e w1 e1 x = ap (map (λ (v : Vr). v.sort)) x.vars ∙ map-++ x.news w.vars

length-map : (xs : List Vr) → length (map (λ (v : Vr). v.sort) xs) ≡ length xs
length-map [] = refl
length-map (x ∷ xs) = ap suc (length-map xs)

module _ (P : Prog) where
  pub raised-sorted : (w : Way) (e : Env) (w1 : Way) (e1 : Env) (t : Tm) (S : Srt) → Extends w e w1 e1 → FormSorted P (way_sorts w) t S → FormSorted P (way_sorts w1) (raised (count w) w1 t) S
  raised-sorted w e w1 e1 t S x h =
      let n : count w1 - count w ≡ length (map (λ (v : Vr). v.sort) x.news) = extra w e w1 e1 x ∙ sym (length-map x.news) in
      subst (λ n. FormSorted P (way_sorts w1) (shift 0 n t) S) (sym n)
      (subst (λ Ss. FormSorted P Ss (shift 0 (length (map (λ (v : Vr). v.sort) x.news)) t) S) (sym (extended-sorts w e w1 e1 x))
      (raise-sorted (Applies P) (map (λ (v : Vr). v.sort) x.news) (way_sorts w) t S h))

  pub all-raised-sorted : (w : Way) (e : Env) (w1 : Way) (e1 : Env) (us : List Tm) (Us : List Srt) → Extends w e w1 e1 → AllSorted (Applies P) (way_sorts w) us Us → AllSorted (Applies P) (way_sorts w1) (all_raised (count w) w1 us) Us
  all-raised-sorted w e w1 e1 [] [] x h = tt
  all-raised-sorted w e w1 e1 [] (U ∷ Us) x h = absurd h
  all-raised-sorted w e w1 e1 (u ∷ us) [] x h = absurd h
  all-raised-sorted w e w1 e1 (u ∷ us) (U ∷ Us) x h = (raised-sorted w e w1 e1 u U x h.0, all-raised-sorted w e w1 e1 us Us x h.1)

  -- the value v of the sort S is that of a term with which the rest goes on, on a way further on that stands, and the rest has
  -- valid goals there
  pub record Reaches (M : Meaning) (w : Way) (e : Env) (S : Srt) (k : Way → Tm → List Gl) (v : Val) : Type 0 where
    pub way : Way
    pub env : Env
    pub extends : Extends w e way env
    pub stands : Stands M way env
    pub term : Tm
    pub sorted : FormSorted P (way_sorts way) term S
    pub gives : value M term env ≡ v
    pub has : Has S v
    pub valid : GoalsValid M (k way term)

  pub reaches-from : (M : Meaning) (w : Way) (e : Env) (w1 : Way) (e1 : Env) (S : Srt) (k : Way → Tm → List Gl) (v : Val) → Extends w e w1 e1 → Reaches M w1 e1 S k v → Reaches M w e S k v
  reaches-from M w e w1 e1 S k v x r = record {
    way = r.way;
    env = r.env;
    extends = extends-then w e w1 e1 r.way r.env x r.extends;
    stands = r.stands;
    term = r.term;
    sorted = r.sorted;
    gives = r.gives;
    has = r.has;
    valid = r.valid;
  }

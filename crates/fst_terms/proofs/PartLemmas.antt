-- A made term, from the answers for its parts; the lets that a term's parts stand under.
use Rattle.std.proofs.Common.{◌≡◌, ℕ, suc, ◌+◌, ◌-◌, ◌^◌, max, min, List, map, sym, ap, ap₂, ◌∙◌, arith}
use Rattle.fst_base.specs.declared.op.Op.{Op}
use Rattle.fst_base.specs.declared.place.Pos.{Pos}
use Rattle.fst_base.specs.declared.sort.Sort.{Sort}
use Rattle.fst_base.specs.Sorts.{plain_sort}
use Rattle.fst_terms.specs.Terms.{Tm, Tms, t_prim, t_app, t_let, row, plain_term, plain_terms, shift, shifts, subst, substs}
use Rattle.fst_terms.specs.Indices.{Stands, lets, lets_of}
use Rattle.fst_terms.specs.Flats.{cleared, all_cleared}
use Rattle.fst_terms.specs.declared.term.Term.{Term}
use Rattle.fst_terms.specs.declared.term.Term.TheVariants as T
use Rattle.fst_terms.proofs.PlainLemmas.{plain-term-Prim, plain-term-If, plain-term-App, plain-term-Let}
use Rattle.fst_terms.proofs.IndexLemmas.{shift-shift}
use Rattle.fst_terms.proofs.RowLemmas.{shifts-row, substs-row, cleared-row}

-- an operator and an application, from the answers for their arguments

module _ (each : Tm → Tm) (all : Tms → Tms) (by_row : (ts : List Term) → row (map (λ t. each (plain_term t)) ts) ≡ all (plain_terms ts)) where
  args-by : (ts us vs : List Term) → us ≡ ts → map plain_term vs ≡ map (λ t. each (plain_term t)) us → plain_terms vs ≡ all (plain_terms ts)
  args-by ts us vs e f = ap row f ∙ by_row us ∙ ap (λ ts. all (plain_terms ts)) e

  prim-by : (o : Op) (S S' : Sort) (ts us vs : List Term) (p : Pos) → S' ≡ S → us ≡ ts → map plain_term vs ≡ map (λ t. each (plain_term t)) us → plain_term (T.Prim o S' vs p) ≡ t_prim o (plain_sort S) (all (plain_terms ts)) p.at
  prim-by o S S' ts us vs p e f g = plain-term-Prim o S' vs p ∙ ap₂ (λ S us. t_prim o S us p.at) (ap plain_sort e) (args-by ts us vs f g)

  app-by : (k : ℕ) (S S' : Sort) (ts us vs : List Term) → S' ≡ S → us ≡ ts → map plain_term vs ≡ map (λ t. each (plain_term t)) us → plain_term (T.App k S' vs) ≡ t_app k (plain_sort S) (all (plain_terms ts))
  app-by k S S' ts us vs e f g = plain-term-App k S' vs ∙ ap₂ (t_app k) (ap plain_sort e) (args-by ts us vs f g)

pub shift-Prim-by : (from by : ℕ) (o : Op) (S S' : Sort) (ts us vs : List Term) (p : Pos) (t : Term)
    → t ≡ T.Prim o S ts p → S' ≡ S → us ≡ ts → map plain_term vs ≡ map (λ t. shift from by (plain_term t)) us → plain_term (T.Prim o S' vs p) ≡ shift from by (plain_term t)
shift-Prim-by from by o S S' ts us vs p t is e f g = prim-by (shift from by) (shifts from by) (shifts-row from by) o S S' ts us vs p e f g ∙ sym (ap (λ t. shift from by (plain_term t)) is ∙ ap (shift from by) (plain-term-Prim o S ts p))

pub shift-App-by : (from by : ℕ) (k : ℕ) (S S' : Sort) (ts us vs : List Term) (t : Term)
    → t ≡ T.App k S ts → S' ≡ S → us ≡ ts → map plain_term vs ≡ map (λ t. shift from by (plain_term t)) us → plain_term (T.App k S' vs) ≡ shift from by (plain_term t)
shift-App-by from by k S S' ts us vs t is e f g = app-by (shift from by) (shifts from by) (shifts-row from by) k S S' ts us vs e f g ∙ sym (ap (λ t. shift from by (plain_term t)) is ∙ ap (shift from by) (plain-term-App k S ts))

pub subst-Prim-by : (i : ℕ) (u : Tm) (o : Op) (S S' : Sort) (ts us vs : List Term) (p : Pos) (t : Term)
    → t ≡ T.Prim o S ts p → S' ≡ S → us ≡ ts → map plain_term vs ≡ map (λ t. subst i u (plain_term t)) us → plain_term (T.Prim o S' vs p) ≡ subst i u (plain_term t)
subst-Prim-by i u o S S' ts us vs p t is e f g = prim-by (subst i u) (substs i u) (substs-row i u) o S S' ts us vs p e f g ∙ sym (ap (λ t. subst i u (plain_term t)) is ∙ ap (subst i u) (plain-term-Prim o S ts p))

pub subst-App-by : (i : ℕ) (u : Tm) (k : ℕ) (S S' : Sort) (ts us vs : List Term) (t : Term)
    → t ≡ T.App k S ts → S' ≡ S → us ≡ ts → map plain_term vs ≡ map (λ t. subst i u (plain_term t)) us → plain_term (T.App k S' vs) ≡ subst i u (plain_term t)
subst-App-by i u k S S' ts us vs t is e f g = app-by (subst i u) (substs i u) (substs-row i u) k S S' ts us vs e f g ∙ sym (ap (λ t. subst i u (plain_term t)) is ∙ ap (subst i u) (plain-term-App k S ts))

-- places are cleared: q is place 0
pub clear-Prim-by : (n : ℕ) (o : Op) (S S' : Sort) (ts us vs : List Term) (p q : Pos) (t : Term)
    → t ≡ T.Prim o S ts p → S' ≡ S → us ≡ ts → map plain_term vs ≡ map (λ t. cleared n (plain_term t)) us → q.at ≡ 0 → plain_term (T.Prim o S' vs q) ≡ cleared n (plain_term t)
clear-Prim-by n o S S' ts us vs p q t is e f g z =
    prim-by (cleared n) (all_cleared n) (cleared-row n) o S S' ts us vs q e f g ∙ ap (t_prim o (plain_sort S) (all_cleared n (plain_terms ts))) z
    ∙ sym (ap (λ t. cleared n (plain_term t)) is ∙ ap (cleared n) (plain-term-Prim o S ts p))

pub clear-App-by : (n : ℕ) (k : ℕ) (S S' : Sort) (ts us vs : List Term) (t : Term)
    → t ≡ T.App k S ts → S' ≡ S → us ≡ ts → map plain_term vs ≡ map (λ t. cleared n (plain_term t)) us → plain_term (T.App k S' vs) ≡ cleared n (plain_term t)
clear-App-by n k S S' ts us vs t is e f g = app-by (cleared n) (all_cleared n) (cleared-row n) k S S' ts us vs e f g ∙ sym (ap (λ t. cleared n (plain_term t)) is ∙ ap (cleared n) (plain-term-App k S ts))

-- a let under `depth` more, from the answers for its parts
pub subst-Let-by : (at depth : ℕ) (u : Tm) (x x' : List ℕ) (t t' v v' w : Term)
    → w ≡ T.Let x t v → x' ≡ x → plain_term t' ≡ subst (at + depth) (shift 0 depth u) (plain_term t) → plain_term v' ≡ subst (at + suc depth) (shift 0 (suc depth) u) (plain_term v)
    → plain_term (T.Let x' t' v') ≡ subst (at + depth) (shift 0 depth u) (plain_term w)
subst-Let-by at depth u x x' t t' v v' w is e f g =
    let above : at + suc depth ≡ suc (at + depth) = omega arith in
    let one_more : suc depth ≡ depth + 1 = omega arith in
    let twice : shift 0 (suc depth) u ≡ shift 0 1 (shift 0 depth u) = ap (λ n. shift 0 n u) one_more ∙ sym (shift-shift 0 depth 1 u) in
    let rest : plain_term v' ≡ subst (suc (at + depth)) (shift 0 1 (shift 0 depth u)) (plain_term v) = g ∙ ap₂ (λ i u. subst i u (plain_term v)) above twice in
    plain-term-Let x' t' v' ∙ ap (λ x. t_let x (plain_term t') (plain_term v')) e ∙ ap₂ (t_let x) f rest ∙ sym (ap (λ t. subst (at + depth) (shift 0 depth u) (plain_term t)) is ∙ ap (subst (at + depth) (shift 0 depth u)) (plain-term-Let x t v))

pub lets-Prim : (o : Op) (S : Sort) (ts : List Term) (p : Pos) (w : Term) → w ≡ T.Prim o S ts p → lets (plain_term w) ≡ lets_of (plain_terms ts)
lets-Prim o S ts p w is = ap (λ t. lets (plain_term t)) is ∙ ap lets (plain-term-Prim o S ts p)

pub lets-If : (c t u w : Term) → w ≡ T.If c t u → lets (plain_term w) ≡ max (lets (plain_term c)) (max (lets (plain_term t)) (lets (plain_term u)))
lets-If c t u w is = ap (λ t. lets (plain_term t)) is ∙ ap lets (plain-term-If c t u)

pub lets-Let : (x : List ℕ) (t u w : Term) → w ≡ T.Let x t u → lets (plain_term w) ≡ max (lets (plain_term t)) (lets (plain_term u) + 1)
lets-Let x t u w is = ap (λ t. lets (plain_term t)) is ∙ ap lets (plain-term-Let x t u)

-- the number of one let more
pub Stands-suc : (n m depth : ℕ) → Stands n depth → m ≡ min (n + 1) (2 ^ 64 - 1) → Stands m (suc depth)
Stands-suc n m depth s e = omega arith

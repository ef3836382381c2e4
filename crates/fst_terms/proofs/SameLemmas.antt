-- Equality of terms as a test; members of lists of terms.
use Rattle.std.proofs.Common.{◌≡◌, ℕ, Bool, true, false, ◌&&◌, List, [], ◌∷◌, refl, ap, ap₂, Decides, ◌⊎◌, inl, inr, nat_eq, rules}
use Rattle.std.proofs.lemmas.Bool.Decides.{Decides-int_eq}
use Rattle.std.proofs.lemmas.Slice.Eq.{bytes_eq-Decides}
use Rattle.std.proofs.lemmas.Bool.{eq-eqb, ne_eqb, cases_eq}
use denote.Enum.Bare.{same_true, true_same}
use Rattle.fst_base.specs.contracts.op.Op.{the_type}
use Rattle.fst_base.proofs.DecideLemmas.{decided-no, decided-by, decided-both}
use Rattle.fst_base.proofs.SortLemmas.{same_sort-decides}
use Rattle.fst_base.specs.declared.op.Op.{Op}
use Rattle.fst_base.specs.Rows.{same_op}
use Rattle.fst_base.specs.Values.{same_bool}
use Rattle.fst_terms.specs.Terms.{Tm, Tms, t_var, t_int, t_bool, t_unit, t_prim, t_if, t_app, t_let, t_end, t_more}
use Rattle.fst_terms.specs.Same.{same_term, same_terms}

nat_eq-decides : (i j : ℕ) → Decides (nat_eq i j) (i ≡ j)
nat_eq-decides i j = go (cases_eq i j)
  where
    go : (i ≡ j) ⊎ ((i ≡ j) → ⊥) → Decides (nat_eq i j) (i ≡ j)
    go (inl e) = (λ _. e, λ _. eq-eqb i j e)
    go (inr n) = decided-no (ne_eqb i j n) n

pub same_bool-decides : (a b : Bool) → Decides (same_bool a b) (a ≡ b)
same_bool-decides true true = (λ _. refl, λ _. refl)
same_bool-decides true false = decided-no refl (λ e. cc)
same_bool-decides false true = decided-no refl (λ e. cc)
same_bool-decides false false = (λ _. refl, λ _. refl)

pub same_op-decides : (o p : Op) → Decides (same_op o p) (o ≡ p)
same_op-decides o p = (same_true the_type (search rules) o p, true_same the_type o p)

-- a conjunction of three tests, and of four
three : {A B C D : Type 0} (a b c : Bool) → (A → B → C → D) → (D → A) → (D → B) → (D → C) → Decides a A → Decides b B → Decides c C → Decides (a && b && c) D
three {A} {B} a b c f g h k d e i = decided-both {A = A × B} (a && b) c (λ p q. f p.0 p.1 q) (λ x. (g x, h x)) k (decided-both a b (λ p q. (p, q)) (λ p. p.0) (λ p. p.1) d e) i

four : {A B C D E : Type 0} (a b c d : Bool) → (A → B → C → D → E) → (E → A) → (E → B) → (E → C) → (E → D) → Decides a A → Decides b B → Decides c C → Decides d D → Decides (a && b && c && d) E
four {A} {B} {C} a b c d f g h k l p q r s = decided-both {A = A × B × C} (a && b && c) d (λ x y. f x.0 x.1 x.2 y) (λ x. (g x, h x, k x)) l (three a b c (λ x y z. (x, y, z)) (λ x. x.0) (λ x. x.1) (λ x. x.2) p q r) s

mutual
  -- the test says whether the two are the same term
  pub same_term-decides : (t u : Tm) → Decides (same_term t u) (t ≡ u)
  same_term-decides (t_var i) (t_var j) = decided-by (ap t_var) (λ e. cc) (nat_eq-decides i j)
  same_term-decides (t_int n) (t_int m) = decided-by (ap t_int) (λ e. cc) (Decides-int_eq n m)
  same_term-decides (t_bool a) (t_bool b) = decided-by (ap t_bool) (λ e. cc) (same_bool-decides a b)
  same_term-decides t_unit t_unit = (λ _. refl, λ _. refl)
  same_term-decides (t_prim o S ts at) (t_prim p T us bt) = four _ _ _ _ (λ e f g h. cc) (λ e. cc) (λ e. cc) (λ e. cc) (λ e. cc) (same_op-decides o p) (same_sort-decides S T) (same_terms-decide ts us) (nat_eq-decides at bt)
  same_term-decides (t_if c t u) (t_if d v w) = three _ _ _ (λ e f g. cc) (λ e. cc) (λ e. cc) (λ e. cc) (same_term-decides c d) (same_term-decides t v) (same_term-decides u w)
  same_term-decides (t_app k S ts) (t_app l T us) = three _ _ _ (λ e f g. cc) (λ e. cc) (λ e. cc) (λ e. cc) (nat_eq-decides k l) (same_sort-decides S T) (same_terms-decide ts us)
  same_term-decides (t_let x t u) (t_let y v w) = three _ _ _ (λ e f g. cc) (λ e. cc) (λ e. cc) (λ e. cc) (bytes_eq-Decides x y) (same_term-decides t v) (same_term-decides u w)
  same_term-decides t u = decided-no refl (λ e. cc)

  same_terms-decide : (ts us : Tms) → Decides (same_terms ts us) (ts ≡ us)
  same_terms-decide t_end t_end = (λ _. refl, λ _. refl)
  same_terms-decide (t_more t ts) (t_more u us) = decided-both _ _ (λ e f. ap₂ t_more e f) (λ e. cc) (λ e. cc) (same_term-decides t u) (same_terms-decide ts us)
  same_terms-decide ts us = decided-no refl (λ e. cc)

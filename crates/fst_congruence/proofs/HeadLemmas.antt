-- Terms of one kind have one head and one sort; numbers of terms.
use Rattle.std.proofs.Common.{◌≡◌, ℕ, zero, suc, ◌+◌, ◌-◌, ◌<◌, Bool, true, false, if◌then◌else◌, nat_eq, List, [], ◌∷◌, length, get_or, map, refl, sym, ap, subst, ap₂, ◌∙◌, arith, Decides}
use Rattle.std.proofs.lemmas.Bool.Decides.{same_from_decides}
use Rattle.std.proofs.lemmas.Bool.{eq-eqb, eqb-true}
use Rattle.std.proofs.lemmas.List.{length-map, get_or-map}
use Rattle.fst_base.proofs.DecideLemmas.{decided-both, decided-by}
use Rattle.fst_base.proofs.SortLemmas.{same_sort-decides}
use Rattle.fst_terms.specs.Terms.{Tm, t_unit, t_prim, t_app}
use Rattle.fst_terms.specs.Same.{same_term}
use Rattle.fst_terms.proofs.SameLemmas.{same_op-decides, same_term-decides}
use Rattle.fst_congruence.specs.declared.node.Node.{Node}
use Rattle.fst_congruence.specs.Joined.{node_at, arg_at, arity}
use Rattle.fst_congruence.specs.Numbered.{arguments, constructor_of, same_head, first_place, number_of, kind_of, node_of, nodes_of}
use Rattle.fst_congruence.specs.Numbered.{head_op, head_function, head_term, head_of, term_at, IsNumber, IsComplete, IsOnce, HaveArities}
use Rattle.fst_congruence.specs.Steps.{SameArities}

pub nat_eq-decides : (i j : ℕ) → Decides (nat_eq i j) (i ≡ j)
nat_eq-decides i j = (eqb-true i j, eq-eqb i j)

heads-of-terms : (t u : Tm) → head_of t ≡ head_term t → head_of u ≡ head_term u → Decides (same_term t u) (head_of t ≡ head_of u)
heads-of-terms t u p q = (λ e. p ∙ ap head_term ((same_term-decides t u).0 e) ∙ sym q, λ e. (same_term-decides t u).1 (inside (sym p ∙ e ∙ q)))
  where
    inside : head_term t ≡ head_term u → t ≡ u
    inside e = cc

-- the test of heads
pub same_head-decides : (t u : Tm) → Decides (same_head t u) (head_of t ≡ head_of u)
same_head-decides (t_prim o S ts at) (t_prim p R us bt) = decided-both _ _ (λ e f. ap₂ head_op e f) (λ e. cc) (λ e. cc) (same_op-decides o p) (same_sort-decides S R)
same_head-decides (t_prim o S ts at) u = (λ e. cc, λ e. cc)
same_head-decides (t_app k S ts) (t_app l R us) = decided-both _ _ (λ e f. ap₂ head_function e f) (λ e. cc) (λ e. cc) (nat_eq-decides k l) (same_sort-decides S R)
same_head-decides (t_app k S ts) u = (λ e. cc, λ e. cc)
same_head-decides t (t_prim o S ts at) = (λ e. cc, λ e. cc)
same_head-decides t (t_app k S ts) = (λ e. cc, λ e. cc)
same_head-decides t u = heads-of-terms t u refl refl

-- ---- the first place that passes a test

-- a place that passes is not after the first one
pub record Hit (p : Tm → Bool) (i : ℕ) (us : List Tm) : Type 0 where
  pub at : ℕ
  pub within : at < length us
  pub is : first_place p i us ≡ i + at
  pub passes : (d : Tm) → p (get_or us at d) ≡ true

pub place-hit : (p : Tm → Bool) (i : ℕ) (us : List Tm) (k : ℕ) (d : Tm) → k < length us → p (get_or us k d) ≡ true → Hit p i us
place-hit p i [] k d lt h = absurd (omega (arith, lt))
place-hit p i (u ∷ us) zero d lt h = record { at = 0; within = omega arith; is = ap (λ b. if b then i else first_place p (i + 1) us) h ∙ (let same : i ≡ i + 0 = omega arith in same); passes = λ e. h }
place-hit p i (u ∷ us) (suc k) d lt h = go (p u) refl (place-hit p (i + 1) us k d (omega (arith, lt)) h)
  where
    go : (b : Bool) → p u ≡ b → Hit p (i + 1) us → Hit p i (u ∷ us)
    go true e later = record { at = 0; within = omega arith; is = ap (λ b. if b then i else first_place p (i + 1) us) e ∙ (let same : i ≡ i + 0 = omega arith in same); passes = λ e2. e }
    go false e later = record {
      at = suc later.at;
      within = omega (arith, later.within);
      is = ap (λ b. if b then i else first_place p (i + 1) us) e ∙ later.is ∙ (let same : i + 1 + later.at ≡ i + suc later.at = omega arith in same);
      passes = later.passes;
    }

-- ---- nodes of numbered terms

pub numbered-node : (ts : List Tm) (i : ℕ) → IsNumber ts i → node_at (nodes_of ts) i ≡ node_of ts (term_at ts i)
numbered-node ts zero h = absurd (omega (arith, h.counted))
numbered-node ts (suc j) h =
    let back : j ≡ suc j - 1 = omega arith in
    get_or-map (node_of ts) ts j t_unit _ (omega (arith, h.within)) ∙ ap (λ m. node_of ts (get_or ts m t_unit)) back

abbrev pub KindHit : List Tm → ℕ → Type 0
KindHit ts i = Hit (same_head (term_at ts i)) 1 ts

pub kind-hit : (ts : List Tm) (i : ℕ) → IsNumber ts i → KindHit ts i
kind-hit ts i h = place-hit (same_head (term_at ts i)) 1 ts (i - 1) t_unit (omega (arith, h.counted, h.within)) ((same_head-decides (term_at ts i) (term_at ts i)).1 refl)

pub kind-is : (ts : List Tm) (i : ℕ) → (h : IsNumber ts i) → (node_at (nodes_of ts) i).kind ≡ 1 + (kind-hit ts i h).at
kind-is ts i h = ap (λ (n : Node). n.kind) (numbered-node ts i h) ∙ (kind-hit ts i h).is

-- the kind of a numbered term is above 0, and only numbered terms have such a kind
pub kind-above : (ts : List Tm) (i : ℕ) → IsNumber ts i → 0 < (node_at (nodes_of ts) i).kind
kind-above ts i h = let is = kind-is ts i h in omega (arith, is)

pub number-from-kind : (ts : List Tm) (i : ℕ) → i < length (nodes_of ts) → 0 < (node_at (nodes_of ts) i).kind → IsNumber ts i
number-from-kind ts zero lt h = absurd (omega (arith, h))
number-from-kind ts (suc j) lt h = let more : length (map (node_of ts) ts) ≡ length ts = length-map ts (node_of ts) in record { counted = omega arith; within = omega (arith, lt, more) }

pub number-from-constructor : (ts : List Tm) (i : ℕ) → i < length (nodes_of ts) → 0 < (node_at (nodes_of ts) i).constructor → IsNumber ts i
number-from-constructor ts zero lt h = absurd (omega (arith, h))
number-from-constructor ts (suc j) lt h = let more : length (map (node_of ts) ts) ≡ length ts = length-map ts (node_of ts) in record { counted = omega arith; within = omega (arith, lt, more) }

-- terms of one kind have one head and one sort
pub kinds-heads : (ts : List Tm) (i j : ℕ) → IsNumber ts i → IsNumber ts j → (node_at (nodes_of ts) i).kind ≡ (node_at (nodes_of ts) j).kind → head_of (term_at ts i) ≡ head_of (term_at ts j)
kinds-heads ts i j h g e =
    let first = kind-hit ts i h in
    let second = kind-hit ts j g in
    let same : first.at ≡ second.at = (let is = kind-is ts i h in let other = kind-is ts j g in omega (arith, is, other, e)) in
    (same_head-decides (term_at ts i) (get_or ts first.at t_unit)).0 (first.passes t_unit)
    ∙ ap (λ k. head_of (get_or ts k t_unit)) same
    ∙ sym ((same_head-decides (term_at ts j) (get_or ts second.at t_unit)).0 (second.passes t_unit))

pub arity-is-arguments : (ts : List Tm) (i : ℕ) → IsNumber ts i → arity (nodes_of ts) i ≡ length (arguments (term_at ts i))
arity-is-arguments ts i h = ap (λ (n : Node). length n.args) (numbered-node ts i h) ∙ length-map (arguments (term_at ts i)) (number_of ts)

pub arg-number : (ts : List Tm) (i k : ℕ) → IsNumber ts i → k < length (arguments (term_at ts i)) → arg_at (nodes_of ts) i k ≡ number_of ts (get_or (arguments (term_at ts i)) k t_unit)
arg-number ts i k h lt = ap (λ (n : Node). get_or n.args k 0) (numbered-node ts i h) ∙ get_or-map (number_of ts) (arguments (term_at ts i)) k t_unit 0 lt

-- the term of the number of a numbered term
pub term-of-number : (ts : List Tm) (j : ℕ) (u : Tm) → IsNumber ts j → term_at ts j ≡ u → term_at ts (number_of ts u) ≡ u
term-of-number ts j u h e =
    let hit : Hit (same_term u) 1 ts = place-hit (same_term u) 1 ts (j - 1) t_unit (omega (arith, h.counted, h.within)) ((same_term-decides u (term_at ts j)).1 (sym e)) in
    let back : 1 + hit.at - 1 ≡ hit.at = omega arith in
    ap (term_at ts) hit.is ∙ ap (λ m. get_or ts m t_unit) back ∙ sym ((same_term-decides u (get_or ts hit.at t_unit)).0 (hit.passes t_unit))

pub arg-term : (ts : List Tm) → IsComplete ts → (i k : ℕ) → IsNumber ts i → k < length (arguments (term_at ts i)) → term_at ts (arg_at (nodes_of ts) i k) ≡ get_or (arguments (term_at ts i)) k t_unit
arg-term ts c i k h lt =
    let at = c i k h lt in
    ap (term_at ts) (arg-number ts i k h lt) ∙ term-of-number ts at.0 _ at.1.0 at.1.1

-- ---- one head and one sort, one kind

pub place-same : (p q : Tm → Bool) (i : ℕ) (us : List Tm) → ((u : Tm) → p u ≡ q u) → first_place p i us ≡ first_place q i us
place-same p q i [] f = refl
place-same p q i (u ∷ us) f = ap (λ b. if b then i else first_place p (i + 1) us) (f u) ∙ ap (λ m. if q u then i else m) (place-same p q (i + 1) us f)

same-tests : (t u v : Tm) → head_of t ≡ head_of u → same_head t v ≡ same_head u v
same-tests t u v e = same_from_decides _ _ (same_head-decides t v) (decided-by (λ f. e ∙ f) (λ f. sym e ∙ f) (same_head-decides u v))

pub heads-kinds : (ts : List Tm) (i j : ℕ) → IsNumber ts i → IsNumber ts j → head_of (term_at ts i) ≡ head_of (term_at ts j) → (node_at (nodes_of ts) i).kind ≡ (node_at (nodes_of ts) j).kind
heads-kinds ts i j h g e =
    ap (λ (n : Node). n.kind) (numbered-node ts i h)
    ∙ place-same (same_head (term_at ts i)) (same_head (term_at ts j)) 1 ts (λ v. same-tests (term_at ts i) (term_at ts j) v e)
    ∙ sym (ap (λ (n : Node). n.kind) (numbered-node ts j g))

-- ---- the table

pub constructor-terms : (ts : List Tm) (i : ℕ) → IsNumber ts i → (node_at (nodes_of ts) i).constructor ≡ constructor_of (term_at ts i)
constructor-terms ts i h = ap (λ (n : Node). n.constructor) (numbered-node ts i h)

pub table-arities : (ts : List Tm) → HaveArities ts → SameArities (nodes_of ts)
table-arities ts h i j p q s =
    let n = number-from-constructor ts i p s.some in
    let m = number-from-constructor ts j q (subst (λ k. 0 < k) s.same s.some) in
    arity-is-arguments ts i n ∙ h i j n m (subst (λ k. 0 < k) (constructor-terms ts i n) s.some) (sym (constructor-terms ts i n) ∙ s.same ∙ constructor-terms ts j m) ∙ sym (arity-is-arguments ts j m)

-- ---- guesses that are right

-- a number of a term is the one that is found, where no term has two
pub number-is : (ts : List Tm) (n : ℕ) (t : Tm) → IsOnce ts → IsNumber ts n → term_at ts n ≡ t → number_of ts t ≡ n
number-is ts n t once h e =
    let hit : Hit (same_term t) 1 ts = place-hit (same_term t) 1 ts (n - 1) t_unit (omega (arith, h.counted, h.within)) ((same_term-decides t (term_at ts n)).1 (sym e)) in
    let found : IsNumber ts (number_of ts t) = record { counted = omega (arith, hit.is); within = omega (arith, hit.is, hit.within) } in
    once (number_of ts t) n found h (term-of-number ts n t h e ∙ sym e)

-- a term that is its own head has its own number
pub kind-itself : (ts : List Tm) (n : ℕ) (t : Tm) → IsOnce ts → IsNumber ts n → term_at ts n ≡ t → head_of t ≡ head_term t → kind_of ts t ≡ n
kind-itself ts n t once h e p = place-same (same_head t) (same_term t) 1 ts (λ u. same_from_decides _ _ (same_head-decides t u) (own t u p)) ∙ number-is ts n t once h e
  where
    own : (t u : Tm) → head_of t ≡ head_term t → Decides (same_term t u) (head_of t ≡ head_of u)
    own t u p = (λ e. ap head_of ((same_term-decides t u).0 e), λ e. (same_term-decides t u).1 (other u (sym p ∙ e)))
      where
        other : (u : Tm) → head_term t ≡ head_of u → t ≡ u
        other (t_prim o S us at) f = cc
        other (t_app k S us) f = cc
        other u f = cc

-- two terms of one head have one kind
pub kind-like : (ts : List Tm) (t u : Tm) → same_head t u ≡ true → kind_of ts t ≡ kind_of ts u
kind-like ts t u e = place-same (same_head t) (same_head u) 1 ts (λ v. same-tests t u v ((same_head-decides t u).0 e))

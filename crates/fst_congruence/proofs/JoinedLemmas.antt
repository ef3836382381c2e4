-- Two numbers are joined under the equations of a marking exactly where their terms are joined under the marking.
use Rattle.std.proofs.Common.{◌≡◌, ◌↔◌, ℕ, zero, suc, ◌+◌, ◌-◌, ◌<◌, ◌≤◌, ◌⊎◌, inl, inr, Bool, true, false, not, ◌&&◌, ◌||◌, if◌then◌else◌, List, [], ◌∷◌, length, get_or, Some, refl, sym, ap, subst, ◌∙◌, arith}
use Rattle.std.specs.Prelude.{IsTrue}
use Rattle.std.proofs.lemmas.Bool.{false≢true, cases_lt}
use Rattle.std.proofs.Math.ListN.{get_or-eq_default}
use Rattle.fst_base.specs.Sorts.{Srt, s_unit, s_pair, same_sort}
use Rattle.fst_base.proofs.SortLemmas.{same_sort-decides}
use Rattle.fst_base.specs.Rows.{same_op}
use Rattle.fst_terms.specs.Terms.{Tm, Tms, t_bool, t_unit, t_prim, t_app, t_end, t_more, listed}
use Rattle.fst_terms.specs.Formulas.{sort_of}
use Rattle.fst_terms.specs.Flats.{Flt, truth_of}
use Rattle.fst_terms.specs.Same.{same_term, is_among}
use Rattle.fst_terms.specs.declared.flat.Mark.{Mark}
use Rattle.fst_terms.specs.declared.flat.Mark.TheVariants as mark
use Rattle.fst_terms.specs.Skeletons.{args_of, arg_of, rest_of}
use Rattle.fst_terms.specs.DataFacts.{same_head}
use Rattle.fst_terms.specs.Marks.{Marking, at_number, var_sorts, is_equation, is_at_most}
use Rattle.fst_terms.specs.Branches as branch
use Rattle.fst_terms.specs.Branches.{IsNumbered, nth_arg, HasMark, same_constructor, eta_pair, pair_at, JoinedArgs, joined_self, joined_flip, joined_chain, joined_equation, joined_truth, joined_pair, joined_unit, joined_args, joined_part, args_end, args_more}
use Rattle.fst_terms.proofs.SameLemmas.{same_op-decides, same_term-decides}
use Rattle.fst_cert.specs.declared.line.Line.{Line}
use Rattle.fst_cert.specs.declared.line.Line.TheVariants as line
use Rattle.fst_cert.specs.Proving.{only_if, on, Eqn, eqn, equation_of_mark, one_head, equation_by}
use Rattle.fst_cert.proofs.EquationTruths.{on-inv, only-inv, both-true}
use Rattle.fst_congruence.specs.declared.equation.Equation.{Equation}
use Rattle.fst_congruence.specs.Joined as numbers
use Rattle.fst_congruence.specs.Joined.{node_at, arg_at, arity, Alike, SameConstructor}
use Rattle.fst_congruence.specs.Closures.{IsGivenLine}
use Rattle.fst_congruence.specs.Numbered.{constructor_of, arguments, nodes_of, head_op, head_function, head_of, term_at, IsNumber, IsNumbering}
use Rattle.fst_congruence.specs.Explained.{AreEquations}
use Rattle.fst_congruence.proofs.ClosedLemmas.{constructor-within}
use Rattle.fst_congruence.proofs.HeadLemmas.{Hit, place-hit, constructor-terms, kind-above, number-from-kind, number-from-constructor, kinds-heads, heads-kinds, arity-is-arguments, arg-number, arg-term, nat_eq-decides}
use Rattle.fst_congruence.proofs.MakerLemmas.{same-constructor, constructor-same}
use Rattle.fst_congruence.proofs.NumberedLemmas.{nodes-count}
use Rattle.fst_congruence.proofs.GivenLemmas.{one-head, on-some, only-on, term-numbered, same-on}

-- ---- numbered terms and their numbers

pub number-among : (ts : List Tm) (k : ℕ) (t : Tm) → k < length ts → get_or ts k t_unit ≡ t → IsTrue (is_among t ts)
number-among [] k t lt e = absurd (omega (arith, lt))
number-among (u ∷ us) zero t lt e = rw (same-on t u (sym e)) refl
number-among (u ∷ us) (suc k) t lt e = go (same_term t u) (number-among us k t (omega (arith, lt)) e)
  where
    go : (b : Bool) → IsTrue (is_among t us) → IsTrue (if b then true else is_among t us)
    go true h = refl
    go false h = h

pub among-number : (ts : List Tm) (t : Tm) → IsTrue (is_among t ts) → (k : ℕ) × ((k < length ts) × (get_or ts k t_unit ≡ t))
among-number [] t h = absurd (false≢true h)
among-number (u ∷ us) t h = go (same_term t u) refl h (among-number us t)
  where
    go : (b : Bool) → same_term t u ≡ b → IsTrue (if b then true else is_among t us) → (IsTrue (is_among t us) → (k : ℕ) × ((k < length us) × (get_or us k t_unit ≡ t))) → (k : ℕ) × ((k < length (u ∷ us)) × (get_or (u ∷ us) k t_unit ≡ t))
    go true e g later = (0, (omega arith, sym ((same_term-decides t u).0 e)))
    go false e g later = let at = later g in (suc at.0, (omega (arith, at.1.0), at.1.1))

pub numbered-among : (f : Flt) (i : ℕ) → IsNumber f.terms i → IsNumbered f (term_at f.terms i)
numbered-among f i h = number-among f.terms (i - 1) (term_at f.terms i) (let p = h.counted in let q = h.within in omega (arith, p, q)) refl

pub numbered-number : (f : Flt) (t : Tm) → IsNumbered f t → (i : ℕ) × (IsNumber f.terms i × (term_at f.terms i ≡ t))
numbered-number f t h =
    let at = among-number f.terms t h in
    let back : suc at.0 - 1 ≡ at.0 = omega arith in
    (suc at.0, (record { counted = omega arith; within = (let lt = at.1.0 in omega (arith, lt)) }, ap (λ k. get_or f.terms k t_unit) back ∙ at.1.1))

-- ---- heads

-- two terms of one head and one sort, as the relation on terms says it; variables and literals are the same term
head-cases : (t u : Tm) → one_head t u ≡ true → IsTrue (same_head t u) ⊎ (t ≡ u)
head-cases t u h = go (same_head t u) refl h
  where
    go : (b : Bool) → same_head t u ≡ b → (b || same_term t u) ≡ true → IsTrue (same_head t u) ⊎ (t ≡ u)
    go true e g = inl e
    go false e g = inr ((same_term-decides t u).0 g)

heads-same : (t u : Tm) → IsTrue (same_head t u) → head_of t ≡ head_of u
heads-same (t_prim o S ts at) (t_prim p R us bt) h =
    let w = both-true (same_op o p) (same_sort S R) h in
    ap (λ q. head_op q S) ((same_op-decides o p).0 w.0) ∙ ap (λ T. head_op p T) ((same_sort-decides S R).0 w.1)
heads-same (t_app k S ts) (t_app l R us) h =
    let w = both-true _ (same_sort S R) h in
    ap (λ q. head_function q S) ((nat_eq-decides k l).0 w.0) ∙ ap (λ T. head_function l T) ((same_sort-decides S R).0 w.1)
heads-same t u h = absurd (false≢true h)

-- ---- arguments

args-joined : (f : Flt) (look : Marking) (ts us : Tms) → length (listed ts) ≡ length (listed us) → ((k : ℕ) → k < length (listed ts) → branch.Joined f look (get_or (listed ts) k t_unit) (get_or (listed us) k t_unit)) → JoinedArgs f look ts us
args-joined f look t_end t_end e h = args_end
args-joined f look t_end (t_more u us) e h = absurd (omega (arith, e))
args-joined f look (t_more t ts) t_end e h = absurd (omega (arith, e))
args-joined f look (t_more t ts) (t_more u us) e h = args_more (h 0 (omega arith)) (args-joined f look ts us (omega (arith, e)) (λ k lt. h (suc k) (omega (arith, lt))))

module _ (f : Flt) (look : Marking) where
  abbrev Ss : List Srt
  Ss = var_sorts f

  -- ---- what lines that stand by themselves give is joined

  true-mark : (m : Mark) → truth_of m ≡ true → m ≡ mark.True
  true-mark mark.True e = refl
  true-mark m e = absurd (false≢true e)

  sides-joined : (a : ℕ) (t : Tm) (m : Mark) (x y : Tm) → at_number f.atoms a ≡ Some t → look a ≡ Some m → equation_of_mark t m ≡ Some (eqn x y) → branch.Joined f look x y
  sides-joined a t m x y p q h = go (is_equation t) refl h
    where
      ends : {t u : Tm} → eqn t u ≡ eqn x y → branch.Joined f look t u → branch.Joined f look x y
      ends {t} {u} e j = subst (λ (d : Eqn). branch.Joined f look d.left d.right) e j

      go : (b : Bool) → is_equation t ≡ b → (if b then only_if (truth_of m) (eqn (arg_of t) (rest_of t)) else only_if (not (is_at_most t)) (eqn t (t_bool (truth_of m)))) ≡ Some (eqn x y) → branch.Joined f look x y
      go true e k =
          let w = only-inv (truth_of m) (eqn (arg_of t) (rest_of t)) (eqn x y) k in
          ends w.1 (joined_equation {a = a} {t = t} (record { atom = p; mark = q ∙ ap Some (true-mark m w.0) }) e)
      go false e k =
          let w = only-inv (not (is_at_most t)) (eqn t (t_bool (truth_of m))) (eqn x y) k in
          let apart : (not (is_equation t) && not (is_at_most t)) ≡ true = rw (e, w.0) refl in
          ends w.1 (joined_truth {a = a} {t = t} {m = m} (record { atom = p; mark = q }) apart)

  pair-joined : (t : Tm) (S : Srt) (x y : Tm) → IsNumbered f t → sort_of Ss t ≡ S → on (pair_at S t) (λ p. only_if (is_among p f.terms) (eqn t p)) ≡ Some (eqn x y) → branch.Joined f look x y
  pair-joined t (s_pair S T) x y n e h =
      let w = only-inv (is_among (eta_pair S T t) f.terms) (eqn t (eta_pair S T t)) (eqn x y) h in
      subst (λ (d : Eqn). branch.Joined f look d.left d.right) w.1 (joined_pair n e w.0)
  pair-joined t S x y n e h = cc

  unit-joined : (t x y : Tm) → IsNumbered f t → only_if (same_sort (sort_of Ss t) s_unit) (eqn t t_unit) ≡ Some (eqn x y) → branch.Joined f look x y
  unit-joined t x y n h =
      let w = only-inv (same_sort (sort_of Ss t) s_unit) (eqn t t_unit) (eqn x y) h in
      subst (λ (d : Eqn). branch.Joined f look d.left d.right) w.1 (joined_unit n ((same_sort-decides (sort_of Ss t) s_unit).0 w.0))

  at-numbered : (n : ℕ) (t : Tm) → at_number f.terms n ≡ Some t → IsNumbered f t
  at-numbered zero t e = cc
  at-numbered (suc n) t e = go f.terms n e
    where
      go : (ts : List Tm) (n : ℕ) → at_number ts (suc n) ≡ Some t → IsTrue (is_among t ts)
      go [] n e = cc
      go (u ∷ us) zero e = rw (same-on t u (let is : u ≡ t = cc in sym is)) refl
      go (u ∷ us) (suc n) e = later (same_term t u) (go us n e)
        where
          later : (b : Bool) → IsTrue (is_among t us) → IsTrue (if b then true else is_among t us)
          later true h = refl
          later false h = h

  given-joined : (l : Line) (x y : Tm) → IsGivenLine l → equation_by f look [] l ≡ Some (eqn x y) → branch.Joined f look x y
  given-joined (line.Given a) x y g h =
      let w = on-inv (at_number f.atoms a) (λ t. on (look a) (equation_of_mark t)) (eqn x y) h in
      let v = on-inv (look a) (equation_of_mark w.0) (eqn x y) w.1.1 in
      sides-joined a w.0 v.0 x y w.1.0 v.1.0 v.1.1
  given-joined (line.Eta n) x y g h =
      let w = on-inv (at_number f.terms n) (λ t. on (pair_at (sort_of Ss t) t) (λ p. only_if (is_among p f.terms) (eqn t p))) (eqn x y) h in
      pair-joined w.0 (sort_of Ss w.0) x y (at-numbered n w.0 w.1.0) refl w.1.1
  given-joined (line.Unit n) x y g h =
      let w = on-inv (at_number f.terms n) (λ t. only_if (same_sort (sort_of Ss t) s_unit) (eqn t t_unit)) (eqn x y) h in
      unit-joined w.0 x y (at-numbered n w.0 w.1.0) w.1.1
  given-joined l x y g h = absurd g

  module _ (es : List Equation) (is : IsNumbering f.terms) (equations : AreEquations f look es) where
    abbrev ts : List Tm
    ts = f.terms

    -- arguments of two numbered terms, by their numbers
    whole-joined : (x y : ℕ) → IsNumber ts x → IsNumber ts y → one_head (term_at ts x) (term_at ts y) ≡ true → length (arguments (term_at ts x)) ≡ length (arguments (term_at ts y))
        → ((k : ℕ) → k < length (arguments (term_at ts x)) → branch.Joined f look (nth_arg (term_at ts x) k) (nth_arg (term_at ts y) k)) → branch.Joined f look (term_at ts x) (term_at ts y)
    whole-joined x y p q head count h = go (head-cases _ _ head)
      where
        go : IsTrue (same_head (term_at ts x) (term_at ts y)) ⊎ (term_at ts x ≡ term_at ts y) → branch.Joined f look (term_at ts x) (term_at ts y)
        go (inl same) = joined_args (numbered-among f x p) (numbered-among f y q) same (args-joined f look (args_of (term_at ts x)) (args_of (term_at ts y)) count h)
        go (inr e) = subst (λ t. branch.Joined f look (term_at ts x) t) e joined_self

    to-terms : (i j : ℕ) → numbers.Joined (nodes_of ts) es i j → branch.Joined f look (term_at ts i) (term_at ts j)
    to-terms i j numbers.joined_same = joined_self
    to-terms i j (numbers.joined_flip h) = joined_flip (to-terms _ _ h)
    to-terms i j (numbers.joined_chain h g) = joined_chain (to-terms _ _ h) (to-terms _ _ g)
    to-terms i j (numbers.joined_given e h) = given-joined e.by _ _ (equations.lines e h) (equations.given e h)
    to-terms i j (numbers.joined_args {i = x} {j = y} a h) =
        let first : IsNumber ts x = number-from-kind ts x a.first a.some in
        let second : IsNumber ts y = number-from-kind ts y a.second (subst (λ n. 0 < n) a.kind a.some) in
        let size : arity (nodes_of ts) x ≡ length (arguments (term_at ts x)) = arity-is-arguments ts x first in
        let width : arity (nodes_of ts) y ≡ length (arguments (term_at ts y)) = arity-is-arguments ts y second in
        whole-joined x y first second (one-head _ _ (kinds-heads ts x y first second a.kind)) (sym size ∙ a.arity ∙ width)
        (λ k lt.
        (let beside : k < length (arguments (term_at ts y)) = omega (arith, lt, size, width, a.arity) in
        subst (λ u. branch.Joined f look u (nth_arg (term_at ts y) k)) (arg-term ts is.complete x k first lt)
        (subst (λ u. branch.Joined f look (term_at ts (arg_at (nodes_of ts) x k)) u) (arg-term ts is.complete y k second beside) (to-terms _ _ (h k (omega (arith, lt, size)))))))
    to-terms i j (numbers.joined_part {i = x} {j = y} h s k p q) =
        let also : 0 < (node_at (nodes_of ts) y).constructor = subst (λ n. 0 < n) s.same s.some in
        let first : IsNumber ts x = number-from-constructor ts x (constructor-within (nodes_of ts) x s.some) s.some in
        let second : IsNumber ts y = number-from-constructor ts y (constructor-within (nodes_of ts) y also) also in
        let size : arity (nodes_of ts) x ≡ length (arguments (term_at ts x)) = arity-is-arguments ts x first in
        let width : arity (nodes_of ts) y ≡ length (arguments (term_at ts y)) = arity-is-arguments ts y second in
        let below : k < length (arguments (term_at ts x)) = omega (arith, p, size) in
        let beside : k < length (arguments (term_at ts y)) = omega (arith, q, width) in
        let same = same-constructor (term_at ts x) (term_at ts y) (subst (λ n. 0 < n) (constructor-terms ts x first) s.some) (sym (constructor-terms ts x first) ∙ s.same ∙ constructor-terms ts y second) (omega (arith, below)) in
        subst (λ u. branch.Joined f look u (term_at ts (arg_at (nodes_of ts) y k))) (sym (arg-term ts is.complete x k first below))
        (subst (λ u. branch.Joined f look (nth_arg (term_at ts x) k) u) (sym (arg-term ts is.complete y k second beside))
        (joined_part k (numbered-among f x first) (numbered-among f y second) same (to-terms x y h)))

    -- ---- and back

    -- two terms that are joined by their numbers
    record ByNumbers (x y : Tm) : Type 0 where
      left : ℕ
      right : ℕ
      first : IsNumber ts left
      second : IsNumber ts right
      left_is : term_at ts left ≡ x
      right_is : term_at ts right ≡ y
      joined : numbers.Joined (nodes_of ts) es left right

    abbrev Back : Tm → Tm → Type 0
    Back x y = (x ≡ y) ⊎ ByNumbers x y

    flip-back : (x y : Tm) → Back x y → Back y x
    flip-back x y (inl e) = inl (sym e)
    flip-back x y (inr n) = inr (record { left = n.right; right = n.left; first = n.second; second = n.first; left_is = n.right_is; right_is = n.left_is; joined = numbers.joined_flip n.joined })

    chain-back : (x y z : Tm) → Back x y → Back y z → Back x z
    chain-back x y z (inl e) b = subst (λ u. Back u z) (sym e) b
    chain-back x y z (inr n) (inl e) = subst (λ u. Back x u) e (inr n)
    chain-back x y z (inr n) (inr m) =
        let same : n.right ≡ m.left = is.once n.right m.left n.second m.first (n.right_is ∙ sym m.left_is) in
        inr (record { left = n.left; right = m.right; first = n.first; second = m.second; left_is = n.left_is; right_is = m.right_is; joined = numbers.joined_chain n.joined (subst (λ k. numbers.Joined (nodes_of ts) es k m.right) (sym same) m.joined) })

    -- numbers whose terms are joined by numbers are joined
    joined-back : (a b : ℕ) → IsNumber ts a → IsNumber ts b → Back (term_at ts a) (term_at ts b) → numbers.Joined (nodes_of ts) es a b
    joined-back a b p q (inl e) = subst (λ k. numbers.Joined (nodes_of ts) es a k) (is.once a b p q e) numbers.joined_same
    joined-back a b p q (inr n) = subst (λ k. numbers.Joined (nodes_of ts) es k b) (is.once n.left a n.first p n.left_is) (subst (λ k. numbers.Joined (nodes_of ts) es n.left k) (is.once n.right b n.second q n.right_is) n.joined)

    arg-numbered : (i k : ℕ) → IsNumber ts i → k < length (arguments (term_at ts i)) → IsNumber ts (arg_at (nodes_of ts) i k)
    arg-numbered i k h lt =
        let at = is.complete i k h lt in
        let hit : Hit (same_term (nth_arg (term_at ts i) k)) 1 ts = place-hit (same_term (nth_arg (term_at ts i) k)) 1 ts (at.0 - 1) t_unit (let n = at.1.0 in omega (arith, n.counted, n.within)) (same-on (nth_arg (term_at ts i) k) (term_at ts at.0) (sym at.1.1)) in
        let stands : arg_at (nodes_of ts) i k ≡ 1 + hit.at = arg-number ts i k h lt ∙ hit.is in
        record { counted = omega (arith, stands); within = omega (arith, stands, hit.within) }

    arg-back : (i j k : ℕ) (p : IsNumber ts i) (q : IsNumber ts j) → (below : k < length (arguments (term_at ts i))) → (beside : k < length (arguments (term_at ts j))) → Back (nth_arg (term_at ts i) k) (nth_arg (term_at ts j) k)
        → numbers.Joined (nodes_of ts) es (arg_at (nodes_of ts) i k) (arg_at (nodes_of ts) j k)
    arg-back i j k p q below beside h =
        joined-back _ _ (arg-numbered i k p below) (arg-numbered j k q beside)
        (subst (λ u. Back u (term_at ts (arg_at (nodes_of ts) j k))) (sym (arg-term ts is.complete i k p below)) (subst (λ u. Back (nth_arg (term_at ts i) k) u) (sym (arg-term ts is.complete j k q beside)) h))

    args-back : (t u : Tm) → IsNumbered f t → IsNumbered f u → head_of t ≡ head_of u → length (arguments t) ≡ length (arguments u) → ((k : ℕ) → k < length (arguments t) → Back (nth_arg t k) (nth_arg u k)) → Back t u
    args-back t u n m head count h =
        let left = numbered-number f t n in
        let right = numbered-number f u m in
        let i = left.0 in
        let j = right.0 in
        let p = left.1.0 in
        let q = right.1.0 in
        let t_is = left.1.1 in
        let u_is = right.1.1 in
        let size : arity (nodes_of ts) i ≡ length (arguments t) = arity-is-arguments ts i p ∙ ap (λ x. length (arguments x)) t_is in
        let width : arity (nodes_of ts) j ≡ length (arguments u) = arity-is-arguments ts j q ∙ ap (λ x. length (arguments x)) u_is in
        let all = nodes-count ts in
        let alike : Alike (nodes_of ts) i j = record { first = (let le = p.within in omega (arith, le, all)); second = (let le = q.within in omega (arith, le, all)); some = kind-above ts i p; kind = heads-kinds ts i j p q (ap head_of t_is ∙ head ∙ sym (ap head_of u_is)); arity = size ∙ count ∙ sym width } in
        inr (record {
          left = i;
          right = j;
          first = p;
          second = q;
          left_is = t_is;
          right_is = u_is;
          joined = numbers.joined_args alike (λ k lt.
              (let below : k < length (arguments t) = omega (arith, lt, size) in
              let beside : k < length (arguments u) = omega (arith, below, count) in
              arg-back i j k p q (subst (λ x. k < length (arguments x)) (sym t_is) below) (subst (λ x. k < length (arguments x)) (sym u_is) beside)
              (subst (λ x. Back (nth_arg x k) (nth_arg (term_at ts j) k)) (sym t_is) (subst (λ x. Back (nth_arg t k) (nth_arg x k)) (sym u_is) (h k below)))));
        })

    part-back : (t u : Tm) (k : ℕ) → IsNumbered f t → IsNumbered f u → same_constructor t u ≡ true → Back t u → Back (nth_arg t k) (nth_arg u k)
    part-back t u k n m same h =
        let left = numbered-number f t n in
        let right = numbered-number f u m in
        let i = left.0 in
        let j = right.0 in
        let p = left.1.0 in
        let q = right.1.0 in
        let t_is = left.1.1 in
        let u_is = right.1.1 in
        let number = constructor-same t u same in
        let some : 0 < constructor_of (term_at ts i) = subst (λ x. 0 < constructor_of x) (sym t_is) number.0 in
        let one : constructor_of (term_at ts i) ≡ constructor_of (term_at ts j) = ap constructor_of t_is ∙ number.1 ∙ sym (ap constructor_of u_is) in
        let count : length (arguments (term_at ts i)) ≡ length (arguments (term_at ts j)) = is.arities i j p q some one in
        let makes : SameConstructor (nodes_of ts) i j = record { some = subst (λ c. 0 < c) (sym (constructor-terms ts i p)) some; same = constructor-terms ts i p ∙ one ∙ sym (constructor-terms ts j q) } in
        let joined : numbers.Joined (nodes_of ts) es i j = joined-back i j p q (subst (λ x. Back x (term_at ts j)) (sym t_is) (subst (λ x. Back t x) (sym u_is) h)) in
        go i j p q t_is u_is count makes joined (cases_lt k (length (arguments (term_at ts i))))
      where
        go : (i j : ℕ) → IsNumber ts i → IsNumber ts j → term_at ts i ≡ t → term_at ts j ≡ u → length (arguments (term_at ts i)) ≡ length (arguments (term_at ts j)) → SameConstructor (nodes_of ts) i j → numbers.Joined (nodes_of ts) es i j
            → (k < length (arguments (term_at ts i))) ⊎ (length (arguments (term_at ts i)) ≤ k) → Back (nth_arg t k) (nth_arg u k)
        go i j p q t_is u_is count makes joined (inl below) =
            let beside : k < length (arguments (term_at ts j)) = omega (arith, below, count) in
            let size : arity (nodes_of ts) i ≡ length (arguments (term_at ts i)) = arity-is-arguments ts i p in
            let width : arity (nodes_of ts) j ≡ length (arguments (term_at ts j)) = arity-is-arguments ts j q in
            inr (record {
              left = arg_at (nodes_of ts) i k;
              right = arg_at (nodes_of ts) j k;
              first = arg-numbered i k p below;
              second = arg-numbered j k q beside;
              left_is = arg-term ts is.complete i k p below ∙ ap (λ x. nth_arg x k) t_is;
              right_is = arg-term ts is.complete j k q beside ∙ ap (λ x. nth_arg x k) u_is;
              joined = numbers.joined_part joined makes k (omega (arith, below, size)) (omega (arith, beside, width));
            })
        go i j p q t_is u_is count makes joined (inr past) =
            let beside : length (arguments (term_at ts j)) ≤ k = omega (arith, past, count) in
            inl (ap (λ x. nth_arg x k) (sym t_is) ∙ get_or-eq_default (arguments (term_at ts i)) t_unit past ∙ sym (get_or-eq_default (arguments (term_at ts j)) t_unit beside) ∙ ap (λ x. nth_arg x k) u_is)

    -- what a line gives that stands by itself
    given-back : (l : Line) (t u : Tm) → IsGivenLine l → equation_by f look [] l ≡ Some (eqn t u) → Back t u
    given-back l t u g h =
        let e = equations.all l t u g h in
        let sides = equations.numbered e.0 e.1.0 in
        inr (record { left = e.0.left; right = e.0.right; first = sides.0; second = sides.1; left_is = e.1.1.0; right_is = e.1.1.1; joined = numbers.joined_given e.0 e.1.0 })

    equation-mark : (t : Tm) (m : Mark) → is_equation t ≡ true → truth_of m ≡ true → equation_of_mark t m ≡ Some (eqn (arg_of t) (rest_of t))
    equation-mark t m p q = rw (p, q) refl

    truth-mark : (t : Tm) (m : Mark) → (not (is_equation t) && not (is_at_most t)) ≡ true → equation_of_mark t m ≡ Some (eqn t (t_bool (truth_of m)))
    truth-mark t m h = go (is_equation t) refl (both-true (not (is_equation t)) (not (is_at_most t)) h)
      where
        go : (b : Bool) → is_equation t ≡ b → (not (is_equation t) ≡ true) × (not (is_at_most t) ≡ true) → equation_of_mark t m ≡ Some (eqn t (t_bool (truth_of m)))
        go true e w = absurd (false≢true (sym (ap not e) ∙ w.0))
        go false e w = rw (e, w.1) refl

    mark-back : (a : ℕ) (t : Tm) (m : Mark) (x y : Tm) → HasMark f look a t m → equation_of_mark t m ≡ Some (eqn x y) → Back x y
    mark-back a t m x y h e = given-back (line.Given a) x y tt (on-some (at_number f.atoms a) t (λ u. on (look a) (equation_of_mark u)) h.atom ∙ on-some (look a) m (equation_of_mark t) h.mark ∙ e)

    pair-back : (t : Tm) (S T : Srt) → IsNumbered f t → sort_of Ss t ≡ s_pair S T → IsNumbered f (eta_pair S T t) → Back t (eta_pair S T t)
    pair-back t S T n e m =
        let left = numbered-number f t n in
        let at : at_number f.terms left.0 ≡ Some t = term-numbered ts left.0 left.1.0 ∙ ap Some left.1.1 in
        let pair : pair_at (sort_of Ss t) t ≡ Some (eta_pair S T t) = ap (λ R. pair_at R t) e in
        given-back (line.Eta left.0) t (eta_pair S T t) tt
        (on-some (at_number f.terms left.0) t (λ x. on (pair_at (sort_of Ss x) x) (λ p. only_if (is_among p f.terms) (eqn x p))) at
        ∙ on-some (pair_at (sort_of Ss t) t) (eta_pair S T t) (λ p. only_if (is_among p f.terms) (eqn t p)) pair ∙ only-on (is_among (eta_pair S T t) f.terms) (eqn t (eta_pair S T t)) m)

    unit-back : (t : Tm) → IsNumbered f t → sort_of Ss t ≡ s_unit → Back t t_unit
    unit-back t n e =
        let left = numbered-number f t n in
        let at : at_number f.terms left.0 ≡ Some t = term-numbered ts left.0 left.1.0 ∙ ap Some left.1.1 in
        given-back (line.Unit left.0) t t_unit tt
        (on-some (at_number f.terms left.0) t (λ x. only_if (same_sort (sort_of Ss x) s_unit) (eqn x t_unit)) at ∙ only-on (same_sort (sort_of Ss t) s_unit) (eqn t t_unit) ((same_sort-decides (sort_of Ss t) s_unit).1 e))

    more-back : (t u : Tm) (xs ys : Tms) → Back t u → ((k : ℕ) → k < length (listed xs) → Back (get_or (listed xs) k t_unit) (get_or (listed ys) k t_unit)) → (k : ℕ) → k < length (listed (t_more t xs)) → Back (get_or (listed (t_more t xs)) k t_unit) (get_or (listed (t_more u ys)) k t_unit)
    more-back t u xs ys h g zero lt = h
    more-back t u xs ys h g (suc k) lt = g k (omega (arith, lt))

    mutual
      from-terms : (x y : Tm) → branch.Joined f look x y → Back x y
      from-terms x y joined_self = inl refl
      from-terms x y (joined_flip h) = flip-back _ _ (from-terms _ _ h)
      from-terms x y (joined_chain h g) = chain-back _ _ _ (from-terms _ _ h) (from-terms _ _ g)
      from-terms x y (joined_equation {a} {t} h e) = mark-back a t mark.True _ _ h (equation-mark t mark.True e refl)
      from-terms x y (joined_truth {a} {t} {m} h e) = mark-back a t m _ _ h (truth-mark t m e)
      from-terms x y (joined_pair {t} {S} {T} n e m) = pair-back t S T n e m
      from-terms x y (joined_unit {t} n e) = unit-back t n e
      from-terms x y (joined_args {t} {u} n m same h) = (let args = from-args (args_of t) (args_of u) h in args-back t u n m (heads-same t u same) args.0 args.1)
      from-terms x y (joined_part {t} {u} k n m same h) = part-back t u k n m same (from-terms _ _ h)

      from-args : (xs ys : Tms) → JoinedArgs f look xs ys → (length (listed xs) ≡ length (listed ys)) × ((k : ℕ) → k < length (listed xs) → Back (get_or (listed xs) k t_unit) (get_or (listed ys) k t_unit))
      from-args xs ys args_end = (refl, λ k lt. absurd (omega (arith, lt)))
      from-args xs ys (args_more {t} {u} {ts = ps} {us = qs} h g) = (let rest = from-args ps qs g in (ap suc rest.0, more-back t u ps qs (from-terms t u h) rest.1))

    pub joined-terms : (i j : ℕ) → IsNumber ts i → IsNumber ts j → numbers.Joined (nodes_of ts) es i j ↔ branch.Joined f look (term_at ts i) (term_at ts j)
    joined-terms i j p q = (to-terms i j, λ h. joined-back i j p q (from-terms _ _ h))

-- Lines that hold over numbers hold over the terms of these numbers, by the rules of certificates.
use Rattle.std.proofs.Common.{◌≡◌, ℕ, zero, suc, ◌-◌, ◌<◌, ◌≤◌, ◌⊎◌, inl, inr, Bool, true, false, not, ◌&&◌, ◌||◌, List, [], ◌∷◌, ◌++◌, length, map, get_or, Option, Some, option_map, refl, sym, ap, subst, ◌∙◌, arith}
use Rattle.std.proofs.lemmas.List.{length-map, get_or-map, map-append}
use Rattle.std.proofs.lemmas.Option.{slice_get-get_or}
use Rattle.fst_base.proofs.SortLemmas.{same_sort-decides}
use Rattle.fst_terms.specs.Terms.{Tm, Tms, t_unit, t_prim, t_app, t_end, t_more, listed}
use Rattle.fst_terms.specs.Flats.{Flt}
use Rattle.fst_terms.specs.Same.{same_term}
use Rattle.fst_terms.specs.Skeletons.{args_of}
use Rattle.fst_terms.specs.Marks.{Marking, at_number}
use Rattle.fst_terms.proofs.SameLemmas.{same_op-decides, same_term-decides}
use Rattle.fst_cert.specs.declared.line.Line.{Line}
use Rattle.fst_cert.specs.declared.line.Line.TheVariants as line
use Rattle.fst_cert.specs.Proving.{only_if, on, holds, Eqn, eqn, is_eqn, are_reasons, one_head, equation_by}
use Rattle.fst_cert.proofs.EquationTruths.{on-inv}
use Rattle.fst_congruence.specs.declared.equation.Equation.{Equation}
use Rattle.fst_congruence.specs.declared.node.Node.{Node}
use Rattle.fst_congruence.specs.Joined.{node_at, arg_at, arity}
use Rattle.fst_congruence.specs.Lines.{At, StrictReason, ArgReasons, PartOf, Gives, Holds, Grown, grown_none, grown_more, Valid}
use Rattle.fst_congruence.specs.Closures.{IsGivenLine, GivenLines, Explains}
use Rattle.fst_congruence.specs.Numbered.{constructor_of, arguments, number_of, nodes_of, head_term, head_of, term_at, IsNumber, IsComplete}
use Rattle.fst_congruence.specs.Explained as explained
use Rattle.fst_congruence.specs.Explained.{equations_by, AreGiven}
use Rattle.fst_congruence.proofs.ClosedLemmas.{constructor-within}
use Rattle.fst_congruence.proofs.HeadLemmas.{constructor-terms, number-from-kind, number-from-constructor, kinds-heads, arity-is-arguments, arg-number, arg-term, nat_eq-decides}
use Rattle.fst_congruence.proofs.MakerLemmas.{same-constructor}

-- ---- tests

both-on : (a b : Bool) → a ≡ true → b ≡ true → (a && b) ≡ true
both-on a b p q = rw (p, q) refl

either-on : (a b : Bool) → (a ≡ true) ⊎ (b ≡ true) → (a || b) ≡ true
either-on true b h = refl
either-on false b (inl h) = cc
either-on false b (inr h) = h

unsame : (t u : Tm) → (t ≡ u → ⊥) → not (same_term t u) ≡ true
unsame t u n = go (same_term t u) refl
  where
    go : (b : Bool) → same_term t u ≡ b → not b ≡ true
    go true e = absurd (n ((same_term-decides t u).0 e))
    go false e = refl

pub same-on : (t u : Tm) → t ≡ u → same_term t u ≡ true
same-on t u e = (same_term-decides t u).1 e

pub on-some : {A B : Type 0} (o : Option A) (x : A) (g : A → Option B) → o ≡ Some x → on o g ≡ g x
on-some o x g e = ap (λ p. on p g) e

pub only-on : {A : Type 0} (b : Bool) (x : A) → b ≡ true → only_if b x ≡ Some x
only-on b x e = rw e refl

pub term-numbered : (ts : List Tm) (i : ℕ) → IsNumber ts i → at_number ts i ≡ Some (term_at ts i)
term-numbered ts zero h = absurd (omega (arith, h.counted))
term-numbered ts (suc n) h =
    let back : n ≡ suc n - 1 = omega arith in
    slice_get-get_or ts n t_unit (omega (arith, h.within)) ∙ ap (λ k. Some (get_or ts k t_unit)) back

terms-one : (t u : Tm) → head_of t ≡ head_term t → head_of u ≡ head_term u → head_of t ≡ head_of u → one_head t u ≡ true
terms-one t u p q e = either-on _ _ (inr (same-on t u (inside (sym p ∙ e ∙ q))))
  where
    inside : head_term t ≡ head_term u → t ≡ u
    inside f = cc

-- terms of one head and one sort
pub one-head : (t u : Tm) → head_of t ≡ head_of u → one_head t u ≡ true
one-head (t_prim o S ts at) (t_prim p R us bt) e = either-on _ _ (inl (both-on _ _ ((same_op-decides o p).1 cc) ((same_sort-decides S R).1 cc)))
one-head (t_prim o S ts at) u e = cc
one-head (t_app k S ts) (t_app l R us) e = either-on _ _ (inl (both-on _ _ ((nat_eq-decides k l).1 cc) ((same_sort-decides S R).1 cc)))
one-head (t_app k S ts) u e = cc
one-head t (t_prim o S ts at) e = cc
one-head t (t_app k S ts) e = cc
one-head t u e = terms-one t u refl refl e

-- ---- reasons

-- 0 where the two are the same term, else an equation of the two
abbrev ReasonAt : List Eqn → ℕ → Tm → Tm → Type 0
ReasonAt es r t u = ((r ≡ 0) × (t ≡ u)) ⊎ ((t ≡ u → ⊥) × (at_number es r ≡ Some (eqn t u)))

are-reasons : (es : List Eqn) (rs : List ℕ) (ts us : Tms) → length rs ≡ length (listed ts) → length (listed ts) ≡ length (listed us)
    → ((k : ℕ) → k < length rs → ReasonAt es (get_or rs k 0) (get_or (listed ts) k t_unit) (get_or (listed us) k t_unit)) → are_reasons es rs ts us ≡ true
are-reasons es [] t_end t_end p q h = refl
are-reasons es [] t_end (t_more u us) p q h = absurd (omega (arith, q))
are-reasons es [] (t_more t ts) us p q h = absurd (omega (arith, p))
are-reasons es (r ∷ rs) t_end us p q h = absurd (omega (arith, p))
are-reasons es (r ∷ rs) (t_more t ts) t_end p q h = absurd (omega (arith, q))
are-reasons es (zero ∷ rs) (t_more t ts) (t_more u us) p q h = both-on _ _ (same-on t u (here (h 0 (omega arith)))) (are-reasons es rs ts us (omega (arith, p)) (omega (arith, q)) (λ k lt. h (suc k) (omega (arith, lt))))
  where
    here : ReasonAt es zero t u → t ≡ u
    here (inl x) = x.1
    here (inr x) = (let e = x.1 in cc)
are-reasons es (suc n ∷ rs) (t_more t ts) (t_more u us) p q h = both-on _ _ (here (h 0 (omega arith))) (are-reasons es rs ts us (omega (arith, p)) (omega (arith, q)) (λ k lt. h (suc k) (omega (arith, lt))))
  where
    here : ReasonAt es (suc n) t u → (not (same_term t u) && holds (at_number es (suc n)) (is_eqn t u)) ≡ true
    here (inl x) = (let e = x.0 in absurd (omega (arith, e)))
    here (inr x) = both-on _ _ (unsame t u x.0) (ap (λ o. holds o (is_eqn t u)) x.1 ∙ both-on _ _ (same-on t t refl) (same-on u u refl))

-- ---- equations of numbers as equations of terms

abbrev pub terms_of : List Tm → Equation → Eqn
terms_of ts e = eqn (term_at ts e.left) (term_at ts e.right)

abbrev pub log_terms : List Tm → List Equation → List Eqn
log_terms ts log = map (terms_of ts) log

abbrev pub log_lines : List Equation → List Line
log_lines log = map (λ (e : Equation). e.by) log

at-gave : (ts : List Tm) (log : List Equation) (i x y : ℕ) → At log i x y → at_number (log_terms ts log) i ≡ Some (eqn (term_at ts x) (term_at ts y))
at-gave ts log zero x y h = absurd (omega (arith, h.counted))
at-gave ts log (suc n) x y h =
    let blank : Equation = record { left = 0; right = 0; by = line.Done } in
    let size : length (log_terms ts log) ≡ length log = length-map log (terms_of ts) in
    let below : n < length log = omega (arith, h.within) in
    let place : n ≡ suc n - 1 = omega arith in
    let left : (get_or log n blank).left ≡ x = ap (λ m. (get_or log m blank).left) place ∙ h.left blank in
    let right : (get_or log n blank).right ≡ y = ap (λ m. (get_or log m blank).right) place ∙ h.right blank in
    slice_get-get_or (log_terms ts log) n (terms_of ts blank) (omega (arith, below, size))
    ∙ ap Some (get_or-map (terms_of ts) log n blank (terms_of ts blank) below ∙ ap (λ z. eqn (term_at ts z) (term_at ts (get_or log n blank).right)) left ∙ ap (λ z. eqn (term_at ts x) (term_at ts z)) right)

module _ (f : Flt) (look : Marking) (complete : IsComplete f.terms) where
  abbrev ts : List Tm
  ts = f.terms

  -- a reason for two numbers is one for the terms that have them
  strict-terms : (log : List Equation) (r a b : ℕ) (u v : Tm) → term_at ts a ≡ u → term_at ts b ≡ v → a ≡ number_of ts u → b ≡ number_of ts v → StrictReason log r a b → ReasonAt (log_terms ts log) r u v
  strict-terms log r a b u v p q is also (inl h) = inl (h.0, sym p ∙ ap (term_at ts) h.1 ∙ q)
  strict-terms log r a b u v p q is also (inr h) = inr (
    λ same. h.0 (is ∙ ap (number_of ts) same ∙ sym also),
    at-gave ts log r a b h.1 ∙ ap (λ t. Some (eqn t (term_at ts b))) p ∙ ap (λ t. Some (eqn u t)) q,
  )

  same-terms : (log : List Equation) (i j : ℕ) (rs : List ℕ) → ArgReasons (nodes_of ts) log i j rs → equation_by f look (log_terms ts log) (line.Same i j rs) ≡ Some (eqn (term_at ts i) (term_at ts j))
  same-terms log i j rs h =
      let first : IsNumber ts i = number-from-kind ts i h.alike.first h.alike.some in
      let second : IsNumber ts j = number-from-kind ts j h.alike.second (subst (λ n. 0 < n) h.alike.kind h.alike.some) in
      let size : arity (nodes_of ts) i ≡ length (arguments (term_at ts i)) = arity-is-arguments ts i first in
      let width : arity (nodes_of ts) j ≡ length (arguments (term_at ts j)) = arity-is-arguments ts j second in
      on-some (at_number ts i) (term_at ts i) _ (term-numbered ts i first)
      ∙ on-some (at_number ts j) (term_at ts j) _ (term-numbered ts j second)
      ∙ only-on _ _ (both-on _ _ (one-head _ _ (kinds-heads ts i j first second h.alike.kind))
      (are-reasons (log_terms ts log) rs (args_of (term_at ts i)) (args_of (term_at ts j)) (h.count ∙ size) (sym size ∙ h.alike.arity ∙ width)
      (λ k lt.
      (let below : k < length (arguments (term_at ts i)) = omega (arith, lt, h.count, size) in
      let beside : k < length (arguments (term_at ts j)) = omega (arith, below, size, width, h.alike.arity) in
      strict-terms log _ (arg_at (nodes_of ts) i k) (arg_at (nodes_of ts) j k) _ _ (arg-term ts complete i k first below) (arg-term ts complete j k second beside) (arg-number ts i k first below) (arg-number ts j k second beside)
      (h.each k (omega (arith, lt, h.count)))))))

  -- the k-th item, counted from 1
  item-numbered : (us : List Tm) (k : ℕ) → 0 < k → k ≤ length us → at_number us k ≡ Some (get_or us (k - 1) t_unit)
  item-numbered us k p q = term-numbered us k (record { counted = p; within = q })

  part-terms : (log : List Equation) (i k x y : ℕ) → PartOf (nodes_of ts) log i k x y → equation_by f look (log_terms ts log) (line.Part i k) ≡ Some (eqn (term_at ts x) (term_at ts y))
  part-terms log i k x y h =
      let also : 0 < (node_at (nodes_of ts) h.right).constructor = subst (λ n. 0 < n) h.same.same h.same.some in
      let first : IsNumber ts h.left = number-from-constructor ts h.left (constructor-within (nodes_of ts) h.left h.same.some) h.same.some in
      let second : IsNumber ts h.right = number-from-constructor ts h.right (constructor-within (nodes_of ts) h.right also) also in
      let size : arity (nodes_of ts) h.left ≡ length (arguments (term_at ts h.left)) = arity-is-arguments ts h.left first in
      let width : arity (nodes_of ts) h.right ≡ length (arguments (term_at ts h.right)) = arity-is-arguments ts h.right second in
      let some : 0 < constructor_of (term_at ts h.left) = subst (λ n. 0 < n) (constructor-terms ts h.left first) h.same.some in
      let same : constructor_of (term_at ts h.left) ≡ constructor_of (term_at ts h.right) = sym (constructor-terms ts h.left first) ∙ h.same.same ∙ constructor-terms ts h.right second in
      let left_part = sym (arg-term ts complete h.left (k - 1) first (omega (arith, h.counted, h.first, size))) ∙ ap (term_at ts) h.left_part in
      let right_part = sym (arg-term ts complete h.right (k - 1) second (omega (arith, h.counted, h.second, width))) ∙ ap (term_at ts) h.right_part in
      on-some (at_number (log_terms ts log) i) (eqn (term_at ts h.left) (term_at ts h.right)) _ (at-gave ts log i h.left h.right h.line)
      ∙ on-some (at_number (arguments (term_at ts h.left)) k) (term_at ts x) _ (item-numbered _ k h.counted (omega (arith, h.first, size)) ∙ ap Some left_part)
      ∙ on-some (at_number (arguments (term_at ts h.right)) k) (term_at ts y) _ (item-numbered _ k h.counted (omega (arith, h.second, width)) ∙ ap Some right_part)
      ∙ only-on _ _ (same-constructor _ _ some same (omega (arith, h.counted, h.first, size)))

  gives-terms : (log : List Equation) (l : Line) (x y : ℕ) → Gives (nodes_of ts) log l x y → equation_by f look (log_terms ts log) l ≡ Some (eqn (term_at ts x) (term_at ts y))
  gives-terms log (line.Flip i) x y h = ap (option_map (λ (e : Eqn). eqn e.right e.left)) (at-gave ts log i y x h)
  gives-terms log (line.Chain i j) x y h =
      on-some (at_number (log_terms ts log) i) (eqn (term_at ts x) (term_at ts h.0)) _ (at-gave ts log i x h.0 h.1.0)
      ∙ on-some (at_number (log_terms ts log) j) (eqn (term_at ts h.0) (term_at ts y)) _ (at-gave ts log j h.0 y h.1.1)
      ∙ only-on (same_term (term_at ts h.0) (term_at ts h.0)) (eqn (term_at ts x) (term_at ts y)) (same-on (term_at ts h.0) (term_at ts h.0) refl)
  gives-terms log (line.Same i j rs) x y h =
      same-terms log i j rs h.1.1 ∙ ap (λ z. Some (eqn (term_at ts z) (term_at ts j))) h.0 ∙ ap (λ z. Some (eqn (term_at ts x) (term_at ts z))) h.1.0
  gives-terms log (line.Part i k) x y h = part-terms log i k x y h
  gives-terms log l x y h = absurd h

  -- a line that stands by itself gives the same after any equations
  given-alone : (es : List Eqn) (l : Line) → IsGivenLine l → equation_by f look es l ≡ equation_by f look [] l
  given-alone es (line.Given a) h = refl
  given-alone es (line.Eta t) h = refl
  given-alone es (line.Unit t) h = refl
  given-alone es l h = absurd h

  holds-terms : (es log : List Equation) → GivenLines es → AreGiven f look es → (e : Equation) → Holds (nodes_of ts) es log e → equation_by f look (log_terms ts log) e.by ≡ Some (terms_of ts e)
  holds-terms es log given gives e (inl h) = given-alone (log_terms ts log) e.by (given e h) ∙ gives e h
  holds-terms es log given gives e (inr h) = gives-terms log e.by e.left e.right h

  equations-more : (es : List Eqn) (ls : List Line) (l : Line) (out : List Eqn) (d : Eqn) → equations_by f look es ls ≡ Some out → equation_by f look out l ≡ Some d → equations_by f look es (ls ++ l ∷ []) ≡ Some (out ++ d ∷ [])
  equations-more es [] l out d p q =
      let same : es ≡ out = cc in
      subst (λ xs. equations_by f look xs (l ∷ []) ≡ Some (out ++ d ∷ [])) (sym same) (on-some (equation_by f look out l) d _ q)
  equations-more es (m ∷ ls) l out d p q =
      let w = on-inv (equation_by f look es m) (λ e. equations_by f look (es ++ e ∷ []) ls) out p in
      on-some (equation_by f look es m) w.0 _ w.1.0 ∙ equations-more (es ++ w.0 ∷ []) ls l out d w.1.1 q

  -- where the lines of the given equations hold and give them, all lines of a valid log hold by the rules of certificates
  certified-log : (es old log : List Equation) → GivenLines es → AreGiven f look es → Grown (nodes_of ts) es old log → old ≡ [] → equations_by f look [] (log_lines log) ≡ Some (log_terms ts log)
  certified-log es old log given gives grown_none e = subst (λ (l : List Equation). equations_by f look [] (log_lines l) ≡ Some (log_terms ts l)) (sym e) refl
  certified-log es old log given gives (grown_more {new = between} {e = q} g h) e =
      ap (equations_by f look []) (map-append (λ (d : Equation). d.by) between (q ∷ []))
      ∙ equations-more [] (log_lines between) q.by (log_terms ts between) (terms_of ts q) (certified-log es old between given gives g e) (holds-terms es between given gives q h)
      ∙ ap Some (sym (map-append (terms_of ts) between (q ∷ [])))

  -- an explanation over numbers is one by the rules of certificates
  pub explains-gives : (ns : List Node) (es : List Equation) (lines : List Line) (left right : ℕ) → GivenLines es → Explains ns es lines left right → ns ≡ nodes_of ts → AreGiven f look es → explained.Gives f look lines (term_at ts left) (term_at ts right)
  explains-gives ns es lines left right given h is gives =
      let valid : Valid (nodes_of ts) es h.log = subst (λ (ms : List Node). Valid ms es h.log) is h.valid in
      record {
        equations = log_terms ts h.log;
        hold = subst (λ ls. equations_by f look [] ls ≡ Some (log_terms ts h.log)) h.by (certified-log es [] h.log given gives valid refl);
        last = ap (at_number (log_terms ts h.log)) (length-map h.log (terms_of ts)) ∙ at-gave ts h.log (length h.log) left right h.last;
      }

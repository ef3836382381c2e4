-- The trail of a search: its last mark, the next one, and what a whole trail says.
use Rattle.std.proofs.Common.{◌≡◌, ℕ, zero, suc, ◌+◌, ◌<◌, ◌≤◌, Bool, true, false, not, if◌then◌else◌, List, [], ◌∷◌, ◌++◌, length, slice_get, Option, Some, None, IsTrue, refl, sym, ap, ◌∙◌, subst, arith, append_assoc}
use Rattle.std.proofs.lemmas.Bool.{false≢true}
use Rattle.std.specs.Prelude.{⊤}
use Rattle.std.proofs.lemmas.List.{same_from_push, map_push, length-map, length_push, map-append}
use Rattle.fst_base.specs.Sorts.{Srt}
use Rattle.fst_terms.specs.Terms.{Tm}
use Rattle.fst_terms.specs.Flats.{Flt, rank}
use Rattle.fst_terms.specs.declared.flat.Mark.{Mark}
use Rattle.fst_terms.specs.declared.flat.Mark.TheVariants as mark
use Rattle.fst_terms.specs.Marks.{var_sorts, is_int_equation, fits}
use Rattle.fst_terms.specs.Branches.{AllFit}
use Rattle.fst_cert.specs.Proving.{same_mark}
use Rattle.fst_cases.specs.declared.arena.Refutation.{Refutation}
use Rattle.fst_cases.specs.declared.known.Known.{Known}
use Rattle.fst_cases.specs.declared.trail.Retreat.{Retreat}
use Rattle.fst_cases.specs.declared.trail.Retreat.TheVariants as retreat
use Rattle.fst_cases.specs.declared.trail.Step.{Step}
use Rattle.fst_cases.specs.Knowing.{look_of, first_mark}
use Rattle.fst_cases.specs.Arenas.{core_at, Grows}
use Rattle.fst_cases.specs.Trails.{marks_in, RefutesAt, LeftAt, Trail, trail_none, trail_more, Standing, NextStands, power, worth, branches, After, step_to, next_by, next_step, Splits, Orders, closes_by, closes, Retreats, Advanced}
use Rattle.fst_cases.specs.Refuting.{IsRefutedAt, LeftRefuted}
use Rattle.fst_cases.proofs.KnownLemmas.{first-says}
use Rattle.fst_cases.proofs.ArenaLemmas.{grows-self, grows-grows, refutes-grown, falls-here, last-used, refutes-unused, split-refutes, order-refutes, splits-grow, orders-grow}
use Rattle.fst_cases.proofs.SearchSteps.{left-none, left-put}

pub marks-push : (ss : List Step) (s : Step) → marks_in (ss ++ s ∷ []) ≡ marks_in ss ++ s.mark ∷ []
marks-push ss s = map_push (λ (s : Step). s.mark) ss s

pub marks-length : (ss : List Step) → length (marks_in ss) ≡ length ss
marks-length ss = length-map ss (λ (s : Step). s.mark)

-- ---- more refutations

module _ (f : Flt) (old new : List Refutation) (g : Grows old new) where
  pub left-grown : (ms : List Mark) (m : Mark) (s : Step) → LeftAt f old ms m s → LeftAt f new ms m s
  left-grown ms mark.True s h = tt
  left-grown ms mark.False s h = refutes-grown old new g f (ms ++ mark.True ∷ []) s.on_true h
  left-grown ms mark.Less s h = refutes-grown old new g f (ms ++ mark.True ∷ []) s.on_true h
  left-grown ms mark.Greater s h = (refutes-grown old new g f (ms ++ mark.True ∷ []) s.on_true h.0, refutes-grown old new g f (ms ++ mark.Less ∷ []) s.on_less h.1)

  pub trail-grown : (ss : List Step) → Trail f old ss → Trail f new ss
  trail-grown ss trail_none = trail_none
  trail-grown ss (trail_more rs s t h q fit left) = trail_more rs s t (trail-grown rs h) q fit (left-grown (marks_in rs) s.mark s left)

-- ---- the last mark

module _ (f : Flt) (ns : List Refutation) where
  pub record Last (ss : List Step) (s : Step) : Type 0 where
    pub trail : Trail f ns ss
    pub stands : NextStands f ns ss s

  pub trail-last : (all ss : List Step) (s : Step) → Trail f ns all → all ≡ ss ++ s ∷ [] → Last ss s
  trail-last all ss s trail_none e = absurd (let n = ap length e in let l = length_push ss s in none n l)
    where
      none : length {A = Step} [] ≡ length (ss ++ s ∷ []) → length (ss ++ s ∷ []) ≡ length ss + 1 → ⊥
      none n l = omega (arith, n, l)
  trail-last all ss s (trail_more rs r t h q fit left) e =
      let same = same_from_push rs ss r s e in
      let stands : NextStands f ns rs r = record { atom = t; at = q; fit = fit; left = left } in
      record {
        trail = subst (Trail f ns) same.0 h;
        stands = subst (λ ps. NextStands f ns ps s) same.0 (subst (NextStands f ns rs) same.1 stands);
      }

  pub trail-put : (ss all : List Step) (s : Step) → Trail f ns ss → NextStands f ns ss s → all ≡ ss ++ s ∷ [] → Trail f ns all
  trail-put ss all s h n e = subst (Trail f ns) (sym e) (trail_more ss s n.atom h n.at n.fit n.left)

  -- a refutation of the marks, with the last one shown
  pub standing-last : (all ss : List Step) (s : Step) (i : ℕ) → Trail f ns all → RefutesAt f ns (marks_in all) i → all ≡ ss ++ s ∷ [] → Standing f ns ss s i
  standing-last all ss s i h r e =
      let l = trail-last all ss s h e in
      record { atom = l.stands.atom; at = l.stands.at; fit = l.stands.fit; left = l.stands.left; refuted = subst (λ ms. RefutesAt f ns ms i) (ap marks_in e ∙ marks-push ss s) r }

-- ---- the next mark

after-false : (x : ℕ) → (x + x) + x ≤ x + x + x
after-false x = omega arith

after-greater : (x : ℕ) → x + x ≤ x + x
after-greater x = omega arith

module _ (f : Flt) (ns : List Refutation) (ss : List Step) (s : Step) (i : ℕ) (t : Tm) (q : slice_get f.atoms (length ss) ≡ Some t) where
  abbrev pub Goes : Mark → Step → Type 0
  Goes m n = NextStands f ns ss n × After m n.mark

  goes-true : (number : Bool) → number ≡ is_int_equation (var_sorts f) t → RefutesAt f ns (marks_in ss ++ mark.True ∷ []) i → (n : Step) → (if number then step_to mark.Less i i else step_to mark.False i i) ≡ n → Goes mark.True n
  goes-true true e r n p = subst (Goes mark.True) p (record { atom = t; at = q; fit = sym e; left = r }, after-false)
  goes-true false e r n p = subst (Goes mark.True) p (record { atom = t; at = q; fit = ap not (sym e); left = r }, after-false)

  step-choice : (number : Bool) → step_to (if number then mark.Less else mark.False) i i ≡ (if number then step_to mark.Less i i else step_to mark.False i i)
  step-choice true = refl
  step-choice false = refl

  goes-less : (n : Step) → IsTrue (is_int_equation (var_sorts f) t) → RefutesAt f ns (marks_in ss ++ mark.True ∷ []) s.on_true → RefutesAt f ns (marks_in ss ++ mark.Less ∷ []) i → step_to mark.Greater s.on_true i ≡ n → Goes mark.Less n
  goes-less n fit left r p = subst (Goes mark.Less) p (record { atom = t; at = q; fit = fit; left = (left, r) }, after-greater)

  pub next-goes : (m : Mark) (number : Bool) (used : Mark) (n : Step) → number ≡ is_int_equation (var_sorts f) t → IsTrue (fits (var_sorts f) t m) → LeftAt f ns (marks_in ss) m s → RefutesAt f ns (marks_in ss ++ m ∷ []) i
      → next_by m s number used i ≡ Some n → Goes m n
  next-goes mark.True number used n e fit left r p = goes-true number e r n (sym (step-choice number) ∙ (let w : step_to (if number then mark.Less else mark.False) i i ≡ n = cc in w))
  next-goes mark.False number used n e fit left r p = cc
  next-goes mark.Less number mark.True n e fit left r p = goes-less n fit left r (let w : step_to mark.Greater s.on_true i ≡ n = cc in w)
  next-goes mark.Less number mark.False n e fit left r p = cc
  next-goes mark.Less number mark.Less n e fit left r p = goes-less n fit left r (let w : step_to mark.Greater s.on_true i ≡ n = cc in w)
  next-goes mark.Less number mark.Greater n e fit left r p = goes-less n fit left r (let w : step_to mark.Greater s.on_true i ≡ n = cc in w)
  next-goes mark.Greater number used n e fit left r p = cc

  -- ---- no next mark

  pub on-true-there : (m : Mark) (number : Bool) (used : Mark) → LeftAt f ns (marks_in ss) m s → next_by m s number used i ≡ None → s.on_true < length ns
  on-true-there mark.True number used left p = cc
  on-true-there mark.False number used left p = left.there
  on-true-there mark.Less number used left p = left.there
  on-true-there mark.Greater number used left p = left.0.there

  pub on-less-there : (m : Mark) → LeftAt f ns (marks_in ss) m s → m ≡ mark.Greater → s.on_less < length ns
  on-less-there mark.True left p = cc
  on-less-there mark.False left p = cc
  on-less-there mark.Less left p = cc
  on-less-there mark.Greater left p = left.1.there

  module _ (new : List Refutation) (at : ℕ) where
    abbrev pub Back : Type 0
    Back = Grows ns new × RefutesAt f new (marks_in ss) at

    abbrev a : ℕ
    a = suc (length (marks_in ss))

    atom-here : slice_get f.atoms (length (marks_in ss)) ≡ Some t
    atom-here = subst (λ k. slice_get f.atoms k ≡ Some t) (sym (marks-length ss)) q

    false-used : (m used : Mark) → RefutesAt f ns (marks_in ss ++ m ∷ []) i → first_mark (core_at ns i) a ≡ Some used → used ≡ mark.False → (x : Mark) → look_of (core_at ns i) a ≡ Some x → same_mark x mark.False ≡ true
    false-used m used r u e x p =
        let y : ◌≡◌ {A = Option Mark} (Some used) (Some x) = sym u ∙ sym (first-says a (core_at ns i) (falls-here f ns (marks_in ss) m i r)) ∙ p in
        let z : mark.False ≡ x = cc in
        subst (λ k. same_mark k mark.False ≡ true) z refl

    splits-back : (m : Mark) (j : ℕ) → Splits ns new a j i at → RefutesAt f ns (marks_in ss ++ mark.True ∷ []) j → RefutesAt f ns (marks_in ss ++ m ∷ []) i → ((x : Mark) → look_of (core_at ns i) a ≡ Some x → same_mark x mark.False ≡ true) → Back
    splits-back m j sp left r last = (splits-grow ns new a j i at sp, split-refutes f ns new (marks_in ss) t m j i at atom-here sp left r last)

    orders-back : Orders ns new a s.on_true s.on_less i at → IsTrue (is_int_equation (var_sorts f) t) → LeftAt f ns (marks_in ss) mark.Greater s → RefutesAt f ns (marks_in ss ++ mark.Greater ∷ []) i → Back
    orders-back o fit left r = (orders-grow ns new a s.on_true s.on_less i at o, order-refutes f ns new (marks_in ss) t s.on_true s.on_less i at atom-here fit o left.0 left.1 r)

    pub none-back : (m : Mark) (number : Bool) (used : Mark) → IsTrue (fits (var_sorts f) t m) → LeftAt f ns (marks_in ss) m s → RefutesAt f ns (marks_in ss ++ m ∷ []) i → first_mark (core_at ns i) a ≡ Some used
        → next_by m s number used i ≡ None → closes_by m used ns new a s i at → Back
    none-back mark.True number used fit left r u p c = cc
    none-back mark.False number used fit left r u p c = splits-back mark.False s.on_true c left r (last-used f ns (marks_in ss) mark.False i r)
    none-back mark.Less number mark.True fit left r u p c = cc
    none-back mark.Less number mark.False fit left r u p c = splits-back mark.Less s.on_true c left r (false-used mark.Less mark.False r u refl)
    none-back mark.Less number mark.Less fit left r u p c = cc
    none-back mark.Less number mark.Greater fit left r u p c = cc
    none-back mark.Greater number mark.False fit left r u p c = splits-back mark.Greater s.on_true c left.0 r (false-used mark.Greater mark.False r u refl)
    none-back mark.Greater number mark.True fit left r u p c = orders-back c fit left r
    none-back mark.Greater number mark.Less fit left r u p c = orders-back c fit left r
    none-back mark.Greater number mark.Greater fit left r u p c = orders-back c fit left r

get-within : {A : Type 0} (xs : List A) (k : ℕ) (x : A) → slice_get xs k ≡ Some x → k < length xs
get-within [] k x q = cc
get-within (y ∷ ys) zero x q = omega arith
get-within (y ∷ ys) (suc k) x q = let l = get-within ys k x q in omega (arith, l)

-- ---- going back, as the code does

module _ (f : Flt) (ns : List Refutation) (ss : List Step) (s : Step) (i : ℕ) (h : Standing f ns ss s i) where
  pub atom-within : length ss < length f.atoms
  atom-within = get-within f.atoms (length ss) h.atom h.at

  atom-is : (atom : ℕ) → atom ≡ length ss + 1 → atom ≡ suc (length (marks_in ss))
  atom-is atom e = let l = marks-length ss in omega (arith, e, l)

  pub go-unused : (atom : ℕ) → atom ≡ length ss + 1 → first_mark (core_at ns i) atom ≡ None → Grows ns ns × RefutesAt f ns (marks_in ss) i
  go-unused atom e q = (grows-self ns, refutes-unused f ns (marks_in ss) s.mark i h.refuted (subst (λ a. first_mark (core_at ns i) a ≡ None) (atom-is atom e) q))

  module _ (number : Bool) (e : (t : Tm) → slice_get f.atoms (length ss) ≡ Some t → number ≡ is_int_equation (var_sorts f) t) where
    pub go-next : (used : Mark) (n : Step) → next_step s number used i ≡ Some n → Grows ns ns × (NextStands f ns ss n × After s.mark n.mark)
    go-next used n p = (grows-self ns, next-goes f ns ss s i h.atom h.at s.mark number used n (e h.atom h.at) h.fit h.left h.refuted p)

    pub go-closed : (atom : ℕ) (used : Mark) (new : List Refutation) (at : ℕ) → atom ≡ length ss + 1 → first_mark (core_at ns i) atom ≡ Some used → next_step s number used i ≡ None → closes ns new atom s used i at → Grows ns new × RefutesAt f new (marks_in ss) at
    go-closed atom used new at q u p c =
        none-back f ns ss s i h.atom h.at new at s.mark number used h.fit h.left h.refuted (subst (λ a. first_mark (core_at ns i) a ≡ Some used) (atom-is atom q) u) p
        (subst (λ a. closes ns new a s used i at) (atom-is atom q) c)

  pub go-true-there : (number : Bool) (used : Mark) → next_step s number used i ≡ None → s.on_true < length ns
  go-true-there number used p = on-true-there f ns ss s i h.atom h.at s.mark number used h.left p

  pub go-less-there : s.mark ≡ mark.Greater → s.on_less < length ns
  go-less-there p = on-less-there f ns ss s i h.atom h.at s.mark h.left p

pub mark-read : (ns xs : List Refutation) (ks : List Known) (i a : ℕ) (o : Option Mark) → o ≡ first_mark ks a → ks ≡ core_at xs i → xs ≡ ns → first_mark (core_at ns i) a ≡ o
mark-read ns xs ks i a o p q e = sym (p ∙ ap (λ js. first_mark js a) (q ∙ ap (λ ys. core_at ys i) e))

-- ---- how many branches are left

worth-most : (m : Mark) (x : ℕ) → worth m x ≤ x + x + x
worth-most mark.True x = omega arith
worth-most mark.False x = omega arith
worth-most mark.Less x = omega arith
worth-most mark.Greater x = omega arith

pub branches-below : (n : ℕ) (ms : List Mark) → branches n ms < power n
branches-below zero ms = omega arith
branches-below (suc n) [] = let h = branches-below n [] in omega (arith, h)
branches-below (suc n) (m ∷ ms) = let h = branches-below n ms in let w = worth-most m (power n) in omega (arith, h, w)

pub branches-put : (n : ℕ) (ms : List Mark) → length ms < n → branches n (ms ++ mark.True ∷ []) < branches n ms
branches-put zero ms h = absurd (omega (arith, h))
branches-put (suc n) [] h = let k = branches-below n [] in omega (arith, k)
branches-put (suc n) (m ∷ ms) h = let k = branches-put n ms (omega (arith, h)) in omega (arith, k)

pub branches-after : (n : ℕ) (ms rest : List Mark) (m k : Mark) → length ms < n → After m k → branches n (ms ++ k ∷ []) < branches n (ms ++ m ∷ rest)
branches-after zero ms rest m k h a = absurd (omega (arith, h))
branches-after (suc n) [] rest m k h a = let b = branches-below n [] in let w = a (power n) in omega (arith, b, w)
branches-after (suc n) (j ∷ ms) rest m k h a = let b = branches-after n ms rest m k (omega (arith, h)) a in omega (arith, b)

-- ---- a turn of the loop that goes back

module _ (f : Flt) (old now new : List Refutation) (before trail xs ss rest : List Step) (s : Step) (r : Retreat)
    (g : Grows old now) (h : Trail f now trail) (e : before ≡ trail ++ rest) (p : trail ≡ ss ++ s ∷ []) (q : xs ≡ ss) (w : Retreats f now new xs s r) where
  before-is : before ≡ ss ++ (s ∷ rest)
  before-is = e ∙ ap (λ ts. ts ++ rest) p ∙ append_assoc ss (s ∷ []) rest

  pub advance-next : (after : List Step) (n : Step) → r ≡ retreat.Next n → after ≡ ss ++ n ∷ [] → Advanced f old new before after None
  advance-next after n t a =
      let v : Retreats f now new ss s (retreat.Next n) = subst (Retreats f now new ss s) t (subst (λ ys. Retreats f now new ys s r) q w) in
      let within = get-within f.atoms (length ss) v.1.0.atom v.1.0.at in
      let l = marks-length ss in (
        grows-grows old now new g v.0,
        (
          trail-put f new ss after n (trail-grown f now new v.0 ss (trail-last f now trail ss s h p).trail) v.1.0 a,
          subst (λ ms. branches (length f.atoms) ms < branches (length f.atoms) (marks_in before)) (sym (ap marks_in a ∙ marks-push ss n))
              (subst (λ ms. branches (length f.atoms) (marks_in ss ++ n.mark ∷ []) < branches (length f.atoms) ms) (sym (ap marks_in before-is ∙ map-append (λ (z : Step). z.mark) ss (s ∷ rest)))
              (branches-after (length f.atoms) (marks_in ss) (marks_in rest) s.mark n.mark (omega (arith, within, l)) v.1.1)),
        ),
      )

  pub record Turned (at : ℕ) : Type 0 where
    pub grown : Grows old new
    pub trail_left : Trail f new ss
    pub refuted : RefutesAt f new (marks_in ss) at

  pub advance-back : (at : ℕ) → r ≡ retreat.Refuted at → Turned at
  advance-back at t =
      let v : Retreats f now new ss s (retreat.Refuted at) = subst (Retreats f now new ss s) t (subst (λ ys. Retreats f now new ys s r) q w) in
      record {
        grown = grows-grows old now new g v.0;
        trail_left = trail-grown f now new v.0 ss (trail-last f now trail ss s h p).trail;
        refuted = v.1;
      }

  pub rest-is : before ≡ ss ++ (s ∷ rest)
  rest-is = before-is

-- ---- what a whole trail says

abbrev FirstFit : (Ss : List Srt) → List Tm → List Mark → Type 0
FirstFit Ss ts [] = ⊤
FirstFit Ss [] (m ∷ ms) = ⊥
FirstFit Ss (t ∷ ts) (m ∷ ms) = IsTrue (fits Ss t m) × FirstFit Ss ts ms

fit-put : (Ss : List Srt) (ts : List Tm) (ms : List Mark) (t : Tm) (m : Mark) → FirstFit Ss ts ms → slice_get ts (length ms) ≡ Some t → IsTrue (fits Ss t m) → FirstFit Ss ts (ms ++ m ∷ [])
fit-put Ss [] [] t m h q fit = cc
fit-put Ss (u ∷ ts) [] t m h q fit = let e : t ≡ u = cc in (subst (λ v. IsTrue (fits Ss v m)) e fit, none ts)
  where
    none : (ts : List Tm) → FirstFit Ss ts []
    none [] = tt
    none (v ∷ ts) = tt
fit-put Ss [] (k ∷ ms) t m h q fit = absurd h
fit-put Ss (u ∷ ts) (k ∷ ms) t m h q fit = (h.0, fit-put Ss ts ms t m h.1 q fit)

fit-all : (Ss : List Srt) (ts : List Tm) (ms : List Mark) → FirstFit Ss ts ms → length ms ≡ length ts → AllFit Ss ts ms
fit-all Ss [] [] h e = tt
fit-all Ss (t ∷ ts) [] h e = absurd (omega (arith, e))
fit-all Ss [] (m ∷ ms) h e = absurd h
fit-all Ss (t ∷ ts) (m ∷ ms) h e = (h.0, fit-all Ss ts ms h.1 (omega (arith, e)))

module _ (f : Flt) (ns : List Refutation) where
  trail-first-fit : (ss : List Step) → Trail f ns ss → FirstFit (var_sorts f) f.atoms (marks_in ss)
  trail-first-fit ss trail_none = none f.atoms
    where
      none : (ts : List Tm) → FirstFit (var_sorts f) ts []
      none [] = tt
      none (t ∷ ts) = tt
  trail-first-fit ss (trail_more rs s t h q fit left) =
      subst (FirstFit (var_sorts f) f.atoms) (sym (marks-push rs s))
      (fit-put (var_sorts f) f.atoms (marks_in rs) t s.mark (trail-first-fit rs h) (subst (λ k. slice_get f.atoms k ≡ Some t) (sym (marks-length rs)) q) fit)

  -- each atom has a mark that fits it
  pub trail-fit : (ss : List Step) → Trail f ns ss → length ss ≡ length f.atoms → AllFit (var_sorts f) f.atoms (marks_in ss)
  trail-fit ss h e = fit-all (var_sorts f) f.atoms (marks_in ss) (trail-first-fit ss h) (let l = marks-length ss in omega (arith, e, l))

  pub refuted-at : (ms : List Mark) (i : ℕ) → RefutesAt f ns ms i → IsRefutedAt f ms
  refuted-at ms i r = record { core = look_of (core_at ns i); lines = r.lines; within = r.within; refuted = r.refuted }

  -- each mark before the branch's own is refuted
  pub trail-left : (ss : List Step) → Trail f ns ss → LeftRefuted f [] f.atoms (marks_in ss)
  trail-left ss trail_none = left-none f [] f.atoms
  trail-left ss (trail_more rs s t h q fit left) = subst (LeftRefuted f [] f.atoms) (sym (marks-push rs s)) (left-put f [] f.atoms (marks_in rs) s.mark (trail-left rs h) (go s.mark fit left))
    where
      same : (u : Tm) → slice_get f.atoms (length (marks_in rs)) ≡ Some u → u ≡ t
      same u k = let w : ◌≡◌ {A = Option Tm} (Some u) (Some t) = sym k ∙ ap (slice_get f.atoms) (marks-length rs) ∙ q in let v : u ≡ t = cc in v

      off : (u : Tm) → slice_get f.atoms (length (marks_in rs)) ≡ Some u → IsTrue (is_int_equation (var_sorts f) t) → IsTrue (not (is_int_equation (var_sorts f) u)) → ⊥
      off u k int other = false≢true (subst (λ b. not b ≡ true) int (subst (λ v. not (is_int_equation (var_sorts f) v) ≡ true) (same u k) other))

      go : (m : Mark) → IsTrue (fits (var_sorts f) t m) → LeftAt f ns (marks_in rs) m s → (u : Tm) (k : Mark) → slice_get f.atoms (length (marks_in rs)) ≡ Some u → IsTrue (fits (var_sorts f) u k) → rank k < rank m → IsRefutedAt f (marks_in rs ++ k ∷ [])
      go mark.True fit left u k p may less = absurd (omega (arith, less))
      go mark.False fit left u mark.True p may less = refuted-at _ _ left
      go mark.False fit left u mark.False p may less = absurd (omega (arith, less))
      go mark.False fit left u mark.Less p may less = absurd (omega (arith, less))
      go mark.False fit left u mark.Greater p may less = absurd (omega (arith, less))
      go mark.Less fit left u mark.True p may less = refuted-at _ _ left
      go mark.Less fit left u mark.False p may less = absurd (off u p fit may)
      go mark.Less fit left u mark.Less p may less = absurd (omega (arith, less))
      go mark.Less fit left u mark.Greater p may less = absurd (omega (arith, less))
      go mark.Greater fit left u mark.True p may less = refuted-at _ _ left.0
      go mark.Greater fit left u mark.False p may less = absurd (off u p fit may)
      go mark.Greater fit left u mark.Less p may less = refuted-at _ _ left.1
      go mark.Greater fit left u mark.Greater p may less = absurd (omega (arith, less))

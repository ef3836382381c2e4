-- Lists of used atoms say which marks a refutation needs.
use Rattle.std.proofs.Common.{◌≡◌, ◌⊎◌, inl, inr, ℕ, Bool, true, false, ◌&&◌, if◌then◌else◌, nat_eq, List, [], ◌∷◌, Some, None, option_map, refl, sym, ap, ◌∙◌, subst}
use Rattle.std.proofs.lemmas.Bool.{false≢true, eqb-true, eq-eqb}
use Rattle.fst_terms.specs.declared.flat.Mark.{Mark}
use Rattle.fst_terms.specs.declared.flat.Mark.TheVariants as mark
use Rattle.fst_terms.specs.Marks.{Marking}
use Rattle.fst_cert.specs.Proving.{Mk, marking_of, holds, has_marks, on, same_mark}
use Rattle.fst_cases.specs.Refuting.{Within, put}
use Rattle.fst_cases.specs.Cores.{Use, use_at, used, core_of, Covers}
use Rattle.fst_cert.proofs.EquationTruths.{on-inv, holds-inv, map-inv}

self : (m : Mark) → same_mark m m ≡ true
self mark.True = refl
self mark.False = refl
self mark.Less = refl
self mark.Greater = refl

used-same : (o : Bool) (m : Mark) → same_mark (used o m) m ≡ true
used-same true m = self m
used-same false mark.True = refl
used-same false mark.False = refl
used-same false mark.Less = refl
used-same false mark.Greater = refl

used-less : (o p : Bool) (m : Mark) → (p ≡ o) ⊎ (o ≡ false) → same_mark (used o m) (used p m) ≡ true
used-less o p m (inl h) = subst (λ q. same_mark (used o m) (used q m) ≡ true) (sym h) (self (used o m))
used-less o p m (inr h) = subst (λ q. same_mark (used q m) (used p m) ≡ true) (sym h) (go p m)
  where
    go : (p : Bool) (m : Mark) → same_mark (used false m) (used p m) ≡ true
    go true m = used-same false m
    go false m = self (used false m)

-- what is used of a marking is in it
pub core-within : (look : Marking) (us : List Use) → Within (core_of look us) look
core-within look us a m q =
    let o = on-inv (use_at us a) (λ o. option_map (used o) (look a)) m q in
    let n = map-inv (used o.0) (look a) m o.1.1 in
    (n.0, (n.1.0, subst (λ k. same_mark k n.0 ≡ true) n.1.1 (used-same o.0 n.0)))

-- the uses under the mark m of atom a, where the other uses are kept: k is what is used of m
pub core-put : (look : Marking) (a : ℕ) (m k : Mark) (us vs : List Use) → Covers a us vs → ((o : Bool) → use_at us a ≡ Some o → same_mark (used o m) k ≡ true) → Within (core_of (put a m look) us) (put a k (core_of look vs))
core-put look a m k us vs covers last b n q = go (nat_eq a b) refl q
  where
    there : (o p : Bool) (n : Mark) → (p ≡ o) ⊎ (o ≡ false) → option_map (used o) (look b) ≡ Some n → (w : Mark) × ((option_map (used p) (look b) ≡ Some w) × (same_mark n w ≡ true))
    there o p n h e =
        let i = map-inv (used o) (look b) n e in
        (used p i.0, (ap (option_map (used p)) i.1.0, subst (λ k. same_mark k (used p i.0) ≡ true) i.1.1 (used-less o p i.0 h)))

    go : (c : Bool) → nat_eq a b ≡ c → on (use_at us b) (λ o. option_map (used o) (if c then Some m else look b)) ≡ Some n
        → (w : Mark) × (((if c then Some k else on (use_at vs b) (λ o. option_map (used o) (look b))) ≡ Some w) × (same_mark n w ≡ true))
    go true e h =
        let ab = eqb-true a b e in
        let o = on-inv (use_at us b) (λ o. option_map (used o) (Some m)) n h in
        let x : used o.0 m ≡ n = (let y = o.1.1 in cc) in
        (k, (refl, subst (λ j. same_mark j k ≡ true) x (last o.0 (subst (λ j. use_at us j ≡ Some o.0) (sym ab) o.1.0))))
    go false e h =
        let o = on-inv (use_at us b) (λ o. option_map (used o) (look b)) n h in
        let c = covers b o.0 (λ p. false≢true (sym e ∙ eq-eqb a b (sym p))) o.1.0 in
        let w = there o.0 c.0 n c.1.1 o.1.1 in
        (w.0, (subst (λ x. on x (λ o. option_map (used o) (look b)) ≡ Some w.0) (sym c.1.0) w.1.0, w.1.1))

-- the last atom isn't used
pub core-without : (look : Marking) (a : ℕ) (m : Mark) (us : List Use) → use_at us a ≡ None → Within (core_of (put a m look) us) (core_of look us)
core-without look a m us none b n q = go (nat_eq a b) refl q
  where
    go : (c : Bool) → nat_eq a b ≡ c → on (use_at us b) (λ o. option_map (used o) (if c then Some m else look b)) ≡ Some n
        → (w : Mark) × ((on (use_at us b) (λ o. option_map (used o) (look b)) ≡ Some w) × (same_mark n w ≡ true))
    go true e h =
        let x : use_at us b ≡ None = subst (λ j. use_at us j ≡ None) (eqb-true a b e) none in
        let o = on-inv (use_at us b) (λ o. option_map (used o) (Some m)) n h in
        let y = o.1.0 in
        cc
    go false e h = (n, (h, self n))

-- ---- marks as a list

-- a marking that has these marks, which is decided by a walk over them
pub within-marks : (look : Marking) (ks : List Mk) → has_marks look ks ≡ true → Within (marking_of ks) look
within-marks look [] h a m q = cc
within-marks look (k ∷ ks) h a m q = go (within-marks look ks (both (holds (look k.atom) (same_mark k.mark)) (has_marks look ks) h).1) (nat_eq k.atom a) refl q
  where
    both : (a b : Bool) → (a && b) ≡ true → (a ≡ true) × (b ≡ true)
    both true b h = (refl, h)
    both false b h = absurd (false≢true h)

    go : Within (marking_of ks) look → (c : Bool) → nat_eq k.atom a ≡ c → (if c then Some k.mark else marking_of ks a) ≡ Some m → (n : Mark) × ((look a ≡ Some n) × (same_mark m n ≡ true))
    go ih true e r =
        let x = holds-inv (look k.atom) (same_mark k.mark) (both (holds (look k.atom) (same_mark k.mark)) (has_marks look ks) h).0 in
        let p : k.mark ≡ m = cc in
        (x.0, (subst (λ j. look j ≡ Some x.0) (eqb-true k.atom a e) x.1.0, subst (λ w. same_mark w x.0 ≡ true) p x.1.1))
    go ih false e r = ih a m r

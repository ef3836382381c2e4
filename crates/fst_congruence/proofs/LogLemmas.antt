-- Logs that grow keep their equations and reasons; a valid log holds joined terms alone.
use Rattle.std.proofs.Common.{◌≡◌, ℕ, ◌+◌, ◌-◌, ◌<◌, ◌≤◌, ◌⊎◌, inl, inr, Bool, true, false, List, [], ◌∷◌, ◌++◌, length, refl, sym, ap, subst, ◌∙◌, arith, length-append, Result, Ok, Err, IfOk}
use Rattle.std.proofs.lemmas.Bool.{cases_lt}
use Rattle.std.proofs.lemmas.List.{get_or_append_left, get_or_at}
use Rattle.fst_base.specs.declared.memory.OutOfMemory.{OutOfMemory}
use Rattle.fst_congruence.specs.declared.equation.Equation.{Equation}
use Rattle.fst_cert.specs.declared.line.Line.{Line}
use Rattle.fst_cert.specs.declared.line.Line.TheVariants as line
use Rattle.fst_congruence.specs.declared.node.Node.{Node}
use Rattle.fst_congruence.specs.Joined.{Joined, joined_same, joined_flip, joined_chain, joined_given, joined_args, joined_part, arg_at}
use Rattle.std.specs.Prelude.{not}
use Rattle.fst_congruence.specs.declared.why.Why.{Why}
use Rattle.fst_congruence.specs.Lines.{At, AtTurned, Because, Reason, StrictReason, Gives, Holds, Grown, grown_none, grown_more, Extends, Valid}

-- ---- lines stay where they are

pub at-append : (log more : List Equation) (i x y : ℕ) → At log i x y → At (log ++ more) i x y
at-append log more i x y h =
    let within : i - 1 < length log = omega (arith, h.counted, h.within) in
    record {
      counted = h.counted;
      within = omega (arith, h.within, length-append log more);
      left = λ d. ap (λ (e : Equation). e.left) (get_or_append_left log more d (i - 1) within) ∙ h.left d;
      right = λ d. ap (λ (e : Equation). e.right) (get_or_append_left log more d (i - 1) within) ∙ h.right d;
    }

-- the line that was put last
pub at-pushed : (log : List Equation) (e : Equation) → At (log ++ e ∷ []) (length (log ++ e ∷ [])) e.left e.right
at-pushed log e =
    let more : length (log ++ e ∷ []) ≡ length log + 1 = length-append log (e ∷ []) in
    record {
      counted = omega (arith, more);
      within = omega arith;
      left = λ d. ap (λ (f : Equation). f.left) (get_or_at log e [] d (length (log ++ e ∷ []) - 1) (omega (arith, more)));
      right = λ d. ap (λ (f : Equation). f.right) (get_or_at log e [] d (length (log ++ e ∷ []) - 1) (omega (arith, more)));
    }

-- a line of a longer log is the last one or one of those before
pub at-pushed-cases : (log : List Equation) (e : Equation) (i x y : ℕ) → At (log ++ e ∷ []) i x y → At log i x y ⊎ ((e.left ≡ x) × (e.right ≡ y))
at-pushed-cases log e i x y h = go (cases_lt (i - 1) (length log))
  where
    go : (i - 1 < length log) ⊎ (length log ≤ i - 1) → At log i x y ⊎ ((e.left ≡ x) × (e.right ≡ y))
    go (inl lt) = inl (record {
      counted = h.counted;
      within = omega (arith, h.counted);
      left = λ d. ap (λ (f : Equation). f.left) (sym (get_or_append_left log (e ∷ []) d (i - 1) lt)) ∙ h.left d;
      right = λ d. ap (λ (f : Equation). f.right) (sym (get_or_append_left log (e ∷ []) d (i - 1) lt)) ∙ h.right d;
    })
    go (inr le) =
        let last : length log ≡ i - 1 = omega (arith, h.counted, h.within, length-append log (e ∷ [])) in
        inr (sym (ap (λ (f : Equation). f.left) (get_or_at log e [] e (i - 1) last)) ∙ h.left e, sym (ap (λ (f : Equation). f.right) (get_or_at log e [] e (i - 1) last)) ∙ h.right e)

pub at-grown : (ns : List Node) (es : List Equation) (old new : List Equation) → Grown ns es old new → (i x y : ℕ) → At old i x y → At new i x y
at-grown ns es old new grown_none i x y h = h
at-grown ns es old new (grown_more {new = between} {e = e} g q) i x y h = at-append between (e ∷ []) i x y (at-grown ns es old between g i x y h)

pub reason-grown : (ns : List Node) (es : List Equation) (old new : List Equation) → Grown ns es old new → (i x y : ℕ) → Reason old i x y → Reason new i x y
reason-grown ns es old new g i x y (inl h) = inl h
reason-grown ns es old new g i x y (inr h) = inr (at-grown ns es old new g i x y h)

pub strict-grown : (ns : List Node) (es : List Equation) (old new : List Equation) → Grown ns es old new → (i x y : ℕ) → StrictReason old i x y → StrictReason new i x y
strict-grown ns es old new g i x y (inl h) = inl h
strict-grown ns es old new g i x y (inr h) = inr (h.0, at-grown ns es old new g i x y h.1)

pub grown-grown : (ns : List Node) (es : List Equation) (a b c : List Equation) → Grown ns es a b → Grown ns es b c → Grown ns es a c
grown-grown ns es a b c g grown_none = g
grown-grown ns es a b c g (grown_more {new = between} h q) = grown_more (grown-grown ns es a b between g h) q

pub extends-none : (log : List Equation) → Extends log log
extends-none log = record { by = λ ns es. grown_none }

pub extends-extends : (a b c : List Equation) → Extends a b → Extends b c → Extends a c
extends-extends a b c g h = record { by = λ ns es. grown-grown ns es a b c (g.by ns es) (h.by ns es) }

pub reason-extends : (old new : List Equation) → Extends old new → (i x y : ℕ) → Reason old i x y → Reason new i x y
reason-extends old new g = reason-grown [] [] old new (g.by [] [])

pub strict-extends : (old new : List Equation) → Extends old new → (i x y : ℕ) → StrictReason old i x y → StrictReason new i x y
strict-extends old new g = strict-grown [] [] old new (g.by [] [])

-- a reason above 0 is a line
pub reason-line : (log : List Equation) (i x y : ℕ) → Reason log i x y → (i ≡ 0 → ⊥) → At log i x y
reason-line log i x y (inl h) n = absurd (n h.0)
reason-line log i x y (inr h) n = h

pub reason-none : (log : List Equation) (i x y : ℕ) → Reason log i x y → i ≡ 0 → x ≡ y
reason-none log i x y (inl h) z = h.1
reason-none log i x y (inr h) z = absurd (omega (arith, h.counted))

-- a reason for two different terms is a line
pub reason-differs : (log : List Equation) (i x y : ℕ) → Reason log i x y → (x ≡ y → ⊥) → At log i x y
reason-differs log i x y (inl h) n = absurd (n h.1)
reason-differs log i x y (inr h) n = h

pub strict-differs : (log : List Equation) (i x y : ℕ) → StrictReason log i x y → (x ≡ y → ⊥) → At log i x y
strict-differs log i x y (inl h) n = absurd (n h.1)
strict-differs log i x y (inr h) n = h.1

pub reason-strict : (log : List Equation) (i x y : ℕ) → Reason log i x y → (x ≡ y → ⊥) → StrictReason log i x y
reason-strict log i x y (inl h) n = absurd (n h.1)
reason-strict log i x y (inr h) n = inr (n, h)

-- ---- reasons in either order

turned-extends : (old new : List Equation) → Extends old new → (b : Bool) (i x y : ℕ) → AtTurned b old i x y → AtTurned b new i x y
turned-extends old new g false i x y h = at-grown [] [] old new (g.by [] []) i x y h
turned-extends old new g true i x y h = at-grown [] [] old new (g.by [] []) i y x h

pub because-extends : (old new : List Equation) → Extends old new → (w : Why) (x y : ℕ) → Because old w x y → Because new w x y
because-extends old new g w x y (inl h) = inl h
because-extends old new g w x y (inr h) = inr (turned-extends old new g w.turned w.line x y h)

turned-back : (log : List Equation) (b : Bool) (i x y : ℕ) → AtTurned b log i x y → AtTurned (not b) log i y x
turned-back log false i x y h = h
turned-back log true i x y h = h

pub because-back : (log : List Equation) (w v : Why) (x y : ℕ) → v ≡ record { line = w.line; turned = not w.turned } → Because log w x y → Because log v y x
because-back log w v x y e h = subst (λ (u : Why). Because log u y x) (sym e) (go h)
  where
    go : Because log w x y → Because log (record { line = w.line; turned = not w.turned }) y x
    go (inl p) = inl (p.0, sym p.1)
    go (inr p) = inr (turned-back log w.turned w.line x y p)

turned-line : (log : List Equation) (b c : Bool) (i x y : ℕ) → b ≡ c → AtTurned b log i x y → AtTurned c log i x y
turned-line log b c i x y e h = subst (λ d. AtTurned d log i x y) e h

turned-counted : (log : List Equation) (b : Bool) (i x y : ℕ) → AtTurned b log i x y → 0 < i
turned-counted log false i x y h = h.counted
turned-counted log true i x y h = h.counted

pub because-none : (log : List Equation) (w : Why) (x y : ℕ) → Because log w x y → w.line ≡ 0 → x ≡ y
because-none log w x y (inl h) z = h.1
because-none log w x y (inr h) z = let counted = turned-counted log w.turned w.line x y h in absurd (omega (arith, z, counted))

-- a reason with a line, in the order that is told
pub because-line : (log : List Equation) (w : Why) (x y : ℕ) (b : Bool) → Because log w x y → (w.line ≡ 0 → ⊥) → w.turned ≡ b → AtTurned b log w.line x y
because-line log w x y b (inl h) n e = absurd (n h.0)
because-line log w x y b (inr h) n e = turned-line log w.turned b w.line x y e h

-- a reason that isn't turned round
pub because-straight : (log : List Equation) (w : Why) (x y : ℕ) → Because log w x y → (w.line ≡ 0) ⊎ (w.turned ≡ false) → Reason log w.line x y
because-straight log w x y (inl h) e = inl h
because-straight log w x y (inr h) (inl z) = let counted = turned-counted log w.turned w.line x y h in absurd (omega (arith, z, counted))
because-straight log w x y (inr h) (inr e) = inr (turned-line log w.turned false w.line x y e h)

pub because-same : (log : List Equation) (w : Why) (x : ℕ) → w.line ≡ 0 → Because log w x x
because-same log w x e = inl (e, refl)

pub not-false : (b : Bool) → not b ≡ false → b ≡ true
not-false true e = refl
not-false false e = cc

pub not-true : (b : Bool) → not b ≡ true → b ≡ false
not-true false e = refl
not-true true e = cc

-- what a chain of two lines that are turned round gives is turned round
pub because-turned : (log : List Equation) (n x y : ℕ) → Reason log n y x → Because log (record { line = n; turned = true }) x y
because-turned log n x y (inl h) = inl (h.0, sym h.1)
because-turned log n x y (inr h) = inr h

pub because-plain : (log : List Equation) (n x y : ℕ) → Reason log n x y → Because log (record { line = n; turned = false }) x y
because-plain log n x y (inl h) = inl h
because-plain log n x y (inr h) = inr h

-- ---- lines that are put last

-- what a note gives
pub noted : (old : List Equation) (e : Equation) → (log : List Equation) (n : ℕ) → (log ≡ old ++ e ∷ []) × (n ≡ length log)
    → ((ns : List Node) (es : List Equation) → Holds ns es old e) → Reason log n e.left e.right × Extends old log
noted old e log n h holds =
    let P : List Equation → Type 0 = λ l. At l (length l) e.left e.right × Extends old l in
    let pushed : At log (length log) e.left e.right × Extends old log = subst P (sym h.0) (at-pushed old e, record { by = λ ns es. grown_more grown_none (holds ns es) }) in
    (inr (subst (λ i. At log i e.left e.right) (sym h.1) pushed.0), pushed.1)

-- its number is above 0
pub note-above : (old : List Equation) (e : Equation) (log : List Equation) (n : ℕ) → (log ≡ old ++ e ∷ []) × (n ≡ length log) → n ≡ 0 → ⊥
note-above old e log n h z =
    let size : length log ≡ length (old ++ e ∷ []) = ap (λ (l : List Equation). length l) h.0 in
    let more : length (old ++ e ∷ []) ≡ length old + 1 = length-append old (e ∷ []) in
    omega (arith, size, more, z, h.1)

pub noted-ok : (old : List Equation) (e : Equation) (log : List Equation) (r : Result ℕ OutOfMemory) → IfOk r (λ n. (log ≡ old ++ e ∷ []) × (n ≡ length log))
    → ((ns : List Node) (es : List Equation) → Holds ns es old e) → IfOk r (λ n. Reason log n e.left e.right × Extends old log)
noted-ok old e log (Ok n) h holds = noted old e log n h holds
noted-ok old e log (Err d) h holds = tt

pub flipped : (ns : List Node) (es log : List Equation) (i x y : ℕ) → At log i y x → Holds ns es log (record { left = x; right = y; by = line.Flip i })
flipped ns es log i x y h = inr h

pub chained : (ns : List Node) (es log : List Equation) (i j x m y : ℕ) → Reason log i x m → Reason log j m y → (i ≡ 0 → ⊥) → (j ≡ 0 → ⊥) → Holds ns es log (record { left = x; right = y; by = line.Chain i j })
chained ns es log i j x m y g h p q = inr (m, (reason-line log i x m g p, reason-line log j m y h q))

-- ---- a valid log holds joined terms alone

strict-joined : (ns : List Node) (es log : List Equation) → ((i x y : ℕ) → At log i x y → Joined ns es x y) → (i x y : ℕ) → StrictReason log i x y → Joined ns es x y
strict-joined ns es log at i x y (inl h) = subst (λ z. Joined ns es x z) h.1 joined_same
strict-joined ns es log at i x y (inr h) = at i x y h.1

gives-joined : (ns : List Node) (es log : List Equation) → ((i x y : ℕ) → At log i x y → Joined ns es x y) → (l : Line) (x y : ℕ) → Gives ns log l x y → Joined ns es x y
gives-joined ns es log at (line.Flip i) x y h = joined_flip (at i y x h)
gives-joined ns es log at (line.Chain i j) x y h = joined_chain (at i x h.0 h.1.0) (at j h.0 y h.1.1)
gives-joined ns es log at (line.Same i j rs) x y h =
    let same : Joined ns es i j = joined_args h.1.1.alike (λ k lt. strict-joined ns es log at _ _ _ (h.1.1.each k lt)) in
    subst (λ z. Joined ns es x z) h.1.0 (subst (λ z. Joined ns es z j) h.0 same)
gives-joined ns es log at (line.Part i k) x y h =
    let parts : Joined ns es (arg_at ns h.left (k - 1)) (arg_at ns h.right (k - 1)) = joined_part (at i h.left h.right h.line) h.same (k - 1) (omega (arith, h.counted, h.first)) (omega (arith, h.counted, h.second)) in
    subst (λ z. Joined ns es x z) h.right_part (subst (λ z. Joined ns es z (arg_at ns h.right (k - 1))) h.left_part parts)
gives-joined ns es log at l x y h = absurd h

holds-joined : (ns : List Node) (es log : List Equation) → ((i x y : ℕ) → At log i x y → Joined ns es x y) → (e : Equation) → Holds ns es log e → Joined ns es e.left e.right
holds-joined ns es log at e (inl h) = joined_given e h
holds-joined ns es log at e (inr h) = gives-joined ns es log at e.by e.left e.right h

pub grown-joined : (ns : List Node) (es old new : List Equation) → Grown ns es old new → ((i x y : ℕ) → At old i x y → Joined ns es x y) → (i x y : ℕ) → At new i x y → Joined ns es x y
grown-joined ns es old new grown_none at = at
grown-joined ns es old new (grown_more {new = between} {e = e} g q) at =
    let before : (i x y : ℕ) → At between i x y → Joined ns es x y = grown-joined ns es old between g at in
    λ i x y h. pushed-joined between e before (holds-joined ns es between before e q) i x y (at-pushed-cases between e i x y h)
  where
    pushed-joined : (log : List Equation) (f : Equation) → ((i x y : ℕ) → At log i x y → Joined ns es x y) → Joined ns es f.left f.right → (i x y : ℕ) → At log i x y ⊎ ((f.left ≡ x) × (f.right ≡ y)) → Joined ns es x y
    pushed-joined log f before now i x y (inl h) = before i x y h
    pushed-joined log f before now i x y (inr h) = subst (λ z. Joined ns es x z) h.1 (subst (λ z. Joined ns es z f.right) h.0 now)

no-line : (ns : List Node) (es : List Equation) (i x y : ℕ) → At [] i x y → Joined ns es x y
no-line ns es i x y h = absurd (omega (arith, h.counted, h.within))

pub valid-joined : (ns : List Node) (es log : List Equation) → Valid ns es log → (i x y : ℕ) → At log i x y → Joined ns es x y
valid-joined ns es log v = grown-joined ns es [] log v (no-line ns es)

pub because-joined : (ns : List Node) (es log : List Equation) → Valid ns es log → (w : Why) (x y : ℕ) → Because log w x y → Joined ns es x y
because-joined ns es log v w x y (inl h) = subst (λ z. Joined ns es x z) h.1 joined_same
because-joined ns es log v w x y (inr h) = go w.turned h
  where
    go : (b : Bool) → AtTurned b log w.line x y → Joined ns es x y
    go false at = valid-joined ns es log v w.line x y at
    go true at = joined_flip (valid-joined ns es log v w.line y x at)

-- ---- logs that grow by lines of their own terms

pub note-grown : (ns : List Node) (es old : List Equation) (e : Equation) (log : List Equation) (n : ℕ) → (log ≡ old ++ e ∷ []) × (n ≡ length log) → Holds ns es old e → Grown ns es old log
note-grown ns es old e log n h holds = let P : List Equation → Type 0 = λ l. Grown ns es old l in subst P (sym h.0) (grown_more grown_none holds)

holds-more : (ns : List Node) (es log : List Equation) (e : Equation) → Holds ns [] log e → Holds ns es log e
holds-more ns es log e (inl h) = absurd (omega (arith, h.1))
holds-more ns es log e (inr h) = inr h

pub grown-more : (ns : List Node) (es old new : List Equation) → Grown ns [] old new → Grown ns es old new
grown-more ns es old new grown_none = grown_none
grown-more ns es old new (grown_more {new = between} {e = e} g q) = grown_more (grown-more ns es old between g) (holds-more ns es between e q)

-- the line that was noted
pub note-at : (old : List Equation) (e : Equation) (log : List Equation) (n : ℕ) → (log ≡ old ++ e ∷ []) × (n ≡ length log) → At log n e.left e.right
note-at old e log n h = let P : List Equation → Type 0 = λ l. At l (length l) e.left e.right in subst (λ i. At log i e.left e.right) (sym h.1) (subst P (sym h.0) (at-pushed old e))

pub valid-is : (ns : List Node) (es a b : List Equation) → a ≡ b → Valid ns es b → Valid ns es a
valid-is ns es a b e v = subst (λ (l : List Equation). Valid ns es l) (sym e) v

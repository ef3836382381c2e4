-- What is answered where a limit is passed.
use Rattle.std.proofs.Common.{◌≡◌, ◌<◌, ◌≤◌, ◌+◌, ◌^◌, inl, inr, ℕ, Bool, true, false, List, [], ◌∷◌, ◌++◌, take, drop, length, Option, Some, None, refl, sym, ◌∙◌, ap, subst, arith, append_assoc, Result, Err}
use Rattle.std.proofs.lemmas.List.{take-append-drop}
use Rattle.std.proofs.Math.Seq.{take-append-add}
use Rattle.fst_grammar.proofs.Cuts as X
use Rattle.fst_syntax.specs.Tokens.{Token, alphabet}
use Rattle.fst_syntax.specs.Productions as n
use Rattle.fst_syntax.specs.Lexemes.{lexemes}
use Rattle.fst_syntax.specs.Limits.{see, passed, passed_behind, limit_at, limit_from, first_limit}
use Rattle.fst_syntax.specs.Program.{FaultAt, Begins, IsRefused, AtLimit, Rising, place, first_place}
use Rattle.fst_base.specs.declared.place.Pos.{Pos}
use Rattle.fst_base.specs.declared.rule.Rule.{Rule}
use Rattle.fst_base.specs.declared.rule.Rule.TheVariants as rule
use Rattle.fst_base.specs.declared.rule.Fault.{Fault}
use Rattle.fst_base.specs.declared.rule.Fault.TheVariants as F
use Rattle.fst_syntax.specs.declared.limit.Limit.{Limit}
use Rattle.fst_syntax.specs.declared.limit.Seen.{Seen}
use Rattle.fst_syntax.proofs.Rising.{limit_stands, later, place_later}

abbrev placed : Option Pos → ℕ
placed None = 0
placed (Some p) = p.at

-- a fault within the tokens up to the limit
early_fault : (ts cut back : List Token) (ks : List Token) (at : Pos) (end : ℕ) → ts ≡ cut ++ back → FaultAt cut ks → Some at ≡ first_place ks → (ls : List Token) × (FaultAt ts ls × (at.at ≡ place end ls))
early_fault ts cut back [] at end s f e = cc (e)
early_fault ts cut back (t ∷ ks) at end s f e =
    (t ∷ (ks ++ back), (subst (λ us. FaultAt us (t ∷ (ks ++ back))) (sym s) (X.longer alphabet n.N n.T n.rule n.program cut back t ks f), ap placed e))

-- where that fault is behind the limit's place, so is every fault
late_fault : (ts cut back ks ls : List Token) (at : Pos) (end p : ℕ) → ts ≡ cut ++ back → FaultAt cut ks → Some at ≡ first_place ks → p < at.at → FaultAt ts ls → p < place end ls
late_fault ts cut back ks ls at end p s f e l g =
    let w = early_fault ts cut back ks at end s f e in
    let same = X.one_fault alphabet n.N n.T n.rule n.program ts w.0 ls w.1.0 g in
    subst (λ q. p < q) (w.1.1 ∙ ap (place end) same) l

-- where the tokens up to the limit begin a program, every fault is behind its place
behind_limit : (ts front back ls : List Token) (t : Token) (end p : ℕ) → Rising 0 ts end → ts ≡ front ++ (t ∷ back) → p ≤ t.at → Begins (front ++ (t ∷ [])) → FaultAt ts ls → p < place end ls
behind_limit ts front back ls t end p r s l b f =
    let s' : ts ≡ (front ++ (t ∷ [])) ++ back = s ∙ sym (append_assoc front (t ∷ []) back) in
    let w = X.behind alphabet n.N n.T n.rule n.program (front ++ (t ∷ [])) back ls b (subst (λ us. FaultAt us ls) s' f) in
    let r' : Rising (t.at + 1) (w.0 ++ ls) end = subst (λ us. Rising (t.at + 1) us end) w.1 (later 0 front t back end (subst (λ us. Rising 0 us end) s r)) in
    let h = place_later (t.at + 1) w.0 ls end r' in omega (arith, h, l)

-- the tokens up to the limit
abbrev pub up_to : Limit → List Token → List Token
up_to l ts = take (l.index + 1) ts

parts : (l : Limit) (ts : List Token) → ts ≡ up_to l ts ++ drop (l.index + 1) ts
parts l ts = sym (take-append-drop (l.index + 1) ts)

-- a fault among them answers, where it stands up to the limit's place
pub fault_answers : (ts ks : List Token) (end : ℕ) (l : Limit) (at : Pos) → FaultAt (up_to l ts) ks → Some at ≡ first_place ks → at.at ≤ l.at.at
    → AtLimit ts end l (F.Refused rule.Syntax at)
fault_answers ts ks end l at f e le = let w = early_fault ts _ _ ks at end (parts l ts) f e in inl (refl, (w.0, (w.1.0, (w.1.1, le))))

-- where it stands behind that place, the limit answers
pub limit_answers : (ts ks : List Token) (end : ℕ) (l : Limit) (at : Pos) → FaultAt (up_to l ts) ks → Some at ≡ first_place ks → l.at.at < at.at
    → AtLimit ts end l (F.Refused l.rule l.at)
limit_answers ts ks end l at f e lt = inr (refl, (refl, λ ls g. late_fault ts _ _ ks ls at end l.at.at (parts l ts) f e lt g))

-- where they begin a program, the limit answers
pub limit_alone : (ts : List Token) (end : ℕ) (l : Limit) → Rising 0 ts end → first_limit ts ≡ Some l → Begins (up_to l ts)
    → AtLimit ts end l (F.Refused l.rule l.at)
limit_alone ts end l r p b =
    let s = limit_stands ts end l r p in
    let i : l.index ≡ length s.front = (let k = s.index in omega (arith, k)) in
    let c : up_to l ts ≡ s.front ++ (s.token ∷ []) = ap (λ us. up_to l us) s.split ∙ ap (λ m. take (m + 1) (s.front ++ (s.token ∷ s.back))) i ∙ take-append-add s.front (s.token ∷ s.back) 1 in
    inr (refl, (refl, λ ls f. behind_limit ts s.front s.back ls s.token end l.at.at r s.split s.there (subst Begins c b) f))

-- the rules that limits break
OfLimit : Rule → Type 0
OfLimit rule.TooDeep = Unit {0}
OfLimit rule.NumberTooWide = Unit {0}
OfLimit _ = ⊥

OfLimits : Option (Rule × Pos) → Type 0
OfLimits None = Unit {0}
OfLimits (Some p) = OfLimit p.0

passed_rule : (m : Option Pos) (wide deep : Bool) (at : Pos) → OfLimits (passed_behind m wide deep at)
unfolding OfLimits OfLimit
passed_rule None wide true at = tt
passed_rule None true false at = tt
passed_rule None false false at = tt
passed_rule (Some m) true deep at = tt
passed_rule (Some m) false true at = tt
passed_rule (Some m) false false at = tt

abbrev rule_of : Rule → Option Limit → Rule
rule_of r None = r
rule_of r (Some l) = l.rule

rule_at : (i : ℕ) (o : Option (Rule × Pos)) (later : Option Limit) (l : Limit) → OfLimits o → (later ≡ Some l → OfLimit l.rule) → limit_at i o later ≡ Some l → OfLimit l.rule
unfolding OfLimits
rule_at i None later l o f e = f e
rule_at i (Some p) later l o f e = subst OfLimit (ap (rule_of p.0) e) o

limit_rule : (s : Seen) (i : ℕ) (ts : List Token) (l : Limit) → limit_from s i ts ≡ Some l → OfLimit l.rule
limit_rule s i [] l e = cc (e)
limit_rule s i (t ∷ ts) l e =
    rule_at i (passed s t) (limit_from (see s t.terminal (record { at = t.at })) (i + 1) ts) l (passed_rule s.minus _ _ (record { at = t.at }))
    (limit_rule (see s t.terminal (record { at = t.at })) (i + 1) ts l) e

abbrev placed_limit : Option Limit → ℕ
placed_limit None = 0
placed_limit (Some l) = l.at.at

module _ (bytes : List ℕ) (short : length bytes ≤ 2 ^ 20) (l : Limit) (passed : first_limit (lexemes bytes) ≡ Some l) where
  by_limit : (r : Rule) (p : Pos) → OfLimit r → r ≡ l.rule → p ≡ l.at → ((ks : List Token) → FaultAt (lexemes bytes) ks → l.at.at < place (length bytes) ks) → IsRefused bytes r p
  unfolding OfLimit
  by_limit rule.TooDeep p o e q first =
      record { short = short; limit = l; passed = passed; rule_is = e; there = ap (λ (x : Pos). x.at) q; first = λ ks f. subst (λ (x : Pos). x.at < place (length bytes) ks) (sym q) (first ks f) }
  by_limit rule.NumberTooWide p o e q first =
      record { short = short; limit = l; passed = passed; rule_is = e; there = ap (λ (x : Pos). x.at) q; first = λ ks f. subst (λ (x : Pos). x.at < place (length bytes) ks) (sym q) (first ks f) }
  by_limit _ p o e q first = absurd o

  by_fault : (p : Pos) (ks : List Token) → FaultAt (lexemes bytes) ks → p.at ≡ place (length bytes) ks → p.at ≤ l.at.at → IsRefused bytes rule.Syntax p
  by_fault p ks f e le = record {
    short = short;
    left = ks;
    fault = f;
    there = e;
    first = λ m h. let same : l.at.at ≡ m.at.at = ap placed_limit (sym passed ∙ h) in subst (λ x. p.at ≤ x) same le;
  }

  answered : (f : Fault) (r : Rule) (p : Pos) → f ≡ F.Refused r p → AtLimit (lexemes bytes) (length bytes) l f → IsRefused bytes r p
  answered f r p e a = elim (subst (AtLimit (lexemes bytes) (length bytes) l) e a) [
    | inl w ↦ subst (λ q. IsRefused bytes q p) (sym w.0) (by_fault p w.1.0 w.1.1.0 w.1.1.1.0 w.1.1.1.1)
    | inr w ↦ by_limit r p (subst OfLimit (sym w.0) (limit_rule _ 0 (lexemes bytes) l passed)) w.0 w.1.0 w.1.1
  ]

-- what is refused where a limit is passed; ts are the tokens of the text
pub refused : (bytes : List ℕ) (ts : List Token) (l : Limit) (f : Fault) (r : Rule) (p : Pos) → length bytes ≤ 2 ^ 20 → ts ≡ lexemes bytes → first_limit ts ≡ Some l
    → AtLimit ts (length bytes) l f → f ≡ F.Refused r p → IsRefused bytes r p
refused bytes ts l f r p short h e a g = answered bytes short l (subst (λ us. first_limit us ≡ Some l) h e) f r p g (subst (λ us. AtLimit us (length bytes) l f) h a)

pub err_same : (A : Type 0) (f g : Fault) → ◌≡◌ {A = Result A Fault} (Err f) (Err g) → f ≡ g
err_same A f g e = cc (e)

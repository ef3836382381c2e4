-- A closed partition contains the least congruence, and labels with reasons in a valid log lie in it.
use Rattle.std.proofs.Common.{◌≡◌, ◌↔◌, ℕ, ◌<◌, ◌≤◌, ◌⊎◌, inl, inr, List, [], length, refl, sym, ap, subst, ◌∙◌, arith}
use Rattle.std.proofs.lemmas.Bool.{cases_lt}
use Rattle.std.proofs.Math.ListN.{get_or-eq_default}
use Rattle.fst_congruence.specs.declared.equation.Equation.{Equation}
use Rattle.fst_congruence.specs.declared.node.Node.{Node}
use Rattle.fst_congruence.specs.declared.why.Why.{Why}
use Rattle.fst_congruence.specs.Joined.{Joined, joined_same, joined_flip, joined_chain, joined_given, joined_args, joined_part, node_at}
use Rattle.fst_congruence.specs.Lines.{Valid}
use Rattle.fst_congruence.specs.Classes.{label_at, Labelled, IsClosed}
use Rattle.fst_congruence.proofs.LogLemmas.{because-joined}

-- a term with a constructor is one of the numbered ones
pub constructor-within : (ns : List Node) (i : ℕ) → 0 < (node_at ns i).constructor → i < length ns
constructor-within ns i h = go (cases_lt i (length ns))
  where
    go : (i < length ns) ⊎ (length ns ≤ i) → i < length ns
    go (inl lt) = lt
    go (inr le) = let none : (node_at ns i).constructor ≡ 0 = ap (λ (n : Node). n.constructor) (get_or-eq_default ns (record { kind = 0; constructor = 0; args = [] }) le) in absurd (omega (arith, h, none))

pub closed-joined : (ns : List Node) (es : List Equation) (labels : List ℕ) → IsClosed ns es labels → (i j : ℕ) → Joined ns es i j → label_at labels i ≡ label_at labels j
closed-joined ns es labels c i j joined_same = refl
closed-joined ns es labels c i j (joined_flip h) = sym (closed-joined ns es labels c _ _ h)
closed-joined ns es labels c i j (joined_chain h k) = closed-joined ns es labels c _ _ h ∙ closed-joined ns es labels c _ _ k
closed-joined ns es labels c i j (joined_given e h) = c.given e h
closed-joined ns es labels c i j (joined_args h k) = c.args _ _ h.first h.second h (λ m lt. closed-joined ns es labels c _ _ (k m lt))
closed-joined ns es labels c i j (joined_part {i = x} {j = y} h s k p q) =
    c.parts x y (constructor-within ns x s.some) (constructor-within ns y (subst (λ n. 0 < n) s.same s.some)) (closed-joined ns es labels c x y h) s k p q

pub labels-joined : (ns : List Node) (es : List Equation) (labels : List ℕ) (whys : List Why) (log : List Equation) → Valid ns es log → Labelled labels whys log
    → (i j : ℕ) → i < length labels → j < length labels → label_at labels i ≡ label_at labels j → Joined ns es i j
labels-joined ns es labels whys log v l i j p q e =
    joined_chain (subst (λ z. Joined ns es i z) e (because-joined ns es log v _ i _ (l.reasons i p))) (joined_flip (because-joined ns es log v _ j _ (l.reasons j q)))

-- the labels of a closed state are equal exactly where the least congruence joins the terms
pub labels-exact : (ns : List Node) (es : List Equation) (labels : List ℕ) (whys : List Why) (log : List Equation) → Valid ns es log → Labelled labels whys log → IsClosed ns es labels
    → (i j : ℕ) → i < length labels → j < length labels → (label_at labels i ≡ label_at labels j) ↔ Joined ns es i j
labels-exact ns es labels whys log v l c i j p q = (labels-joined ns es labels whys log v l i j p q, closed-joined ns es labels c i j)

-- What guesses of numbers and kinds give, where the code has compared.
use Rattle.std.proofs.Common.{◌≡◌, ℕ, zero, suc, ◌+◌, ◌-◌, ◌<◌, List, ◌∷◌, length, map, take, get_or, true, sym, ap, ◌∙◌, arith}
use Rattle.std.proofs.lemmas.List.{length-map, get_or-map, get_or_default, get_or-take, length-take-le}
use Rattle.fst_terms.specs.declared.term.Term.{Term}
use Rattle.fst_terms.specs.Terms.{Tm, t_unit, plain_term}
use Rattle.fst_congruence.specs.declared.node.Node.{Node}
use Rattle.fst_congruence.specs.Numbered.{same_head, kind_of, node_of, no_node, head_of, head_term, term_at, IsNumber, IsOnce}
use Rattle.fst_congruence.proofs.HeadLemmas.{kind-itself, kind-like}

item-plain : (terms : List Term) (at : ℕ) (w d : Term) → at < length terms → w ≡ get_or terms at w → plain_term (get_or terms at d) ≡ plain_term w
item-plain terms at w d lt is = ap (λ (t : Term). plain_term t) (get_or_default terms at d w lt ∙ sym is)

-- the term at a place that is its own head
pub place-kind : (terms : List Term) (at n : ℕ) (w : Term) → at < length terms → w ≡ get_or terms at w → IsOnce (map plain_term terms) → n ≡ at + 1 → head_of (plain_term w) ≡ head_term (plain_term w) → (d : Term) → n ≡ kind_of (map plain_term terms) (plain_term (get_or terms at d))
place-kind terms at n w lt is once e own d =
    let ts : List Tm = map plain_term terms in
    let size : length ts ≡ length terms = length-map terms plain_term in
    let number : IsNumber ts (at + 1) = record { counted = omega arith; within = omega (arith, lt, size) } in
    let back : at + 1 - 1 ≡ at = omega arith in
    let stands : term_at ts (at + 1) ≡ plain_term w = ap (λ k. get_or ts k t_unit) back ∙ get_or-map plain_term terms at w t_unit lt ∙ ap (λ (t : Term). plain_term t) (sym is) in
    e ∙ sym (kind-itself ts (at + 1) (plain_term w) once number stands own) ∙ ap (kind_of ts) (sym (item-plain terms at w d lt is))

-- the node of an earlier term with the same head
pub guessed-kind : (terms : List Term) (nodes : List Node) (at likely : ℕ) (n : Node) (w u : Term) → at < length terms → nodes ≡ no_node ∷ map (node_of (map plain_term terms)) (map plain_term (take at terms)) → 0 < likely → likely < length nodes
    → n ≡ get_or nodes likely n → w ≡ get_or terms at w → u ≡ get_or terms (likely - 1) u → same_head (plain_term w) (plain_term u) ≡ true → (d : Term) → n.kind ≡ kind_of (map plain_term terms) (plain_term (get_or terms at d))
guessed-kind terms nodes at zero n w u lt made some below is_n is_w is_u same d = absurd (omega (arith, some))
guessed-kind terms nodes at (suc m) n w u lt made some below is_n is_w is_u same d =
    let ts : List Tm = map plain_term terms in
    let front : List Tm = map plain_term (take at terms) in
    let size : length (map (node_of ts) front) ≡ at = length-map front (node_of ts) ∙ length-map (take at terms) plain_term ∙ length-take-le at terms (omega (arith, lt)) in
    let count : length nodes ≡ suc at = ap (λ (ns : List Node). length ns) made ∙ ap suc size in
    let inside : m < at = omega (arith, below, count) in
    let back : suc m - 1 ≡ m = omega arith in
    let short : m < length front = (let width = length-map (take at terms) plain_term in let taken = length-take-le at terms (omega (arith, lt)) in omega (arith, inside, width, taken)) in
    let shorter : m < length (take at terms) = (let taken = length-take-le at terms (omega (arith, lt)) in omega (arith, inside, taken)) in
    let node : n ≡ node_of ts (plain_term u) =
    is_n ∙ ap (λ (ns : List Node). get_or ns (suc m) n) made ∙ get_or-map (node_of ts) front m t_unit n short
    ∙ ap (node_of ts) (get_or-map plain_term (take at terms) m u t_unit shorter ∙ ap (λ (t : Term). plain_term t) (get_or-take at terms m u inside ∙ ap (λ k. get_or terms k u) (sym back) ∙ sym is_u)) in
    ap (λ (x : Node). x.kind) node ∙ sym (kind-like ts (plain_term w) (plain_term u) same) ∙ ap (kind_of ts) (sym (item-plain terms at w d lt is_w))

-- Values and environments stay as a memory grows.
use Rattle.std.proofs.Common.{◌≡◌, ℕ, zero, suc, ◌+◌, ◌-◌, ◌<◌, ◌≤◌, List, [], ◌∷◌, ◌++◌, length, drop, Option, Some, None, slice_get, refl, sym, ap, ◌∙◌, subst, arith}
use Rattle.std.proofs.lemmas.Option.{slice_get_within}
use Rattle.std.specs.Prelude.{MatchOption}
use Rattle.fst_base.specs.Values.{Val, v_unit}
use Rattle.fst_terms.specs.Meaning.{Env, lookup}
use Rattle.fst_cells.specs.declared.cell.Cell.{Cell}
use Rattle.fst_cells.specs.Trees as trees
use Rattle.fst_cells.proofs.TreeLemmas as kept
use Rattle.fst_machine.specs.declared.memory.Chain.{Chain}
use Rattle.fst_machine.specs.declared.memory.Link.{Link}
use Rattle.fst_machine.specs.declared.memory.Memory.{Memory}
use Rattle.fst_machine.specs.Memories.{IsCell, InputIs, ChainAt, IsChain, Keeps}

pub value-kept : (m m' : Memory) (c : Cell) (v : Val) → Keeps m m' → IsCell m c v → IsCell m' c v
value-kept m m' c v h k = kept.value-kept m.store m'.store c v h.cells k

pub input-kept : (m m' : Memory) (c : Option Cell) (v : Val) → Keeps m m' → InputIs m c v → InputIs m' c v
input-kept m m' c v h k = kept.given-kept m.store m'.store c v h.cells k

-- an environment stays where its links stay
chain-stays : (m m' : Memory) (k : ℕ) (e : Env) → Keeps m m' → ChainAt m k e → ChainAt m' k e
chain-stays m m' k [] h c = c
chain-stays m m' zero (v ∷ e) h c = absurd c
chain-stays m m' (suc k) (v ∷ e) h c = (c.0, (h.links k c.0 c.1.0, value-kept m m' c.0.cell v h c.1.1, c.1.2, chain-stays m m' c.0.rest.links e h c.1.3))

pub chain-kept : (m m' : Memory) (c : Chain) (e : Env) → Keeps m m' → IsChain m c e → IsChain m' c e
chain-kept m m' c e h k = chain-stays m m' c.links e h k

-- an environment's links are there
pub chain-within : (m : Memory) (k : ℕ) (e : Env) → ChainAt m k e → k ≤ length m.links
chain-within m k [] c = omega (arith, c)
chain-within m zero (v ∷ e) c = absurd c
chain-within m (suc k) (v ∷ e) c = let lt : k < length m.links = slice_get_within m.links k c.0 c.1.0 in omega (arith, lt)

pub kept-same : (m : Memory) → Keeps m m
kept-same m = record { cells = kept.kept-same m.store; links = λ at l q. q }

pub kept-then : (m m' m'' : Memory) → Keeps m m' → Keeps m' m'' → Keeps m m''
kept-then m m' m'' h k = record { cells = kept.kept-then m.store m'.store m''.store h.cells k.cells; links = λ at l q. k.links at l (h.links at l q) }

-- where the cells stay and no link is touched, all stays
pub store-kept : (m m' : Memory) → trees.Keeps m.store m'.store → m'.links ≡ m.links → Keeps m m'
store-kept m m' h q = record { cells = h; links = λ at l k. subst (λ ls. slice_get ls at ≡ Some l) (sym q) k }

get-more : {X : Type 0} (xs ys : List X) (i : ℕ) (x : X) → slice_get xs i ≡ Some x → slice_get (xs ++ ys) i ≡ Some x
get-more [] ys zero x q = cc
get-more [] ys (suc i) x q = cc
get-more (z ∷ xs) ys zero x q = q
get-more (z ∷ xs) ys (suc i) x q = get-more xs ys i x q

get-last : {X : Type 0} (xs : List X) (x : X) → slice_get (xs ++ x ∷ []) (length xs) ≡ Some x
get-last [] x = refl
get-last (z ∷ xs) x = get-last xs x

-- a link more
pub link-kept : (m m' : Memory) (l : Link) → m'.store ≡ m.store → m'.links ≡ m.links ++ l ∷ [] → Keeps m m'
link-kept m m' l p q = record {
  cells = subst (λ s. trees.Keeps m.store s) (sym p) (kept.kept-same m.store);
  links = λ at k h. subst (λ ls. slice_get ls at ≡ Some k) (sym q) (get-more m.links (l ∷ []) at k h);
}

pub link-there : (m m' : Memory) (l : Link) (v : Val) (e : Env) → m'.store ≡ m.store → m'.links ≡ m.links ++ l ∷ [] → IsCell m l.cell v → ChainAt m l.rest.links e → ChainAt m' (suc (length m.links)) (v ∷ e)
link-there m m' l v e p q h k =
    let kept = link-kept m m' l p q in
    let le = chain-within m l.rest.links e k in
    (l, (subst (λ ls. slice_get ls (length m.links) ≡ Some l) (sym q) (get-last m.links l), value-kept m m' l.cell v kept h, le, chain-kept m m' l.rest e kept k))

-- ---- the last link

pub top-none : (m : Memory) (n : ℕ) (e : Env) → n ≡ 0 → ChainAt m n e → e ≡ []
top-none m n [] q c = refl
top-none m zero (v ∷ e) q c = absurd c
top-none m (suc n) (v ∷ e) q c = absurd (omega (arith, q))

pub top-link : (m : Memory) (n : ℕ) (o : Option Link) (e : Env) → 0 < n → o ≡ slice_get m.links (n - 1) → ChainAt m n e
    → MatchOption o (e ≡ []) (λ l. (v : Val) × ((d : Env) × ((e ≡ v ∷ d) × IsCell m l.cell v × IsChain m l.rest d)))
top-link m n o [] lt q c = absurd (omega (arith, lt, c))
top-link m zero o (v ∷ e) lt q c = absurd c
top-link m (suc n) o (v ∷ e) lt q c =
    let z : suc n - 1 ≡ n = omega arith in
    let there : o ≡ Some c.0 = q ∙ ap (slice_get m.links) z ∙ c.1.0 in
    subst (λ o. MatchOption o ((v ∷ e) ≡ []) (λ l. (w : Val) × ((d : Env) × (((v ∷ e) ≡ w ∷ d) × IsCell m l.cell w × IsChain m l.rest d)))) (sym there) (v, (e, (refl, c.1.1, c.1.3)))

-- ---- the value of a variable

drop-next : {X : Type 0} (xs : List X) (i : ℕ) (x : X) (ys : List X) → drop i xs ≡ x ∷ ys → drop (suc i) xs ≡ ys
drop-next [] zero x ys q = cc
drop-next [] (suc i) x ys q = cc
drop-next (z ∷ xs) zero x ys q = cc
drop-next (z ∷ xs) (suc i) x ys q = drop-next xs i x ys q

drop-lookup : (e : Env) (i : ℕ) → lookup e i ≡ lookup (drop i e) 0
drop-lookup [] zero = refl
drop-lookup [] (suc i) = refl
drop-lookup (v ∷ e) zero = refl
drop-lookup (v ∷ e) (suc i) = drop-lookup e i

-- what the top of an environment is
abbrev pub TopIs : Memory → Env → Option Link → Type 0
TopIs m e o = MatchOption o (e ≡ []) (λ l. (v : Val) × ((d : Env) × ((e ≡ v ∷ d) × IsCell m l.cell v × IsChain m l.rest d)))

pub look-step : (m : Memory) (o : Option Link) (l : Link) (i : ℕ) (e : Env) → o ≡ Some l → TopIs m (drop i e) o → IsChain m l.rest (drop (i + 1) e)
look-step m o l i e q h =
    let k = subst (TopIs m (drop i e)) q h in
    let n : i + 1 ≡ suc i = omega arith in
    subst (λ d. IsChain m l.rest d) (sym (ap (λ n. drop n e) n ∙ drop-next e i k.0 k.1.0 k.1.1.0)) k.1.1.2

-- no variable is there past the first one
pub look-none : (m : Memory) (o : Option Link) (i n : ℕ) (e : Env) → i ≤ n → o ≡ None → TopIs m (drop i e) o → lookup e n ≡ v_unit
look-none m o i n e le q h = past e i n le (subst (TopIs m (drop i e)) q h)
  where
    past : (e : Env) (i n : ℕ) → i ≤ n → drop i e ≡ [] → lookup e n ≡ v_unit
    past [] i n le k = refl
    past (v ∷ e) zero n le k = cc
    past (v ∷ e) (suc i) zero le k = absurd (omega (arith, le))
    past (v ∷ e) (suc i) (suc n) le k = past e i n (omega (arith, le)) k

pub look-cell : (m : Memory) (o : Option Link) (l : Link) (n : ℕ) (e : Env) → o ≡ Some l → TopIs m (drop n e) o → IsCell m l.cell (lookup e n)
look-cell m o l n e q h =
    let k = subst (TopIs m (drop n e)) q h in
    subst (IsCell m l.cell) (sym (drop-lookup e n ∙ ap (λ d. lookup d 0) k.1.1.0)) k.1.1.1

-- The measures of a function: at most four.
use Rattle.std.proofs.Common.{◌≡◌, ℕ, zero, suc, true, false, if◌then◌else◌, List, [], ◌∷◌, ◌++◌, append-nil, append_assoc, refl, sym, ◌∙◌, ap, Ok, Err, arith}
use Rattle.fst_base.specs.declared.place.Pos.{Pos}
use Rattle.fst_grammar.specs.Reading.{◌>>=◌}
use Rattle.fst_syntax.specs.declared.stop.Stop.{Stop}
use Rattle.fst_syntax.specs.declared.stop.Stop.TheVariants.{Syntax, NoMemory}
use Rattle.fst_syntax.specs.declared.terminal.Terminal.TheVariants as k
use Rattle.fst_syntax.specs.Tokens.{Token}
use Rattle.fst_syntax.specs.Trees.{Tree}
use Rattle.fst_syntax.specs.Productions as n
use Rattle.fst_syntax.specs.Reading.{Reads, reads, takes, behind}
use Rattle.fst_syntax.proofs.Opens.{opens}
use Rattle.fst_syntax.proofs.Enclosed.{O, comes, if_both}

-- a mark, an item and what follows
marked_at : (p : Pos) (a : Tree) (o : O (List Tree))
    → ◌≡◌ {A = O (List Tree)} (◌>>=◌ {A = Tree × List Tree} {B = List Tree} (◌>>=◌ {A = Pos × (Tree × List Tree)} {B = Tree × List Tree} (◌>>=◌ {A = Tree × List Tree} {B = Pos × (Tree × List Tree)} (o >>= (λ more ks. Ok ((a, more), ks))) (λ q ks. Ok ((p, q), ks))) (λ p ks. Ok (p.1, ks))) (λ p ks. Ok (p.0 ∷ p.1, ks))) (behind (a ∷ []) o)
marked_at p a (Ok q) = refl
marked_at p a (Err ks) = refl

marked_item : (p : Pos) (o : O Tree) (more : List Token → O (List Tree))
    → ◌≡◌ {A = O (List Tree)} (◌>>=◌ {A = Tree × List Tree} {B = List Tree} (◌>>=◌ {A = Pos × (Tree × List Tree)} {B = Tree × List Tree} (◌>>=◌ {A = Tree × List Tree} {B = Pos × (Tree × List Tree)} (o >>= (λ a ms. more ms >>= (λ xs ks. Ok ((a, xs), ks)))) (λ q ks. Ok ((p, q), ks))) (λ p ks. Ok (p.1, ks))) (λ p ks. Ok (p.0 ∷ p.1, ks)))
    (o >>= (λ a us. behind (a ∷ []) (more us)))
marked_item p (Ok q) more = marked_at p q.0 (more q.1)
marked_item p (Err ks) more = refl

marked : (o : O Pos) (item : List Token → O Tree) (more : List Token → O (List Tree))
    → ◌≡◌ {A = O (List Tree)} (◌>>=◌ {A = Tree × List Tree} {B = List Tree} (◌>>=◌ {A = Pos × (Tree × List Tree)} {B = Tree × List Tree} (o >>= (λ p ts. ◌>>=◌ {A = Tree × List Tree} {B = Pos × (Tree × List Tree)} (item ts >>= (λ a ms. more ms >>= (λ xs ks. Ok ((a, xs), ks)))) (λ q ks. Ok ((p, q), ks)))) (λ p ks. Ok (p.1, ks))) (λ p ks. Ok (p.0 ∷ p.1, ks)))
    (o >>= (λ _ ms. item ms >>= (λ a us. behind (a ∷ []) (more us))))
marked (Ok p) item more = marked_item p.0 (item p.1) more
marked (Err ks) item more = refl

pub measures_opens : (ts : List Token) → reads n.measures ts
    ≡ (if (comes (k.Decreases ∷ []) ts) then (takes k.Decreases ts >>= (λ _ ms. reads (n.term true) ms >>= (λ a us. behind (a ∷ []) (reads (n.measures_more 3) us)))) else (Ok ([], ts)))
measures_opens ts = opens n.measures ts ∙ if_both (comes (k.Decreases ∷ []) ts) _ _ _ _ (marked (takes k.Decreases ts) (reads (n.term true)) (reads (n.measures_more 3))) refl

more_opens : (m : ℕ) (ts : List Token) → reads (n.measures_more (suc m)) ts
    ≡ (if (comes (k.Comma ∷ []) ts) then (takes k.Comma ts >>= (λ _ ms. reads (n.term true) ms >>= (λ a us. behind (a ∷ []) (reads (n.measures_more m) us)))) else (Ok ([], ts)))
more_opens m ts = opens (n.measures_more (suc m)) ts ∙ if_both (comes (k.Comma ∷ []) ts) _ _ _ _ (marked (takes k.Comma ts) (reads (n.term true)) (reads (n.measures_more m))) refl

appended : (xs : List Tree) (a : Tree) (o : O (List Tree)) → behind xs (behind (a ∷ []) o) ≡ behind (xs ++ (a ∷ [])) o
appended xs a (Err ks) = refl
appended xs a (Ok p) = ap (λ ys. Ok (ys, p.1)) (sym (append_assoc xs (a ∷ []) p.0))

pub none_left : (ts : List Token) (xs : List Tree) (m : ℕ) → m ≡ 0 → behind xs (reads (n.measures_more m) ts) ≡ Ok (xs, ts)
none_left ts xs zero e = ap (behind xs) (opens (n.measures_more zero) ts) ∙ rw (append-nil xs) refl
none_left ts xs (suc m) e = absurd (omega (arith, e))

pub no_comma : (ts : List Token) (xs : List Tree) (m : ℕ) → comes (k.Comma ∷ []) ts ≡ false → behind xs (reads (n.measures_more m) ts) ≡ Ok (xs, ts)
no_comma ts xs zero e = none_left ts xs zero refl
no_comma ts xs (suc m) e = ap (behind xs) (more_opens m ts) ∙ rw (e, append-nil xs) refl

pub one_more : (ts us vs : List Token) (xs : List Tree) (m l : ℕ) (p : Pos) (a : Tree) → m ≡ suc l → comes (k.Comma ∷ []) ts ≡ true → takes k.Comma ts ≡ Ok (p, us) → reads (n.term true) us ≡ Ok (a, vs)
    → behind xs (reads (n.measures_more m) ts) ≡ behind (xs ++ (a ∷ [])) (reads (n.measures_more l) vs)
one_more ts us vs xs m l p a w e h g = ap (λ m. behind xs (reads (n.measures_more m) ts)) w ∙ ap (behind xs) (more_opens l ts) ∙ rw (e, h, g) (appended xs a (reads (n.measures_more l) vs))

pub bad_comma : (ts us : List Token) (xs : List Tree) (m l : ℕ) (e : Stop) → m ≡ suc l → comes (k.Comma ∷ []) ts ≡ true → Reads (takes k.Comma ts) (Err e) us → Reads (behind xs (reads (n.measures_more m) ts)) (Err e) us
bad_comma ts us xs m l Syntax w e h = ap (λ m. behind xs (reads (n.measures_more m) ts)) w ∙ ap (behind xs) (more_opens l ts) ∙ rw (e, h) refl
bad_comma ts us xs m l NoMemory w e h = tt

pub bad_form : (ts us vs : List Token) (xs : List Tree) (m l : ℕ) (p : Pos) (e : Stop) → m ≡ suc l → comes (k.Comma ∷ []) ts ≡ true → takes k.Comma ts ≡ Ok (p, us) → Reads (reads (n.term true) us) (Err e) vs
    → Reads (behind xs (reads (n.measures_more m) ts)) (Err e) vs
bad_form ts us vs xs m l p Syntax w e h g = ap (λ m. behind xs (reads (n.measures_more m) ts)) w ∙ ap (behind xs) (more_opens l ts) ∙ rw (e, h, g) refl
bad_form ts us vs xs m l p NoMemory w e h g = tt

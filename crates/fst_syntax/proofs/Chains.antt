-- Left-nested chains: what is read behind a first operand, as the loops that read them see it.
use Rattle.std.proofs.Common.{◌≡◌, Bool, true, false, if◌then◌else◌, List, [], ◌∷◌, refl, ◌∙◌, ap, Ok, Err}
use Rattle.fst_grammar.specs.Reading.{Outcome, ◌>>=◌}
use Rattle.fst_syntax.specs.declared.stop.Stop.{Stop}
use Rattle.fst_syntax.specs.declared.stop.Stop.TheVariants.{Syntax, NoMemory}
use Rattle.fst_syntax.specs.Tokens.{Token, alphabet}
use Rattle.fst_syntax.specs.Trees.{Tree}
use Rattle.fst_grammar.specs.Alphabet.{has, next}
use Rattle.fst_syntax.specs.declared.terminal.Terminal.TheVariants as k
use Rattle.fst_syntax.specs.Tables.{firsts}
use Rattle.fst_syntax.specs.Trees as t
use Rattle.fst_syntax.specs.Productions as n
use Rattle.fst_syntax.specs.Reading.{Reads, reads, takes, applied}
use Rattle.fst_syntax.proofs.Opens.{opens}

linked_at : (a : Tree) (o : Outcome Token (Tree → Tree))
    → ◌≡◌ {A = Outcome Token Tree} (◌>>=◌ {A = Tree × (Tree → Tree)} {B = Tree} (o >>= λ g ks. Ok ((a, g), ks)) (λ p ks. Ok (p.1 p.0, ks))) (applied a o)
linked_at a (Ok p) = refl
linked_at a (Err ks) = refl

linked : (o : Outcome Token Tree) (more : List Token → Outcome Token (Tree → Tree))
    → ◌≡◌ {A = Outcome Token Tree} (◌>>=◌ {A = Tree × (Tree → Tree)} {B = Tree} (o >>= λ a ms. more ms >>= λ g ks. Ok ((a, g), ks)) (λ p ks. Ok (p.1 p.0, ks))) (o >>= λ a ms. applied a (more ms))
linked (Ok p) more = linked_at p.0 (more p.1)
linked (Err ks) more = refl

pub prod_opens : (f : Bool) (ts : List Token) → reads (n.prod f) ts ≡ (reads (n.un f) ts >>= λ a ms. applied a (reads (n.prod_more f) ms))
prod_opens f ts = opens (n.prod f) ts ∙ linked (reads (n.un f) ts) (reads (n.prod_more f))

pub sum_opens : (f : Bool) (ts : List Token) → reads (n.sum f) ts ≡ (reads (n.prod f) ts >>= λ a ms. applied a (reads (n.sum_more f) ms))
sum_opens f ts = opens (n.sum f) ts ∙ linked (reads (n.prod f) ts) (reads (n.sum_more f))

pub conj_opens : (f : Bool) (ts : List Token) → reads (n.conj f) ts ≡ (reads (n.cmp f) ts >>= λ a ms. applied a (reads (n.conj_more f) ms))
conj_opens f ts = opens (n.conj f) ts ∙ linked (reads (n.cmp f) ts) (reads (n.conj_more f))

pub disj_opens : (f : Bool) (ts : List Token) → reads (n.disj f) ts ≡ (reads (n.conj f) ts >>= λ a ms. applied a (reads (n.disj_more f) ms))
disj_opens f ts = opens (n.disj f) ts ∙ linked (reads (n.conj f) ts) (reads (n.disj_more f))

module _ {A : Type 0} where
  -- what a chain's tail gives: an operator, an operand and the tail again where the test holds, else nothing
  abbrev pub chain : (A → Tree → Tree → Tree) → Bool → Outcome Token A → (List Token → Outcome Token Tree) → (List Token → Outcome Token (Tree → Tree)) → List Token → Outcome Token (Tree → Tree)
  chain make test operator operand more ms = if test
      then (◌>>=◌ {A = A × (Tree × (Tree → Tree))} {B = Tree → Tree} (operator >>= (λ p us. ◌>>=◌ {A = Tree × (Tree → Tree)} {B = A × (Tree × (Tree → Tree))} (operand us >>= (λ b vs. more vs >>= (λ g ks. Ok ((b, g), ks)))) (λ q ks. Ok ((p, q), ks)))) (λ p ks. Ok ((λ a. p.1.1 (make p.0 a p.1.0)), ks)))
      else (Ok ((λ a. a), ms))

  -- an operator and its right operand
  abbrev pub operation : Outcome Token A → (List Token → Outcome Token Tree) → Outcome Token (A × Tree)
  operation operator operand = operator >>= λ p us. operand us >>= λ b vs. Ok ((p, b), vs)

  -- the facts that a loop over a chain's tail keeps to
  pub record Chained (make : A → Tree → Tree → Tree) (operand : List Token → Outcome Token Tree) (more : List Token → Outcome Token (Tree → Tree)) (test : Bool) (operator : Outcome Token A) (ms : List Token) : Type 0 where
    pub stop : (a : Tree) → test ≡ false → applied a (more ms) ≡ Ok (a, ms)
    pub step : (a b : Tree) (p : A) (vs : List Token) → test ≡ true → operation operator operand ≡ Ok ((p, b), vs) → applied a (more ms) ≡ applied (make p a b) (more vs)
    pub no_step : (a : Tree) (e : Stop) (us : List Token) → test ≡ true → Reads (operation operator operand) (Err e) us → Reads (applied a (more ms)) (Err e) us

  module _ (make : A → Tree → Tree → Tree) (operand : List Token → Outcome Token Tree) (more : List Token → Outcome Token (Tree → Tree)) where
    -- the tail behind an operator and its right operand
    abbrev behind_step : A × Tree → Outcome Token (Tree → Tree) → Outcome Token (Tree → Tree)
    behind_step q o = o >>= λ g ks. Ok ((λ a. g (make q.0 a q.1)), ks)

    behind_operand : (p : A) (b : Tree) (o : Outcome Token (Tree → Tree))
        → ◌≡◌ {A = Outcome Token (Tree → Tree)} (◌>>=◌ {A = A × (Tree × (Tree → Tree))} {B = Tree → Tree} (◌>>=◌ {A = Tree × (Tree → Tree)} {B = A × (Tree × (Tree → Tree))} (o >>= λ g ks. Ok ((b, g), ks)) (λ q ks. Ok ((p, q), ks))) (λ p ks. Ok ((λ a. p.1.1 (make p.0 a p.1.0)), ks))) (behind_step (p, b) o)
    behind_operand p b (Ok q) = refl
    behind_operand p b (Err ks) = refl

    behind_operator : (p : A) (o : Outcome Token Tree)
        → ◌≡◌ {A = Outcome Token (Tree → Tree)} (◌>>=◌ {A = A × (Tree × (Tree → Tree))} {B = Tree → Tree} (◌>>=◌ {A = Tree × (Tree → Tree)} {B = A × (Tree × (Tree → Tree))} (o >>= (λ b vs. more vs >>= (λ g ks. Ok ((b, g), ks)))) (λ q ks. Ok ((p, q), ks))) (λ p ks. Ok ((λ a. p.1.1 (make p.0 a p.1.0)), ks)))
        (◌>>=◌ {A = A × Tree} {B = Tree → Tree} (o >>= λ b vs. Ok ((p, b), vs)) (λ q vs. behind_step q (more vs)))
    behind_operator p (Ok q) = behind_operand p q.0 (more q.1)
    behind_operator p (Err ks) = refl

    regrouped : (o : Outcome Token A)
        → ◌≡◌ {A = Outcome Token (Tree → Tree)} (◌>>=◌ {A = A × (Tree × (Tree → Tree))} {B = Tree → Tree} (o >>= (λ p us. ◌>>=◌ {A = Tree × (Tree → Tree)} {B = A × (Tree × (Tree → Tree))} (operand us >>= (λ b vs. more vs >>= (λ g ks. Ok ((b, g), ks)))) (λ q ks. Ok ((p, q), ks)))) (λ p ks. Ok ((λ a. p.1.1 (make p.0 a p.1.0)), ks)))
        (◌>>=◌ {A = A × Tree} {B = Tree → Tree} (operation o operand) (λ q vs. behind_step q (more vs)))
    regrouped (Ok p) = behind_operator p.0 (operand p.1)
    regrouped (Err ks) = refl

    one_more : (a b : Tree) (p : A) (o : Outcome Token (Tree → Tree)) → applied a (behind_step (p, b) o) ≡ applied (make p a b) o
    one_more a b p (Ok q) = refl
    one_more a b p (Err ks) = refl

    module _ (test : Bool) (operator : Outcome Token A) (ms : List Token) (opened : more ms ≡ chain make test operator operand more ms) where
      begun : test ≡ true → more ms ≡ ◌>>=◌ {A = A × Tree} {B = Tree → Tree} (operation operator operand) (λ q vs. behind_step q (more vs))
      begun e = opened ∙ rw e (regrouped operator)

      stop : (a : Tree) → test ≡ false → applied a (more ms) ≡ Ok (a, ms)
      stop a e = ap (applied a) opened ∙ rw e refl

      step : (a b : Tree) (p : A) (vs : List Token) → test ≡ true → operation operator operand ≡ Ok ((p, b), vs) → applied a (more ms) ≡ applied (make p a b) (more vs)
      step a b p vs e h = ap (applied a) (begun e) ∙ rw h (one_more a b p (more vs))

      no_step : (a : Tree) (e : Stop) (us : List Token) → test ≡ true → Reads (operation operator operand) (Err e) us → Reads (applied a (more ms)) (Err e) us
      no_step a Syntax us e h = ap (applied a) (begun e) ∙ rw h refl
      no_step a NoMemory us e h = tt

      chained : Chained make operand more test operator ms
      chained = record { stop = stop; step = step; no_step = no_step }

pub disj_chained : (f : Bool) (ms : List Token) → Chained t.disjunction (reads (n.conj f)) (reads (n.disj_more f)) (has alphabet (k.BarBar ∷ []) (next alphabet ms)) (takes k.BarBar ms) ms
disj_chained f ms = chained t.disjunction (reads (n.conj f)) (reads (n.disj_more f)) (has alphabet (k.BarBar ∷ []) (next alphabet ms)) (takes k.BarBar ms) ms (opens (n.disj_more f) ms)

pub conj_chained : (f : Bool) (ms : List Token) → Chained t.conjunction (reads (n.cmp f)) (reads (n.conj_more f)) (has alphabet (k.AmpAmp ∷ []) (next alphabet ms)) (takes k.AmpAmp ms) ms
conj_chained f ms = chained t.conjunction (reads (n.cmp f)) (reads (n.conj_more f)) (has alphabet (k.AmpAmp ∷ []) (next alphabet ms)) (takes k.AmpAmp ms) ms (opens (n.conj_more f) ms)

pub sum_chained : (f : Bool) (ms : List Token) → Chained t.operated (reads (n.prod f)) (reads (n.sum_more f)) (has alphabet (firsts n.sum_operator) (next alphabet ms)) (reads n.sum_operator ms) ms
sum_chained f ms = chained t.operated (reads (n.prod f)) (reads (n.sum_more f)) (has alphabet (firsts n.sum_operator) (next alphabet ms)) (reads n.sum_operator ms) ms (opens (n.sum_more f) ms)

pub prod_chained : (f : Bool) (ms : List Token) → Chained t.operated (reads (n.un f)) (reads (n.prod_more f)) (has alphabet (firsts n.prod_operator) (next alphabet ms)) (reads n.prod_operator ms) ms
prod_chained f ms = chained t.operated (reads (n.un f)) (reads (n.prod_more f)) (has alphabet (firsts n.prod_operator) (next alphabet ms)) (reads n.prod_operator ms) ms (opens (n.prod_more f) ms)

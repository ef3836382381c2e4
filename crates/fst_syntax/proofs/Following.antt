-- A term is its first operand with what follows it, and nothing follows where no operator does.
use Rattle.std.proofs.Common.{◌≡◌, Bool, true, false, List, [], ◌∷◌, None, refl, ◌∙◌, ap, Ok, Err}
use Rattle.fst_grammar.specs.Alphabet.{next, within}
use Rattle.fst_grammar.specs.Reading.{◌>>=◌}
use Rattle.fst_grammar.proofs.KindSets.{has_within}
use Rattle.fst_syntax.specs.declared.terminal.Terminal.{Terminal}
use Rattle.fst_syntax.specs.declared.terminal.Terminal.TheVariants as k
use Rattle.fst_syntax.specs.Tokens.{Token, alphabet}
use Rattle.fst_syntax.specs.Trees as t
use Rattle.fst_syntax.specs.Trees.{Tree}
use Rattle.fst_syntax.specs.Productions as n
use Rattle.fst_syntax.specs.Tables.{firsts, operators, compare_first}
use Rattle.fst_syntax.specs.Reading.{reads, applied}
use Rattle.fst_syntax.specs.Following.{behind_disj, behind_conj, behind_cmp, behind_con, behind_sum, behind_prod, behind_un}
use Rattle.fst_syntax.proofs.Opens.{opens}
use Rattle.fst_syntax.proofs.Terminals.{kinds}
use Rattle.fst_syntax.proofs.Enclosed.{O, comes}
use Rattle.fst_syntax.proofs.Chains.{prod_opens, sum_opens, conj_opens, disj_opens, prod_chained, sum_chained, conj_chained, disj_chained}

onward : {X Y Z : Type 0} (o : O X) (g : X → List Token → O Y) (h : Y → List Token → O Z) → ((o >>= g) >>= h) ≡ (o >>= λ x us. g x us >>= h)
onward (Ok p) g h = refl
onward (Err ks) g h = refl

-- what is read behind a tree that two parts give, of which the second may follow the first
joined_at : {X Y Z W : Type 0} (x : X) (o : O Y) (make : X → Y → Z) (h : Z → List Token → O W)
    → ◌≡◌ {A = O W} (◌>>=◌ {A = Z} {B = W} (◌>>=◌ {A = X × Y} {B = Z} (o >>= λ y ks. Ok ((x, y), ks)) (λ p ks. Ok (make p.0 p.1, ks))) h) (o >>= λ y ks. h (make x y) ks)
joined_at x (Ok p) make h = refl
joined_at x (Err ks) make h = refl

joined : {X Y Z W : Type 0} (o : O X) (q : List Token → O Y) (make : X → Y → Z) (h : Z → List Token → O W)
    → ◌≡◌ {A = O W} (◌>>=◌ {A = Z} {B = W} (◌>>=◌ {A = X × Y} {B = Z} (o >>= λ x us. q us >>= λ y ks. Ok ((x, y), ks)) (λ p ks. Ok (make p.0 p.1, ks))) h) (o >>= λ x us. q us >>= λ y ks. h (make x y) ks)
joined (Ok p) q make h = joined_at p.0 (q p.1) make h
joined (Err ks) q make h = refl

whole_at : {X Y Z : Type 0} (x : X) (o : O Y) (make : X → Y → Z)
    → ◌≡◌ {A = O Z} (◌>>=◌ {A = X × Y} {B = Z} (o >>= λ y ks. Ok ((x, y), ks)) (λ p ks. Ok (make p.0 p.1, ks))) (o >>= λ y ks. Ok (make x y, ks))
whole_at x (Ok p) make = refl
whole_at x (Err ks) make = refl

whole : {X Y Z : Type 0} (o : O X) (q : List Token → O Y) (make : X → Y → Z)
    → ◌≡◌ {A = O Z} (◌>>=◌ {A = X × Y} {B = Z} (o >>= λ x us. q us >>= λ y ks. Ok ((x, y), ks)) (λ p ks. Ok (make p.0 p.1, ks))) (o >>= λ x us. q us >>= λ y ks. Ok (make x y, ks))
whole (Ok p) q make = whole_at p.0 (q p.1) make
whole (Err ks) q make = refl

module _ (f : Bool) (ts : List Token) where
  of_disj : reads (n.term f) ts ≡ (reads (n.disj f) ts >>= behind_disj f)
  of_disj = opens (n.term f) ts ∙ whole (reads (n.disj f) ts) (reads (n.implies_more f)) t.implied_by

  of_conj : reads (n.term f) ts ≡ (reads (n.conj f) ts >>= behind_conj f)
  of_conj = of_disj ∙ ap (λ o. o >>= behind_disj f) (disj_opens f ts) ∙ onward (reads (n.conj f) ts) (λ a us. applied a (reads (n.disj_more f) us)) (behind_disj f)

  of_cmp : reads (n.term f) ts ≡ (reads (n.cmp f) ts >>= behind_cmp f)
  of_cmp = of_conj ∙ ap (λ o. o >>= behind_conj f) (conj_opens f ts) ∙ onward (reads (n.cmp f) ts) (λ a us. applied a (reads (n.conj_more f) us)) (behind_conj f)

  of_con : reads (n.term f) ts ≡ (reads (n.con f) ts >>= behind_con f)
  of_con = of_cmp ∙ ap (λ o. o >>= behind_cmp f) (opens (n.cmp f) ts) ∙ joined (reads (n.con f) ts) (reads (n.cmp_more f)) t.compared_by (behind_cmp f)

  of_sum : reads (n.term f) ts ≡ (reads (n.sum f) ts >>= behind_sum f)
  of_sum = of_con ∙ ap (λ o. o >>= behind_con f) (opens (n.con f) ts) ∙ joined (reads (n.sum f) ts) (reads (n.con_more f)) t.cons_by (behind_con f)

  of_prod : reads (n.term f) ts ≡ (reads (n.prod f) ts >>= behind_prod f)
  of_prod = of_sum ∙ ap (λ o. o >>= behind_sum f) (sum_opens f ts) ∙ onward (reads (n.prod f) ts) (λ a us. applied a (reads (n.sum_more f) us)) (behind_sum f)

  pub term_opens : reads (n.term f) ts ≡ (reads (n.un f) ts >>= behind_un f)
  term_opens = of_prod ∙ ap (λ o. o >>= behind_prod f) (prod_opens f ts) ∙ onward (reads (n.un f) ts) (λ a us. applied a (reads (n.prod_more f) us)) (behind_prod f)

-- where no operator comes, none of a level comes
not_both : (b c : Bool) → (b ≡ true → c ≡ true) → c ≡ false → b ≡ false
not_both false c h e = refl
not_both true c h e = let g = h refl in cc

absent : (ks : List Terminal) (ts : List Token) → within alphabet ks operators ≡ true → comes operators ts ≡ false → comes ks ts ≡ false
absent ks ts w e = not_both (comes ks ts) (comes operators ts) (has_within alphabet kinds ks operators (next alphabet ts) w) e

module _ (f : Bool) (a : Tree) (ts : List Token) (e : comes operators ts ≡ false) where
  no_cons : reads (n.con_more f) ts ≡ Ok (None, ts)
  no_cons = opens (n.con_more f) ts ∙ rw (absent (k.ColonColon ∷ []) ts refl e) refl

  no_comparison : reads (n.cmp_more f) ts ≡ Ok (None, ts)
  no_comparison = opens (n.cmp_more f) ts ∙ rw (absent compare_first ts refl e) refl

  no_implication : reads (n.implies_more f) ts ≡ Ok (None, ts)
  no_implication = opens (n.implies_more f) ts ∙ rw (absent (k.Implies ∷ []) ts refl e) refl

  pub none_follows : behind_un f a ts ≡ Ok (a, ts)
  none_follows = rw (
    (prod_chained f ts).stop a (absent (firsts n.prod_operator) ts refl e),
    (sum_chained f ts).stop a (absent (firsts n.sum_operator) ts refl e),
    no_cons,
    no_comparison,
    (conj_chained f ts).stop a (absent (k.AmpAmp ∷ []) ts refl e),
    (disj_chained f ts).stop a (absent (k.BarBar ∷ []) ts refl e),
    no_implication,
  ) refl

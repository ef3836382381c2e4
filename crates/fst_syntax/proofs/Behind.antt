-- What reading gives of a part that begins with a name or with an operand.
use Rattle.std.proofs.Common.{◌≡◌, false, if◌then◌else◌, List, [], ◌∷◌, Option, refl, ◌∙◌, ap, Ok, Err}
use Rattle.fst_base.specs.declared.place.Pos.{Pos}
use Rattle.fst_grammar.specs.Grammar.{call}
use Rattle.fst_grammar.specs.Reading.{◌>>=◌}
use Rattle.fst_syntax.specs.declared.terminal.Terminal.TheVariants as k
use Rattle.fst_trees.specs.declared.word.Word.{Word}
use Rattle.fst_syntax.specs.declared.operator.Comparison.{Comparison}
use Rattle.fst_trees.specs.declared.body.PartTree.{PartTree}
use Rattle.fst_trees.specs.declared.body.PartNode.TheVariants as P
use Rattle.fst_trees.specs.declared.definition.DmTree.{DmTree}
use Rattle.fst_trees.specs.declared.definition.DmTree.TheVariants as D
use Rattle.fst_syntax.specs.Tokens.{Token}
use Rattle.fst_syntax.specs.Trees as t
use Rattle.fst_syntax.specs.Trees.{Tree}
use Rattle.fst_syntax.specs.Productions as n
use Rattle.fst_syntax.specs.Reading.{reads, run, takes, given}
use Rattle.fst_syntax.specs.Following.{behind_disj, behind_conj, behind_cmp, behind_con, behind_sum, behind_prod, behind_un}
use Rattle.fst_syntax.proofs.Opens.{opens}
use Rattle.fst_syntax.proofs.Enclosed.{O, comes, given_if, given_act, if_both}

link : {B C : Type 0} (b : B) (o : O (B → C)) → ◌≡◌ {A = O C} (◌>>=◌ {A = B × (B → C)} {B = C} (o >>= (λ g ks. Ok ((b, g), ks))) (λ p ks. Ok (p.1 p.0, ks))) (given b o)
link b (Ok p) = refl
link b (Err ks) = refl

-- a first tree, and what waits for it
linked : {B C : Type 0} (o : O B) (more : List Token → O (B → C)) → ◌≡◌ {A = O C} (◌>>=◌ {A = B × (B → C)} {B = C} (o >>= (λ b ms. more ms >>= (λ g ks. Ok ((b, g), ks)))) (λ p ks. Ok (p.1 p.0, ks))) (o >>= (λ b ms. given b (more ms)))
linked (Ok p) more = link p.0 (more p.1)
linked (Err ks) more = refl

pub named_part_opens : (ts : List Token) → reads n.named_part ts ≡ (reads n.name ts >>= λ w ms. given w (reads n.after_name ms))
named_part_opens ts = opens n.named_part ts ∙ linked (reads n.name ts) (reads n.after_name)

pub dm_named_part_opens : (ts : List Token) → reads n.dm_named_part ts ≡ (reads n.name ts >>= λ w ms. given w (reads n.dm_after_name ms))
dm_named_part_opens ts = opens n.dm_named_part ts ∙ linked (reads n.name ts) (reads n.dm_after_name)

pub operation_opens : (ts : List Token) → reads n.operation ts ≡ (reads (n.other false) ts >>= λ a ms. given a (reads n.rest ms))
operation_opens ts = opens n.operation ts ∙ linked (reads (n.other false) ts) (reads n.rest)

-- a called name, with its arguments
module _ {C : Type 0} (make : Word → List Tree → C) (w : Word) where
  called_at : (p : Pos) (o : O (List Tree))
      → ◌≡◌ {A = O C} (given w (◌>>=◌ {A = List Tree} {B = Word → C} (◌>>=◌ {A = Pos × List Tree} {B = List Tree} (o >>= (λ xs ks. Ok ((p, xs), ks))) (λ q ks. Ok (q.1, ks))) (λ xs ks. Ok ((λ w. make w xs), ks))))
      (o >>= (λ xs ks. Ok (make w xs, ks)))
  called_at p (Ok q) = refl
  called_at p (Err ks) = refl

  called : (o : O Pos) (args : List Token → O (List Tree))
      → ◌≡◌ {A = O C} (given w (◌>>=◌ {A = List Tree} {B = Word → C} (◌>>=◌ {A = Pos × List Tree} {B = List Tree} (o >>= (λ p ms. args ms >>= (λ xs ks. Ok ((p, xs), ks)))) (λ q ks. Ok (q.1, ks))) (λ xs ks. Ok ((λ w. make w xs), ks))))
      (o >>= (λ _ ms. args ms >>= (λ xs ks. Ok (make w xs, ks))))
  called (Ok p) args = called_at p.0 (args p.1)
  called (Err ks) args = refl

  operated : (term : Tree → C) (o : O (Tree → Tree))
      → ◌≡◌ {A = O C} (given w (o >>= (λ more ks. Ok ((λ w. term (more (t.ident w))), ks)))) (given (t.ident w) o >>= (λ a ks. Ok (term a, ks)))
  operated term (Ok p) = refl
  operated term (Err ks) = refl

abbrev call_part : Word → List Tree → PartTree Word
call_part w xs = record { at = w.at; node = P.Call w xs }

abbrev run_part : Word → List Tree → DmTree Word
run_part w xs = D.Run w xs

pub after_name_opens : (w : Word) (ts : List Token) → given w (reads n.after_name ts)
    ≡ (if (comes (k.LeftParen ∷ []) ts) then (takes k.LeftParen ts >>= (λ _ ms. reads (n.args false) ms >>= (λ xs ks. Ok (record { at = w.at; node = P.Call w xs }, ks))))
    else (given (t.ident w) (reads n.rest ts) >>= (λ a ks. Ok (n.term_part a, ks))))
after_name_opens w ts = ap (given w) (opens n.after_name ts) ∙ given_if w _ _ _
    ∙ if_both (comes (k.LeftParen ∷ []) ts) _ _ _ _ (called call_part w (takes k.LeftParen ts) (reads (n.args false))) (operated call_part w n.term_part (reads n.rest ts))

pub dm_after_name_opens : (w : Word) (ts : List Token) → given w (reads n.dm_after_name ts)
    ≡ (if (comes (k.LeftParen ∷ []) ts) then (takes k.LeftParen ts >>= (λ _ ms. reads n.run_args ms >>= (λ xs ks. Ok (D.Run w xs, ks))))
    else (given (t.ident w) (reads n.rest ts) >>= (λ a ks. Ok (D.Term a, ks))))
dm_after_name_opens w ts = ap (given w) (opens n.dm_after_name ts) ∙ given_if w _ _ _
    ∙ if_both (comes (k.LeftParen ∷ []) ts) _ _ _ _ (called run_part w (takes k.LeftParen ts) (reads n.run_args)) (operated run_part w D.Term (reads n.rest ts))

-- what is read behind a first operand, step by step
pull_at : {X Y Z : Type 0} (x : X) (o : O Y) (f : X × Y → Z)
    → ◌≡◌ {A = O Z} (◌>>=◌ {A = X × Y} {B = Z} (o >>= (λ y ks. Ok ((x, y), ks))) (λ p ks. Ok (f p, ks))) (o >>= (λ y ks. Ok (f (x, y), ks)))
pull_at x (Ok p) f = refl
pull_at x (Err ks) f = refl

pub pull : {X Y Z : Type 0} (o : O X) (q : List Token → O Y) (f : X × Y → Z)
    → ◌≡◌ {A = O Z} (◌>>=◌ {A = X × Y} {B = Z} (o >>= (λ x ms. q ms >>= (λ y ks. Ok ((x, y), ks)))) (λ p ks. Ok (f p, ks))) (o >>= (λ x ms. q ms >>= (λ y ks. Ok (f (x, y), ks))))
pull (Ok p) q f = pull_at p.0 (q p.1) f
pull (Err ks) q f = refl

pub then_same : {X Z : Type 0} (o : O X) (f g : X → List Token → O Z) → ((x : X) (ms : List Token) → f x ms ≡ g x ms) → (o >>= f) ≡ (o >>= g)
then_same (Ok p) f g h = h p.0 p.1
then_same (Err ks) f g h = refl

through : {Z : Type 0} (a : Tree) (o : O (Tree → Tree)) (f : Tree → List Token → O Z) → (o >>= (λ g ms. f (g a) ms)) ≡ (given a o >>= f)
through a (Ok p) f = refl
through a (Err ks) f = refl

abbrev Step : Type 0
Step = Tree → Tree

abbrev Q6 : List Token → O (Step × Option (Pos × Tree))
Q6 = run (n.◌⋅◌ (call (n.disj_more false)) (call (n.implies_more false)))

abbrev Q5 : List Token → O (Step × (Step × Option (Pos × Tree)))
Q5 = run (n.◌⋅◌ (call (n.conj_more false)) (n.◌⋅◌ (call (n.disj_more false)) (call (n.implies_more false))))

abbrev Q4 : List Token → O (Option (Comparison × Tree) × (Step × (Step × Option (Pos × Tree))))
Q4 = run (n.◌⋅◌ (call (n.cmp_more false)) (n.◌⋅◌ (call (n.conj_more false)) (n.◌⋅◌ (call (n.disj_more false)) (call (n.implies_more false)))))

abbrev Q3 : List Token → O (Option (Pos × Tree) × (Option (Comparison × Tree) × (Step × (Step × Option (Pos × Tree)))))
Q3 = run (n.◌⋅◌ (call (n.con_more false)) (n.◌⋅◌ (call (n.cmp_more false)) (n.◌⋅◌ (call (n.conj_more false)) (n.◌⋅◌ (call (n.disj_more false)) (call (n.implies_more false))))))

abbrev Q2 : List Token → O (Step × (Option (Pos × Tree) × (Option (Comparison × Tree) × (Step × (Step × Option (Pos × Tree))))))
Q2 = run (n.◌⋅◌ (call (n.sum_more false)) (n.◌⋅◌ (call (n.con_more false)) (n.◌⋅◌ (call (n.cmp_more false)) (n.◌⋅◌ (call (n.conj_more false)) (n.◌⋅◌ (call (n.disj_more false)) (call (n.implies_more false)))))))

abbrev Q1 : List Token → O (Step × (Step × (Option (Pos × Tree) × (Option (Comparison × Tree) × (Step × (Step × Option (Pos × Tree)))))))
Q1 = run (n.◌⋅◌ (call (n.prod_more false)) (n.◌⋅◌ (call (n.sum_more false)) (n.◌⋅◌ (call (n.con_more false)) (n.◌⋅◌ (call (n.cmp_more false)) (n.◌⋅◌ (call (n.conj_more false)) (n.◌⋅◌ (call (n.disj_more false)) (call (n.implies_more false))))))))

module _ (a : Tree) where
  abbrev F : Step × (Step × (Option (Pos × Tree) × (Option (Comparison × Tree) × (Step × (Step × Option (Pos × Tree)))))) → Tree
  F p = t.implied_by (p.1.1.1.1.1.0 (p.1.1.1.1.0 (t.compared_by (t.cons_by (p.1.0 (p.0 a)) p.1.1.0) p.1.1.1.0))) p.1.1.1.1.1.1

  step6 : (x y : Step) (z : Option (Pos × Tree)) (u : Option (Comparison × Tree)) (v : Step) (ms : List Token)
      → (Q6 ms >>= (λ p ks. Ok (F (x, (y, (z, (u, (v, p))))), ks))) ≡ behind_conj false (v (t.compared_by (t.cons_by (y (x a)) z) u)) ms
  step6 x y z u v ms = pull (reads (n.disj_more false) ms) (reads (n.implies_more false)) (λ p. F (x, (y, (z, (u, (v, p))))))
      ∙ through (v (t.compared_by (t.cons_by (y (x a)) z) u)) (reads (n.disj_more false) ms) (behind_disj false)

  step5 : (x y : Step) (z : Option (Pos × Tree)) (u : Option (Comparison × Tree)) (ms : List Token)
      → (Q5 ms >>= (λ p ks. Ok (F (x, (y, (z, (u, p)))), ks))) ≡ behind_cmp false (t.compared_by (t.cons_by (y (x a)) z) u) ms
  step5 x y z u ms = pull (reads (n.conj_more false) ms) Q6 (λ p. F (x, (y, (z, (u, p)))))
      ∙ then_same (reads (n.conj_more false) ms) (λ v ms. Q6 ms >>= (λ p ks. Ok (F (x, (y, (z, (u, (v, p))))), ks))) (λ v ms. behind_conj false (v (t.compared_by (t.cons_by (y (x a)) z) u)) ms) (step6 x y z u)
      ∙ through (t.compared_by (t.cons_by (y (x a)) z) u) (reads (n.conj_more false) ms) (behind_conj false)

  step4 : (x y : Step) (z : Option (Pos × Tree)) (ms : List Token)
      → (Q4 ms >>= (λ p ks. Ok (F (x, (y, (z, p))), ks))) ≡ behind_con false (t.cons_by (y (x a)) z) ms
  step4 x y z ms = pull (reads (n.cmp_more false) ms) Q5 (λ p. F (x, (y, (z, p))))
      ∙ then_same (reads (n.cmp_more false) ms) (λ u ms. Q5 ms >>= (λ p ks. Ok (F (x, (y, (z, (u, p)))), ks))) (λ u ms. behind_cmp false (t.compared_by (t.cons_by (y (x a)) z) u) ms) (step5 x y z)

  step3 : (x y : Step) (ms : List Token) → (Q3 ms >>= (λ p ks. Ok (F (x, (y, p)), ks))) ≡ behind_sum false (y (x a)) ms
  step3 x y ms = pull (reads (n.con_more false) ms) Q4 (λ p. F (x, (y, p)))
      ∙ then_same (reads (n.con_more false) ms) (λ z ms. Q4 ms >>= (λ p ks. Ok (F (x, (y, (z, p))), ks))) (λ z ms. behind_con false (t.cons_by (y (x a)) z) ms) (step4 x y)

  step2 : (x : Step) (ms : List Token) → (Q2 ms >>= (λ p ks. Ok (F (x, p), ks))) ≡ behind_prod false (x a) ms
  step2 x ms = pull (reads (n.sum_more false) ms) Q3 (λ p. F (x, p))
      ∙ then_same (reads (n.sum_more false) ms) (λ y ms. Q3 ms >>= (λ p ks. Ok (F (x, (y, p)), ks))) (λ y ms. behind_sum false (y (x a)) ms) (step3 x)
      ∙ through (x a) (reads (n.sum_more false) ms) (behind_sum false)

  step1 : (ms : List Token) → (Q1 ms >>= (λ p ks. Ok (F p, ks))) ≡ (given a (reads (n.prod_more false) ms) >>= behind_prod false)
  step1 ms = pull (reads (n.prod_more false) ms) Q2 F
      ∙ then_same (reads (n.prod_more false) ms) (λ x ms. Q2 ms >>= (λ p ks. Ok (F (x, p), ks))) (λ x ms. behind_prod false (x a) ms) step2
      ∙ through a (reads (n.prod_more false) ms) (behind_prod false)

  pub rest_opens : (ts : List Token) → given a (reads n.rest ts) ≡ behind_un false a ts
  rest_opens ts = ap (given a) (opens n.rest ts)
      ∙ given_act a (Q1 ts) (λ p a. t.implied_by (p.1.1.1.1.1.0 (p.1.1.1.1.0 (t.compared_by (t.cons_by (p.1.0 (p.0 a)) p.1.1.0) p.1.1.1.0))) p.1.1.1.1.1.1) ∙ step1 ts

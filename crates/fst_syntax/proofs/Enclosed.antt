-- What reading gives where a tree waits for a place or for what was read before.
use Rattle.std.proofs.Common.{◌≡◌, Bool, true, false, if◌then◌else◌, List, [], ◌∷◌, ◌++◌, append-nil, append_assoc, refl, sym, subst, ◌∙◌, ap, Ok, Err}
use Rattle.fst_base.specs.declared.place.Pos.{Pos}
use Rattle.fst_base.specs.declared.op.Op.TheVariants as op
use Rattle.fst_grammar.specs.Alphabet.{has, next}
use Rattle.fst_grammar.specs.Reading.{Outcome, ◌>>=◌}
use Rattle.fst_syntax.specs.declared.stop.Stop.{Stop}
use Rattle.fst_syntax.specs.declared.stop.Stop.TheVariants.{Syntax, NoMemory}
use Rattle.fst_syntax.specs.declared.operator.Separator.{Separator}
use Rattle.fst_syntax.specs.declared.operator.Separator.TheVariants.{Comma, Semicolon}
use Rattle.fst_syntax.specs.declared.terminal.Terminal.{Terminal}
use Rattle.fst_syntax.specs.declared.terminal.Terminal.TheVariants as k
use Rattle.fst_syntax.specs.Separators.{separator}
use Rattle.fst_syntax.specs.Tokens.{Token, alphabet}
use Rattle.fst_syntax.specs.Trees as t
use Rattle.fst_syntax.specs.Trees.{Tree}
use Rattle.fst_syntax.specs.Productions as n
use Rattle.fst_syntax.specs.Reading.{Reads, reads, takes, given, placed, closed, behind}
use Rattle.fst_syntax.proofs.Opens.{opens}

abbrev pub O : Type 0 → Type 0
O A = Outcome Token A

-- whether one of these comes next
abbrev pub comes : List Terminal → List Token → Bool
comes ks ts = has alphabet ks (next alphabet ts)

pub given_if : {B C : Type 0} (at : B) (b : Bool) (x y : O (B → C)) → given at (if b then x else y) ≡ (if b then given at x else given at y)
given_if at true x y = refl
given_if at false x y = refl

pub given_act : {A B C : Type 0} (at : B) (o : O A) (f : A → B → C) → ◌≡◌ {A = O C} (given at (o >>= λ a ks. Ok (f a, ks))) (o >>= λ a ks. Ok (f a at, ks))
given_act at (Ok p) f = refl
given_act at (Err ks) f = refl

pub if_both : {C : Type 0} (b : Bool) (x x' y y' : O C) → x ≡ x' → y ≡ y' → (if b then x else y) ≡ (if b then x' else y')
if_both true x x' y y' e h = e
if_both false x x' y y' e h = h

closed_at : (at : Pos) (a : Tree) (o : O (Tree → Pos → Tree))
    → ◌≡◌ {A = O Tree} (given at (◌>>=◌ {A = Tree × (Tree → Pos → Tree)} {B = Pos → Tree} (o >>= λ g ks. Ok ((a, g), ks)) (λ p ks. Ok ((λ at. p.1 p.0 at), ks)))) (closed a at o)
closed_at at a (Ok p) = refl
closed_at at a (Err ks) = refl

pub same_tree : {C : Type 0} (o : O C) → ◌≡◌ {A = O C} (o >>= λ a ks. Ok (a, ks)) o
same_tree (Ok p) = refl
same_tree (Err ks) = refl

closed_act : (at : Pos) (o : O Tree) (more : List Token → O (Tree → Pos → Tree))
    → ◌≡◌ {A = O Tree} (given at (◌>>=◌ {A = Tree × (Tree → Pos → Tree)} {B = Pos → Tree} (o >>= λ a ms. more ms >>= λ g ks. Ok ((a, g), ks)) (λ p ks. Ok ((λ at. p.1 p.0 at), ks)))) (o >>= λ a ms. closed a at (more ms))
closed_act at (Err ks) more = refl
closed_act at (Ok p) more = closed_at at p.0 (more p.1)

pub enclosed_opens : (f : Bool) (at : Pos) (ts : List Token) → placed at (reads (n.enclosed f) ts)
    ≡ (if (comes (k.RightParen ∷ []) ts) then (takes k.RightParen ts >>= λ _ ks. Ok (t.unit at, ks)) else
    (if (comes (k.If ∷ []) ts) then reads (n.choice f) ts else (reads (n.term f) ts >>= λ a ms. closed a at (reads (n.inner_more f) ms))))
enclosed_opens f at ts = ap (placed at) (opens (n.enclosed f) ts) ∙ given_if at _ _ _
    ∙ if_both (comes (k.RightParen ∷ []) ts) _ _ _ _ (given_act at (takes k.RightParen ts) (λ _ p. t.unit p))
    (given_if at _ _ _ ∙ if_both (comes (k.If ∷ []) ts) _ _ _ _ (given_act at (reads (n.choice f) ts) (λ a _. a) ∙ same_tree _) (closed_act at (reads (n.term f) ts) (reads (n.inner_more f))))

pub inner_opens : (at : Pos) (ts : List Token) → placed at (reads (n.inner true) ts)
    ≡ (if (comes (k.Let ∷ []) ts) then reads n.let_in ts else placed at (reads (n.enclosed true) ts))
inner_opens at ts = ap (placed at) (opens (n.inner true) ts) ∙ given_if at _ _ _
    ∙ if_both (comes (k.Let ∷ []) ts) _ _ _ _ (given_act at (reads n.let_in ts) (λ a _. a) ∙ same_tree _) (ap (placed at) (same_tree (reads (n.enclosed true) ts)))

pub inner_of_term : (f : Bool) (at : Pos) (ts : List Token) → f ≡ false → placed at (reads (n.inner f) ts) ≡ placed at (reads (n.enclosed f) ts)
inner_of_term true at ts e = cc
inner_of_term false at ts e = ap (placed at) (opens (n.inner false) ts ∙ same_tree _)

pub plain_of_term : (f : Bool) (ts : List Token) → f ≡ false → reads (n.plain f) ts ≡ reads (n.atom f) ts
plain_of_term true ts e = cc
plain_of_term false ts e = opens (n.plain false) ts ∙ same_tree _

pub named_of_term : (f : Bool) (ts : List Token) → f ≡ false → reads (n.named f) ts ≡ (reads n.name ts >>= λ w ks. Ok (t.ident w, ks))
named_of_term true ts e = cc
named_of_term false ts e = opens (n.named false) ts

-- lists of terms
pub list_stop : (s : Separator) (m : Terminal) (f : Bool) (ts : List Token) (xs : List Tree) → m ≡ separator s → comes (m ∷ []) ts ≡ false → behind xs (reads (n.terms_more s f) ts) ≡ Ok (xs, ts)
list_stop s m f ts xs w e =
    let h = subst (λ m. comes (m ∷ []) ts ≡ false) w e in
    ap (behind xs) (opens (n.terms_more s f) ts) ∙ rw (h, append-nil xs) refl

list_more : (xs : List Tree) (at : Pos) (a : Tree) (o : O (List Tree))
    → ◌≡◌ {A = O (List Tree)}
    (behind xs (◌>>=◌ {A = Tree × List Tree} {B = List Tree} (◌>>=◌ {A = Pos × (Tree × List Tree)} {B = Tree × List Tree} (◌>>=◌ {A = Tree × List Tree} {B = Pos × (Tree × List Tree)} (◌>>=◌ {A = List Tree} {B = Tree × List Tree} o (λ more ks. Ok ((a, more), ks))) (λ q ks. Ok ((at, q), ks))) (λ p ks. Ok (p.1, ks))) (λ p ks. Ok (p.0 ∷ p.1, ks))))
    (behind (xs ++ (a ∷ [])) o)
list_more xs at a (Err ks) = refl
list_more xs at a (Ok p) = ap (λ ys. Ok (ys, p.1)) (sym (append_assoc xs (a ∷ []) p.0))

pub list_step : (s : Separator) (m : Terminal) (f : Bool) (ts us vs : List Token) (xs : List Tree) (at : Pos) (a : Tree) → m ≡ separator s → comes (m ∷ []) ts ≡ true → takes m ts ≡ Ok (at, us) → reads (n.term f) us ≡ Ok (a, vs)
    → behind xs (reads (n.terms_more s f) ts) ≡ behind (xs ++ (a ∷ [])) (reads (n.terms_more s f) vs)
list_step s m f ts us vs xs at a w e h g =
    let e' = subst (λ m. comes (m ∷ []) ts ≡ true) w e in
    let h' = subst (λ m. takes m ts ≡ Ok (at, us)) w h in
    ap (behind xs) (opens (n.terms_more s f) ts) ∙ rw (e', h', g) (list_more xs at a (reads (n.terms_more s f) vs))

pub list_no_mark : (s : Separator) (m : Terminal) (f : Bool) (ts us : List Token) (xs : List Tree) (e : Stop) → m ≡ separator s → comes (m ∷ []) ts ≡ true → Reads (takes m ts) (Err e) us → Reads (behind xs (reads (n.terms_more s f) ts)) (Err e) us
list_no_mark s m f ts us xs Syntax w e h =
    let e' = subst (λ m. comes (m ∷ []) ts ≡ true) w e in
    let h' = subst (λ m. takes m ts ≡ Err us) w h in
    ap (behind xs) (opens (n.terms_more s f) ts) ∙ rw (e', h') refl
list_no_mark s m f ts us xs NoMemory w e h = tt

pub list_no_term : (s : Separator) (m : Terminal) (f : Bool) (ts us vs : List Token) (xs : List Tree) (at : Pos) (e : Stop) → m ≡ separator s → comes (m ∷ []) ts ≡ true → takes m ts ≡ Ok (at, us) → Reads (reads (n.term f) us) (Err e) vs
    → Reads (behind xs (reads (n.terms_more s f) ts)) (Err e) vs
list_no_term s m f ts us vs xs at Syntax w e h g =
    let e' = subst (λ m. comes (m ∷ []) ts ≡ true) w e in
    let h' = subst (λ m. takes m ts ≡ Ok (at, us)) w h in
    ap (behind xs) (opens (n.terms_more s f) ts) ∙ rw (e', h', g) refl
list_no_term s m f ts us vs xs at NoMemory w e h g = tt

-- a first term, the others and the closing mark
abbrev pub bracketed : Terminal → O Tree → (List Token → O (List Tree)) → O (List Tree)
bracketed m o more = o >>= (λ a ms. behind (a ∷ []) (more ms) >>= (λ xs us. takes m us >>= (λ _ ks. Ok (xs, ks))))

closing : (a : Tree) (xs : List Tree) (o : O Pos)
    → ◌≡◌ {A = O (List Tree)}
    (◌>>=◌ {A = Tree × List Tree} {B = List Tree} (◌>>=◌ {A = List Tree} {B = Tree × List Tree} (◌>>=◌ {A = List Tree × Pos} {B = List Tree} (o >>= (λ p ks. Ok ((xs, p), ks))) (λ q ks. Ok (q.0, ks))) (λ ys ks. Ok ((a, ys), ks))) (λ p ks. Ok (p.0 ∷ p.1, ks)))
    (o >>= (λ _ ks. Ok (a ∷ xs, ks)))
closing a xs (Ok p) = refl
closing a xs (Err ks) = refl

closed_list : (m : Terminal) (a : Tree) (o : O (List Tree))
    → ◌≡◌ {A = O (List Tree)}
    (◌>>=◌ {A = Tree × List Tree} {B = List Tree} (◌>>=◌ {A = List Tree} {B = Tree × List Tree} (◌>>=◌ {A = List Tree × Pos} {B = List Tree} (o >>= (λ xs us. takes m us >>= (λ p ks. Ok ((xs, p), ks)))) (λ q ks. Ok (q.0, ks))) (λ ys ks. Ok ((a, ys), ks))) (λ p ks. Ok (p.0 ∷ p.1, ks)))
    (behind (a ∷ []) o >>= (λ xs us. takes m us >>= (λ _ ks. Ok (xs, ks))))
closed_list m a (Ok p) = closing a p.0 (takes m p.1)
closed_list m a (Err ks) = refl

whole_list : (m : Terminal) (o : O Tree) (more : List Token → O (List Tree))
    → ◌≡◌ {A = O (List Tree)}
    (◌>>=◌ {A = Tree × List Tree} {B = List Tree} (o >>= (λ a ms. ◌>>=◌ {A = List Tree} {B = Tree × List Tree} (◌>>=◌ {A = List Tree × Pos} {B = List Tree} (more ms >>= (λ xs us. takes m us >>= (λ p ks. Ok ((xs, p), ks)))) (λ q ks. Ok (q.0, ks))) (λ ys ks. Ok ((a, ys), ks)))) (λ p ks. Ok (p.0 ∷ p.1, ks)))
    (bracketed m o more)
whole_list m (Ok p) more = closed_list m p.0 (more p.1)
whole_list m (Err ks) more = refl

pub args_opens : (f : Bool) (ts : List Token) → reads (n.args f) ts
    ≡ (if (comes (k.RightParen ∷ []) ts) then (takes k.RightParen ts >>= λ _ ks. Ok ([], ks)) else bracketed k.RightParen (reads (n.term f) ts) (reads (n.terms_more Comma f)))
args_opens f ts = opens (n.args f) ts ∙ if_both (comes (k.RightParen ∷ []) ts) _ _ _ _ refl (whole_list k.RightParen (reads (n.term f) ts) (reads (n.terms_more Comma f)))

pub items_opens : (f : Bool) (ts : List Token) → reads (n.items f) ts
    ≡ (if (comes (k.RightBracket ∷ []) ts) then (takes k.RightBracket ts >>= λ _ ks. Ok ([], ks)) else bracketed k.RightBracket (reads (n.term f) ts) (reads (n.terms_more Semicolon f)))
items_opens f ts = opens (n.items f) ts ∙ if_both (comes (k.RightBracket ∷ []) ts) _ _ _ _ refl (whole_list k.RightBracket (reads (n.term f) ts) (reads (n.terms_more Semicolon f)))

-- what follows a minus
minus_at : (at p : Pos) (o : O (Pos → Tree))
    → ◌≡◌ {A = O Tree} (given at (◌>>=◌ {A = Pos × (Pos → Tree)} {B = Pos → Tree} (o >>= λ g ks. Ok ((p, g), ks)) (λ q ks. Ok ((λ at. t.unary op.Neg at (q.1 q.0)), ks)))) (placed p o >>= λ a ks. Ok (t.unary op.Neg at a, ks))
minus_at at p (Ok q) = refl
minus_at at p (Err ks) = refl

not_at : (at p : Pos) (o : O Tree)
    → ◌≡◌ {A = O Tree} (given at (◌>>=◌ {A = Pos × Tree} {B = Pos → Tree} (o >>= λ g ks. Ok ((p, g), ks)) (λ q ks. Ok ((λ at. t.unary op.Neg at (t.negation q.0 q.1)), ks)))) (o >>= λ a ks. Ok (t.unary op.Neg at (t.negation p a), ks))
not_at at p (Ok q) = refl
not_at at p (Err ks) = refl

minus_act : (at : Pos) (o : O Pos) (more : List Token → O (Pos → Tree))
    → ◌≡◌ {A = O Tree} (given at (◌>>=◌ {A = Pos × (Pos → Tree)} {B = Pos → Tree} (o >>= λ p ms. more ms >>= λ g ks. Ok ((p, g), ks)) (λ q ks. Ok ((λ at. t.unary op.Neg at (q.1 q.0)), ks)))) (o >>= λ p ms. placed p (more ms) >>= λ a ks. Ok (t.unary op.Neg at a, ks))
minus_act at (Ok p) more = minus_at at p.0 (more p.1)
minus_act at (Err ks) more = refl

not_act : (at : Pos) (o : O Pos) (more : List Token → O Tree)
    → ◌≡◌ {A = O Tree} (given at (◌>>=◌ {A = Pos × Tree} {B = Pos → Tree} (o >>= λ p ms. more ms >>= λ g ks. Ok ((p, g), ks)) (λ q ks. Ok ((λ at. t.unary op.Neg at (t.negation q.0 q.1)), ks)))) (o >>= λ p ms. more ms >>= λ a ks. Ok (t.unary op.Neg at (t.negation p a), ks))
not_act at (Ok p) more = not_at at p.0 (more p.1)
not_act at (Err ks) more = refl

pub negated_opens : (f : Bool) (at : Pos) (ts : List Token) → placed at (reads (n.negated f) ts)
    ≡ (if (comes (k.Small ∷ k.Number ∷ []) ts) then (reads n.number ts >>= (λ d ks. Ok (t.negative at d.magnitude, ks))) else
    (if (comes (k.Minus ∷ []) ts) then (takes k.Minus ts >>= (λ p ms. placed p (reads (n.negated f) ms) >>= (λ a ks. Ok (t.unary op.Neg at a, ks)))) else
    (if (comes (k.Not ∷ []) ts) then (takes k.Not ts >>= (λ p ms. reads (n.un f) ms >>= (λ a ks. Ok (t.unary op.Neg at (t.negation p a), ks)))) else
    (reads (n.solid f) ts >>= (λ a ks. Ok (t.unary op.Neg at a, ks))))))
negated_opens f at ts = ap (placed at) (opens (n.negated f) ts) ∙ given_if at _ _ _
    ∙ if_both (comes (k.Small ∷ k.Number ∷ []) ts) _ _ _ _ (given_act at (reads n.number ts) (λ d p. t.negative p d.magnitude)) (given_if at _ _ _
    ∙ if_both (comes (k.Minus ∷ []) ts) _ _ _ _ (minus_act at (takes k.Minus ts) (reads (n.negated f))) (given_if at _ _ _
    ∙ if_both (comes (k.Not ∷ []) ts) _ _ _ _ (not_act at (takes k.Not ts) (reads (n.un f))) (given_act at (reads (n.solid f) ts) (λ a p. t.unary op.Neg p a))))

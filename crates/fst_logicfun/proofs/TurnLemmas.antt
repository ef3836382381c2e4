-- What turns come to, from the answers for their parts.
use Rattle.std.proofs.Common.{◌≡◌, ℕ, zero, suc, ◌+◌, ◌<◌, Bool, true, false, if◌then◌else◌, List, [], ◌∷◌, ◌++◌, map, reverse, take, length, get_or, Option, Some, None, refl, sym, ap, ap₂, ◌∙◌, subst, rules, arith}
use Rattle.std.proofs.lemmas.Bool.Decides.{same_from_decides}
use Rattle.std.proofs.lemmas.List.{append_assoc, append-nil, map-append}
use denote.Enum.Bare.{sameb, same_true, true_same}
use Rattle.fst_base.specs.Sorts.{Srt, plain_sort}
use Rattle.fst_terms.specs.declared.term.Term.{Term}
use Rattle.fst_terms.specs.Terms.{Tm, t_var, t_int, t_bool, t_unit, t_prim, t_if, t_app, t_let, plain_term}
use Rattle.fst_terms.specs.Formulas.{negation}
use Rattle.fst_program.specs.contracts.comp.Con.{the_type}
use Rattle.fst_program.specs.declared.comp.Con.{Con}
use Rattle.fst_program.specs.declared.comp.Con.TheVariants as con
use Rattle.fst_program.specs.Paths.{over, same_con, dm_at, dm_arms_at}
use Rattle.fst_program.specs.Texts.{Dm, DmArms, d_end, d_arm, Cm, CmArms, c_end, c_arm, Prog, if_there}
use Rattle.fst_program.specs.Plain.{plain_program}
use Rattle.fst_logicfun.specs.declared.ways.At.{At}
use Rattle.fst_logicfun.specs.declared.ways.Header.{Header}
use Rattle.fst_logicfun.specs.declared.ways.Next.{Next}
use Rattle.fst_scopes.specs.Scopes.{terms_for, sorts_in}
use Rattle.fst_logicfun.specs.Turns.{arm_ends_at, dm_arm_ends_at, dm_taken_ends, first_run, next_ends, second_run, taken_ends}
use Rattle.fst_logicfun.specs.Ends.{End, Turn, Taken, Run, turns, ends, arm_ends, dm_ends, dm_arm_ends}
use Rattle.fst_logicfun.specs.Ways.{arm_of, bool_of, dm_arm_of}
use Rattle.fst_logicfun.proofs.EndLemmas.{over-append}
use Rattle.fst_logicfun.proofs.PutLemmas.{map-reverse}

-- ---- constructors

same-con-is : (c d : Con) → same_con c d ≡ true → c ≡ d
same-con-is con.True con.True q = refl
same-con-is con.False con.False q = refl
same-con-is con.Empty con.Empty q = refl
same-con-is con.Full con.Full q = refl
same-con-is con.Nil con.Nil q = refl
same-con-is con.Cons con.Cons q = refl
same-con-is con.Left con.Left q = refl
same-con-is con.Right con.Right q = refl
same-con-is con.Pair con.Pair q = refl
same-con-is c d q = cc

same-con-self : (c : Con) → same_con c c ≡ true
same-con-self con.True = refl
same-con-self con.False = refl
same-con-self con.Empty = refl
same-con-self con.Full = refl
same-con-self con.Nil = refl
same-con-self con.Cons = refl
same-con-self con.Left = refl
same-con-self con.Right = refl
same-con-self con.Pair = refl

pub same-con-by : (c d : Con) (b : Bool) → b ≡ sameb the_type c d → b ≡ same_con c d
same-con-by c d b e = e ∙ same_from_decides (sameb the_type c d) (same_con c d) (same_true the_type (search rules) c d, true_same the_type c d)
    (same-con-is c d, λ q. subst (λ x. same_con c x ≡ true) q (same-con-self c))

-- ---- sides

abbrev one_turn : Bool → List Tm → List Turn
one_turn b hs = record { first = b; hyps = hs } ∷ []

abbrev two_turns : Tm → List Tm → List Turn
two_turns c hs = record { first = true; hyps = c ∷ hs } ∷ record { first = false; hyps = negation c ∷ hs } ∷ []

turns-by : (c : Tm) (hs : List Tm) → turns c hs ≡ if_there (bool_of c) (λ b. one_turn b hs) (two_turns c hs)
turns-by (t_bool b) hs = refl
turns-by (t_var i) hs = refl
turns-by (t_int n) hs = refl
turns-by t_unit hs = refl
turns-by (t_prim o S ts at) hs = refl
turns-by (t_if c t u) hs = refl
turns-by (t_app k S ts) hs = refl
turns-by (t_let x t u) hs = refl

module _ {A : Type 0} (F : Turn → List A) (c : Tm) (hs : List Tm) where
  pub turns-literal : (b : Bool) → Some b ≡ bool_of c → F (record { first = b; hyps = hs }) ≡ over (turns c hs) F
  turns-literal b e = sym (append-nil (F (record { first = b; hyps = hs }))) ∙ ap (λ o. over (if_there o (λ b. one_turn b hs) (two_turns c hs)) F) e ∙ ap (λ ts. over ts F) (sym (turns-by c hs))

  pub turns-both : None ≡ bool_of c → F (record { first = true; hyps = c ∷ hs }) ++ F (record { first = false; hyps = negation c ∷ hs }) ≡ over (turns c hs) F
  turns-both e =
      ap (λ ys. F (record { first = true; hyps = c ∷ hs }) ++ ys) (sym (append-nil (F (record { first = false; hyps = negation c ∷ hs }))))
      ∙ ap (λ o. over (if_there o (λ b. one_turn b hs) (two_turns c hs)) F) e ∙ ap (λ ts. over ts F) (sym (turns-by c hs))

-- ---- loops

-- the first items and one more
over-more : {A B : Type 0} (xs : List A) (k : ℕ) (d : A) (f : A → List B) → k < length xs → over (take (suc k) xs) f ≡ over (take k xs) f ++ f (get_or xs k d)
over-more [] k d f h = absurd (omega (arith, h))
over-more (x ∷ xs) zero d f h = append-nil (f x)
over-more (x ∷ xs) (suc k) d f h = ap (λ ys. f x ++ ys) (over-more xs k d f (omega (arith, h))) ∙ sym (append_assoc (f x) (over (take k xs) f) (f (get_or xs k d)))

over-map : {A B C : Type 0} (g : A → B) (xs : List A) (f : B → List C) → over (map g xs) f ≡ over xs (λ x. f (g x))
over-map g [] f = refl
over-map g (x ∷ xs) f = ap (λ ys. f (g x) ++ ys) (over-map g xs f)

-- what was made, and what one item more makes
pub made-more : {A B C X : Type 0} (f : A → List X) (p : B → C) (g : C → List X) (made made' more : List A) (xs : List B) (k : ℕ) (d x : B) → k < length xs → x ≡ get_or xs k d
    → made' ≡ made ++ more → over made f ≡ over (map p (take k xs)) g → over more f ≡ g (p x) → over made' f ≡ over (map p (take (k + 1) xs)) g
made-more f p g made made' more xs k d x h i m e n =
    let one : over (map p (take (suc k) xs)) g ≡ over (map p (take k xs)) g ++ g (p (get_or xs k d)) =
    over-map p (take (suc k) xs) g ∙ over-more xs k d (λ x. g (p x)) h ∙ ap (λ ys. ys ++ g (p (get_or xs k d))) (sym (over-map p (take k xs) g)) in
    let next : suc k ≡ k + 1 = omega arith in
    ap (λ ms. over ms f) m ∙ over-append made more f ∙ ap₂ ◌++◌ e (n ∙ ap (λ x. g (p x)) i) ∙ sym one ∙ ap (λ n. over (map p (take n xs)) g) next

pub ends-more : {A B X : Type 0} (e : A → X) (g : B → List X) (made made' more : List A) (xs : List B) (k : ℕ) (d x : B) → k < length xs → x ≡ get_or xs k d
    → made' ≡ made ++ more → map e made ≡ over (take k xs) g → map e more ≡ g x → map e made' ≡ over (take (k + 1) xs) g
ends-more e g made made' more xs k d x h i m was n =
    let next : suc k ≡ k + 1 = omega arith in
    ap (map e) m ∙ map-append e made more ∙ ap₂ ◌++◌ was (n ∙ ap g i) ∙ sym (over-more xs k d g h) ∙ ap (λ n. over (take n xs) g) next

pub ends-more-by : {A B C X : Type 0} (e : A → X) (p : B → C) (g : C → List X) (made made' more : List A) (xs : List B) (k : ℕ) (d x : B) → k < length xs → x ≡ get_or xs k d
    → made' ≡ made ++ more → map e made ≡ over (map p (take k xs)) g → map e more ≡ g (p x) → map e made' ≡ over (map p (take (k + 1) xs)) g
ends-more-by e p g made made' more xs k d x h i m was n =
    ends-more e (λ x. g (p x)) made made' more xs k d x h i m (was ∙ over-map p (take k xs) g) n ∙ sym (over-map p (take (k + 1) xs) g)

-- both sides, where the condition is no literal
pub both-by : {A : Type 0} (F : Turn → List A) (hs : List Tm) (made : List A) (u : Tm) (x y z : Term) (o : Option Bool) → plain_term x ≡ u → y ≡ x → z ≡ x → o ≡ bool_of (plain_term y) → o ≡ None
    → made ≡ F (record { first = true; hyps = plain_term z ∷ hs }) ++ F (record { first = false; hyps = negation (plain_term z) ∷ hs }) → made ≡ over (turns u hs) F
both-by F hs made u x y z o e f g l n m =
    m ∙ ap (λ z. F (record { first = true; hyps = plain_term z ∷ hs }) ++ F (record { first = false; hyps = negation (plain_term z) ∷ hs })) g
    ∙ turns-both F (plain_term x) hs (sym n ∙ l ∙ ap (λ y. bool_of (plain_term y)) f) ∙ ap (λ u. over (turns u hs) F) e

-- ---- arms

module _ (P : Prog) (Ss : List Srt) where
  -- the ends of the first arm of a constructor
  pub arm-by : (arms : CmArms) (c : Taken) (us : List Tm) (s : Tm) → arm_ends P Ss arms c us s ≡ if_there (arm_of arms c.con) (λ d. ends P Ss d (reverse c.parts ++ us) s c.hyps) []
  arm-by c_end c us s = refl
  arm-by (c_arm c' xs d more) c us s = go (arm-by more c us s) (same_con c' c.con)
    where
      go : arm_ends P Ss more c us s ≡ if_there (arm_of more c.con) (λ d. ends P Ss d (reverse c.parts ++ us) s c.hyps) [] → (b : Bool)
          → (if b then ends P Ss d (reverse c.parts ++ us) s c.hyps else arm_ends P Ss more c us s) ≡ if_there (if b then Some d else arm_of more c.con) (λ d. ends P Ss d (reverse c.parts ++ us) s c.hyps) []
      go e true = refl
      go e false = e

  module _ (f : Run P Ss) (g : Tm → Run P Ss) (A B : Srt) where
    pub dm-arm-by : (arms : DmArms) (c : Taken) (us : List Tm)
        → dm_arm_ends P Ss f g (dm_arms_at A B arms) c us ≡ if_there (dm_arm_of arms c.con) (λ d. dm_ends P Ss f g (dm_at A B d) (reverse c.parts ++ us) c.hyps) []
    dm-arm-by d_end c us = refl
    dm-arm-by (d_arm c' xs d more) c us = go (dm-arm-by more c us) (same_con c' c.con)
      where
        go : dm_arm_ends P Ss f g (dm_arms_at A B more) c us ≡ if_there (dm_arm_of more c.con) (λ d. dm_ends P Ss f g (dm_at A B d) (reverse c.parts ++ us) c.hyps) [] → (b : Bool) → (if b then dm_ends P Ss f g (dm_at A B d) (reverse c.parts ++ us) c.hyps else dm_arm_ends P Ss f g (dm_arms_at A B more) c us) ≡ if_there (if b then Some d else dm_arm_of more c.con) (λ d. dm_ends P Ss f g (dm_at A B d) (reverse c.parts ++ us) c.hyps) []
        go e true = refl
        go e false = e

module _ (at : At) where
  abbrev AP : Prog
  AP = plain_program at.program.now

  abbrev ASs : List Srt
  ASs = sorts_in at.sorts.now

  one-way : (made : List Next) (n : Next) (es : List End) → made ≡ n ∷ [] → next_ends AP ASs n ≡ es → over made (next_ends AP ASs) ≡ es
  one-way made n es e f = ap (λ ms. over ms (next_ends AP ASs)) e ∙ append-nil (next_ends AP ASs n) ∙ f

  pub arm-some : (arms : CmArms) (c : Taken) (d : Cm) (made : List Next) (n : Next) → made ≡ n ∷ [] → next_ends AP ASs n ≡ taken_ends d at c → Some d ≡ arm_of arms c.con → over made (next_ends AP ASs) ≡ arm_ends_at arms at c
  arm-some arms c d made n e f g =
      one-way made n _ e f ∙ ap (λ o. if_there o (λ d. taken_ends d at c) []) g ∙ sym (arm-by AP ASs arms c (terms_for at.scope.now) (plain_term at.input.now))

  pub arm-none : (arms : CmArms) (c : Taken) (made : List Next) → made ≡ [] → None ≡ arm_of arms c.con → over made (next_ends AP ASs) ≡ arm_ends_at arms at c
  arm-none arms c made e g = ap (λ ms. over ms (next_ends AP ASs)) e ∙ ap (λ o. if_there o (λ d. taken_ends d at c) []) g ∙ sym (arm-by AP ASs arms c (terms_for at.scope.now) (plain_term at.input.now))

  module _ (h : Header) where
    pub dm-arm-some : (arms : DmArms) (c : Taken) (d : Dm) (made : List Next) (n : Next) → made ≡ n ∷ [] → next_ends AP ASs n ≡ dm_taken_ends d h at c → Some d ≡ dm_arm_of arms c.con → over made (next_ends AP ASs) ≡ dm_arm_ends_at arms h at c
    dm-arm-some arms c d made n e f g =
        one-way made n _ e f ∙ ap (λ o. if_there o (λ d. dm_taken_ends d h at c) []) g
        ∙ sym (dm-arm-by AP ASs (first_run AP ASs h) (second_run AP ASs h) (plain_sort h.a) (plain_sort h.b) arms c (terms_for at.scope.now))

    pub dm-arm-none : (arms : DmArms) (c : Taken) (made : List Next) → made ≡ [] → None ≡ dm_arm_of arms c.con → over made (next_ends AP ASs) ≡ dm_arm_ends_at arms h at c
    dm-arm-none arms c made e g =
        ap (λ ms. over ms (next_ends AP ASs)) e ∙ ap (λ o. if_there o (λ d. dm_taken_ends d h at c) []) g
        ∙ sym (dm-arm-by AP ASs (first_run AP ASs h) (second_run AP ASs h) (plain_sort h.a) (plain_sort h.b) arms c (terms_for at.scope.now))

-- ---- the sorts of a scope

pub sorts-by : (F : Tm → Srt) (ts : List Term) (Ss : List Srt) → Ss ≡ map (λ t. F (plain_term t)) ts → reverse Ss ≡ map F (reverse (map plain_term ts))
sorts-by F ts Ss e = ap reverse (e ∙ both ts) ∙ sym (map-reverse F (map plain_term ts))
  where
    both : (ts : List Term) → map (λ t. F (plain_term t)) ts ≡ map F (map plain_term ts)
    both [] = refl
    both (t ∷ ts) = ap (λ Ss. F (plain_term t) ∷ Ss) (both ts)

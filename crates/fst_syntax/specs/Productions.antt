-- The productions, in the order of the grammar, each with the tree that it gives.
--
-- A family with a Bool is that of terms at false and of formulas at true. `{x}` and the tails of chains are nonterminals
-- of their own, named `.._more`: the tree of a list's is the list, the tree of a chain's puts what was read before
-- together with what follows.
use Rattle.std.specs.Prelude.{ℕ, zero, suc, min, Bool, true, false, List, [], ◌∷◌, Option, Some, None}
use Rattle.fst_base.specs.declared.op.Op.TheVariants as op
use Rattle.fst_base.specs.declared.place.Pos.{Pos}
use Rattle.fst_syntax.specs.declared.terminal.Terminal.{Terminal}
use Rattle.fst_syntax.specs.declared.terminal.Terminal.TheVariants as k
use Rattle.fst_trees.specs.declared.word.Word.{Word}
use Rattle.fst_trees.specs.declared.sort.SortTree.{SortTree}
use Rattle.fst_trees.specs.declared.sort.SortTree.TheVariants as S
use Rattle.fst_syntax.specs.declared.operator.Operator.{Operator}
use Rattle.fst_syntax.specs.declared.operator.Comparison.{Comparison}
use Rattle.fst_syntax.specs.declared.operator.Relation.TheVariants as L
use Rattle.fst_syntax.specs.declared.operator.Digits.{Digits}
use Rattle.fst_syntax.specs.declared.operator.Separator.{Separator}
use Rattle.fst_syntax.specs.declared.operator.Separator.TheVariants as X
use Rattle.fst_syntax.specs.Separators.{separator}
use Rattle.fst_trees.specs.declared.pattern.ArmTree.{ArmTree}
use Rattle.fst_syntax.specs.declared.pattern.Pattern.{Pattern}
use Rattle.fst_trees.specs.declared.pattern.ConWord.TheVariants as C
use Rattle.fst_trees.specs.declared.body.BodyTree.{BodyTree}
use Rattle.fst_trees.specs.declared.body.BodyTree.TheVariants as B
use Rattle.fst_trees.specs.declared.body.PartTree.{PartTree}
use Rattle.fst_trees.specs.declared.body.PartNode.TheVariants as P
use Rattle.fst_syntax.specs.declared.binding.Binding.{Binding}
use Rattle.fst_trees.specs.declared.definition.DmTree.{DmTree}
use Rattle.fst_trees.specs.declared.definition.DmTree.TheVariants as D
use Rattle.fst_trees.specs.declared.decl.Decl.{Decl}
use Rattle.fst_trees.specs.declared.decl.Decl.TheVariants as M
use Rattle.fst_trees.specs.declared.decl.EffectTree.{EffectTree}
use Rattle.fst_syntax.specs.declared.header.Signature.{Signature}
use Rattle.fst_syntax.specs.declared.header.Abstraction.{Abstraction}
use Rattle.fst_trees.specs.declared.decl.LiftTree.{LiftTree}
use Rattle.fst_trees.specs.declared.decl.FunTree.{FunTree}
use Rattle.fst_trees.specs.declared.decl.HeadTree.{HeadTree}
use Rattle.fst_trees.specs.declared.decl.ParamTree.{ParamTree}
use Rattle.fst_syntax.specs.declared.header.Computation.{Computation}
use Rattle.fst_syntax.specs.declared.header.Contract.{Contract}
use Rattle.fst_trees.specs.declared.decl.EffectName.{EffectName}
use Rattle.fst_trees.specs.declared.decl.EffectName.TheVariants as E
use Rattle.fst_grammar.specs.Grammar as G
use Rattle.fst_grammar.specs.Grammar.{Code, Rule, El, pair, tree, maybe, token, mark, empty, seq, alt, act, call}
use Rattle.fst_syntax.specs.Tokens.{Token, alphabet}
use Rattle.fst_syntax.specs.Trees as t
use Rattle.fst_syntax.specs.Trees.{Tree}

-- The nonterminals; `{x}` and what follows a first operand are nonterminals of their own.
pub data N : Type 0 where
  program decl : N
  effect signature returning joining base two_names three_names lift : N
  fun head computation contract needs gives measures depth : N
  measures_more : ℕ → N
  effname params param hidden refinement : N
  sort sort_more sat : N
  body ghost_let plain_let assertion branching matching block binding annotation : N
  part block_part reify reflect named_part after_name operation rest : N
  arms arms_more arm : N
  dm dm_let dm_branching dm_matching dm_block dm_binding dmpart dm_named_part dm_after_name run_args second : N
  dm_arms dm_arms_more dm_arm : N
  pattern : N
  term implies_more disj disj_more conj conj_more cmp cmp_more con con_more sum sum_more prod prod_more : Bool → N
  un other negated app solid prefix named application plain atom inner enclosed choice inner_more args items : Bool → N
  terms_more : Separator → Bool → N
  let_in comparison sum_operator prod_operator prefix_operator : N
  name binder number small : N

-- what each gives
abbrev pub T : N → Type 0
T program = List (Decl Word)
T decl = Decl Word
T effect = EffectTree Word
T signature = Signature
T returning = Abstraction
T joining = Abstraction
T base = Bool
T two_names = List Word
T three_names = List Word
T lift = LiftTree Word
T fun = FunTree Word
T head = HeadTree Word
T computation = Computation
T contract = Contract
T needs = Option Tree
T gives = Option Tree
T measures = List Tree
T (measures_more n) = List Tree
T depth = ℕ
T effname = EffectName Word
T params = List (ParamTree Word)
T param = ParamTree Word
T hidden = Bool
T refinement = Option Tree
T sort = SortTree Word
T sat = SortTree Word
T sort_more = Option (SortTree Word)
T body = BodyTree Word
T block = BodyTree Word
T ghost_let = BodyTree Word
T plain_let = BodyTree Word
T assertion = BodyTree Word
T branching = BodyTree Word
T matching = BodyTree Word
T block_part = PartTree Word
T reify = PartTree Word
T reflect = PartTree Word
T binding = Binding (PartTree Word)
T annotation = Option (SortTree Word)
T part = PartTree Word
T named_part = PartTree Word
T operation = Tree
T after_name = Word → PartTree Word
T rest = Tree → Tree
T arms = List (ArmTree (BodyTree Word))
T arms_more = List (ArmTree (BodyTree Word))
T arm = ArmTree (BodyTree Word)
T dm = DmTree Word
T dm_block = DmTree Word
T dm_let = DmTree Word
T dm_branching = DmTree Word
T dm_matching = DmTree Word
T dm_binding = Binding (DmTree Word)
T dmpart = DmTree Word
T dm_named_part = DmTree Word
T run_args = List Tree
T second = Option Tree
T dm_after_name = Word → DmTree Word
T dm_arms = List (ArmTree (DmTree Word))
T dm_arms_more = List (ArmTree (DmTree Word))
T dm_arm = ArmTree (DmTree Word)
T pattern = Pattern
T (implies_more f) = Option (Pos × Tree)
T (disj_more f) = Tree → Tree
T (conj_more f) = Tree → Tree
T (cmp_more f) = Option (Comparison × Tree)
T (con_more f) = Option (Pos × Tree)
T (sum_more f) = Tree → Tree
T (prod_more f) = Tree → Tree
T (negated f) = Pos → Tree
T (inner f) = Pos → Tree
T (enclosed f) = Pos → Tree
T (inner_more f) = Tree → Pos → Tree
T (application f) = Option (List Tree)
T (args f) = List Tree
T (terms_more s f) = List Tree
T (items f) = List Tree
T comparison = Comparison
T sum_operator = Operator
T prod_operator = Operator
T prefix_operator = Operator
T name = Word
T binder = Word
T number = Digits
T small = ℕ
T (term f) = Tree
T (disj f) = Tree
T (conj f) = Tree
T (cmp f) = Tree
T (con f) = Tree
T (sum f) = Tree
T (prod f) = Tree
T (un f) = Tree
T (other f) = Tree
T (app f) = Tree
T (solid f) = Tree
T (prefix f) = Tree
T (named f) = Tree
T (plain f) = Tree
T (atom f) = Tree
T (choice f) = Tree
T let_in = Tree

abbrev pub R : Code alphabet N T → Type 0
R = Rule alphabet N T

infixr 20 ◌⋅◌
abbrev pub ◌⋅◌ : {c d : Code alphabet N T} → R c → R d → R (pair c d)
r ⋅ q = seq r q

-- a mark or a word, of which nothing is kept
infixr 20 ◌▸◌
abbrev pub ◌▸◌ : {c : Code alphabet N T} → Terminal → R c → R c
k ▸ r = act (λ p. p.1) (seq (mark k) r)

infixl 21 ◌◂◌
abbrev pub ◌◂◌ : {c : Code alphabet N T} → R c → Terminal → R c
r ◂ k = act (λ p. p.0) (seq r (mark k))

infixr 10 ◌∣◌
abbrev pub ◌∣◌ : {c : Code alphabet N T} → R c → R c → R c
r ∣ q = alt r q

infixr 15 ◌⇐◌
abbrev pub ◌⇐◌ : {c d : Code alphabet N T} → (El alphabet N T c → El alphabet N T d) → R c → R d
f ⇐ r = act f r

abbrev pub optional : {c : Code alphabet N T} → R c → R (maybe c)
optional r = G.opt alphabet N T r

abbrev pub word : Token → Word
word t = record { text = t.text; at = alphabet.place t }

abbrev pub digits : Token → Digits
digits u = record { at = alphabet.place u; magnitude = t.magnitude u.text }

abbrev pub product : SortTree Word → Option (SortTree Word) → SortTree Word
product s None = s
product s (Some q) = S.Pair s q

abbrev pub term_part : Tree → PartTree Word
term_part a = record { at = a.at; node = P.Term a }

-- the one or two terms that a definition's text runs a computation on
abbrev pub one_or_two : Tree → Option Tree → List Tree
one_or_two a None = a ∷ []
one_or_two a (Some b) = a ∷ b ∷ []

abbrev pub rule : (n : N) → R (tree n)
rule program = (λ p. p.0 ∷ p.1) ⇐ call decl ⋅ call program
    ∣ (λ _. []) ⇐ empty
rule decl = M.Effect ⇐ call effect
    ∣ M.Lift ⇐ call lift
    ∣ M.Fun ⇐ call fun
-- 'effect' NAME ':' ('PURE' | 'DIV') 'input' sort 'result' sort 'return' NAME NAME '{' dm '}' 'bind' NAME NAME NAME '{' dm '}'
-- in three nonterminals: up to the sorts, the return and the bind
rule effect = (λ p. record { name = p.0.name; div = p.0.div; input = p.0.input; result = p.0.result; ret_names = p.1.0.names; ret = p.1.0.text; bind_names = p.1.1.names; bind = p.1.1.text })
    ⇐ call signature ⋅ call returning ⋅ call joining
rule signature = (λ p. record { name = p.0; div = p.1.0; input = p.1.1.0; result = p.1.1.1 })
    ⇐ k.Effect ▸ call name ⋅ k.Colon ▸ call base ⋅ k.Input ▸ call sort ⋅ k.Result ▸ call sort
rule returning = (λ p. record { names = p.0; text = p.1 }) ⇐ k.Return ▸ call two_names ⋅ call dm_block
rule joining = (λ p. record { names = p.0; text = p.1 }) ⇐ k.Bind ▸ call three_names ⋅ call dm_block
rule base = (λ _. false) ⇐ mark k.PureEffect
    ∣ (λ _. true) ⇐ mark k.DivEffect
rule two_names = (λ p. p.0 ∷ p.1 ∷ []) ⇐ call binder ⋅ call binder
rule three_names = (λ p. p.0 ∷ p.1.0 ∷ p.1.1 ∷ []) ⇐ call binder ⋅ call binder ⋅ call binder
rule lift = (λ p. record { at = p.0; from = p.1.0; «to» = p.1.1.0; names = p.1.1.1.0; text = p.1.1.1.1 })
    ⇐ mark k.Lift ⋅ call name ⋅ k.To ▸ call name ⋅ k.By ▸ call two_names ⋅ call dm_block
rule fun = (λ p. record { head = p.0; joined = false; body = p.1 }) ⇐ call head ⋅ call block
-- what stands before the block of a function: `head` up to the colon, `computation` and `contract` behind it
rule head = (λ p. record { name = p.0; params = p.1.0; effect = p.1.1.0.effect; sort = p.1.1.0.sort; needs = p.1.1.1.needs; gives = p.1.1.1.gives; measures = p.1.1.1.measures; «unfold» = p.1.1.1.«unfold» })
    ⇐ k.Fun ▸ call name ⋅ call params ⋅ k.Colon ▸ call computation ⋅ call contract
rule computation = (λ p. record { effect = p.0; sort = p.1 }) ⇐ call effname ⋅ call sort
rule contract = (λ p. record { needs = p.0; gives = p.1.0; measures = p.1.1.0; «unfold» = p.1.1.1 }) ⇐ call needs ⋅ call gives ⋅ call measures ⋅ call depth
rule needs = (λ a. a) ⇐ optional (k.Requires ▸ call (term true))
rule gives = (λ a. a) ⇐ optional (k.Ensures ▸ call (term true))
-- at most four forms
rule measures = (λ p. p.0 ∷ p.1) ⇐ k.Decreases ▸ call (term true) ⋅ call (measures_more 3)
    ∣ (λ _. []) ⇐ empty
rule (measures_more zero) = (λ _. []) ⇐ empty
rule (measures_more (suc n)) = (λ p. p.0 ∷ p.1) ⇐ k.Comma ▸ call (term true) ⋅ call (measures_more n)
    ∣ (λ _. []) ⇐ empty
rule depth = (λ n. n) ⇐ k.Unfold ▸ call small
    ∣ (λ _. 1) ⇐ empty
rule effname = (λ _. E.Pure) ⇐ mark k.PureEffect
    ∣ (λ _. E.Ghost) ⇐ mark k.GhostEffect
    ∣ (λ _. E.Div) ⇐ mark k.DivEffect
    ∣ E.User ⇐ call name
rule params = (λ p. p.0 ∷ p.1) ⇐ call param ⋅ call params
    ∣ (λ _. []) ⇐ empty
rule param = (λ p. record { hidden = p.0; name = p.1.0; sort = p.1.1.0; refine = p.1.1.1 })
    ⇐ call hidden ⋅ k.LeftParen ▸ call binder ⋅ k.Colon ▸ call sort ⋅ call refinement ◂ k.RightParen
rule hidden = t.is_there ⇐ optional (mark k.Ghost)
rule refinement = (λ a. a) ⇐ optional (k.LeftBrace ▸ call (term true) ◂ k.RightBrace)
rule sort = (λ p. product p.0 p.1) ⇐ call sat ⋅ call sort_more
rule sort_more = (λ a. a) ⇐ optional (k.Star ▸ call sort)
rule sat = (λ _. S.Unit) ⇐ mark k.Unit
    ∣ (λ _. S.Bool) ⇐ mark k.Bool
    ∣ (λ _. S.Int) ⇐ mark k.Int
    ∣ S.Opt ⇐ k.Option ▸ call sat
    ∣ S.List ⇐ k.List ▸ call sat
    ∣ (λ p. S.Either p.0 p.1) ⇐ k.Either ▸ call sat ⋅ call sat
    ∣ S.Ident ⇐ call name
    ∣ (λ s. s) ⇐ k.LeftParen ▸ call sort ◂ k.RightParen
rule body = (λ a. a) ⇐ call ghost_let
    ∣ (λ a. a) ⇐ call plain_let
    ∣ (λ a. a) ⇐ call assertion
    ∣ (λ a. a) ⇐ call branching
    ∣ (λ a. a) ⇐ call matching
    ∣ B.Part ⇐ call part
rule ghost_let = (λ p. B.GhostLet p.0.name p.0.sort p.0.part p.1) ⇐ k.Ghost ▸ k.Let ▸ call binding ⋅ call body
rule plain_let = (λ p. B.Let p.0.name p.0.sort p.0.part p.1) ⇐ k.Let ▸ call binding ⋅ call body
rule assertion = (λ p. B.Assert p.1.0 p.0 p.1.1) ⇐ mark k.Assert ⋅ call (term true) ⋅ k.Semicolon ▸ call body
rule branching = (λ p. B.If p.0 p.1.0 p.1.1) ⇐ k.If ▸ call (term false) ⋅ k.Then ▸ call body ⋅ k.Else ▸ call body
rule matching = (λ p. B.Match p.1.0 p.0 p.1.1) ⇐ mark k.Match ⋅ call (term false) ⋅ k.With ▸ call arms ◂ k.EndWord
rule block = (λ a. a) ⇐ k.LeftBrace ▸ call body ◂ k.RightBrace
rule binding = (λ p. record { name = p.0; sort = p.1.0; part = p.1.1 }) ⇐ call binder ⋅ call annotation ⋅ k.Equal ▸ call part ◂ k.In
rule annotation = (λ a. a) ⇐ optional (k.Colon ▸ call sort)
-- NAME '(' [term {',' term}] ')' and the terms that begin with a NAME are the fourth row: the token after the NAME settles
-- which. Other terms are the fifth.
rule part = (λ a. a) ⇐ call block_part
    ∣ (λ a. a) ⇐ call reify
    ∣ (λ a. a) ⇐ call reflect
    ∣ (λ a. a) ⇐ call named_part
    ∣ term_part ⇐ call operation
rule block_part = (λ p. record { at = p.0; node = P.Block p.1 }) ⇐ mark k.LeftBrace ⋅ call body ◂ k.RightBrace
rule reify = (λ p. record { at = p.0; node = P.Reify p.1.0 p.1.1.0 p.1.1.1.0 p.1.1.1.1 }) ⇐ mark k.Reify ⋅ call name ⋅ call sort ⋅ call block ⋅ k.LeftParen ▸ call (term false) ◂ k.RightParen
rule reflect = (λ p. record { at = p.0; node = P.Reflect p.1.0 p.1.1.0 p.1.1.1.0 p.1.1.1.1 }) ⇐ mark k.Reflect ⋅ call name ⋅ call sort ⋅ k.LeftParen ▸ call binder ⋅ k.RightParen ▸ call block
rule named_part = (λ p. p.1 p.0) ⇐ call name ⋅ call after_name
rule after_name = (λ arguments w. record { at = w.at; node = P.Call w arguments }) ⇐ k.LeftParen ▸ call (args false)
    ∣ (λ more w. term_part (more (t.ident w))) ⇐ call rest
rule operation = (λ p. p.1 p.0) ⇐ call (other false) ⋅ call rest
-- what may follow the first operand of a term
rule rest = (λ p a. t.implied_by (p.1.1.1.1.1.0 (p.1.1.1.1.0 (t.compared_by (t.cons_by (p.1.0 (p.0 a)) p.1.1.0) p.1.1.1.0))) p.1.1.1.1.1.1)
    ⇐ call (prod_more false) ⋅ call (sum_more false) ⋅ call (con_more false) ⋅ call (cmp_more false) ⋅ call (conj_more false) ⋅ call (disj_more false) ⋅ call (implies_more false)
rule arms = (λ p. p.0 ∷ p.1) ⇐ call arm ⋅ call arms_more
rule arms_more = (λ p. p.0 ∷ p.1) ⇐ call arm ⋅ call arms_more
    ∣ (λ _. []) ⇐ empty
rule arm = (λ p. record { at = p.0.at; con = p.0.con; names = p.0.names; body = p.1 }) ⇐ k.Bar ▸ call pattern ⋅ k.Arrow ▸ call body
rule dm = (λ a. a) ⇐ call dm_let
    ∣ (λ a. a) ⇐ call dm_branching
    ∣ (λ a. a) ⇐ call dm_matching
    ∣ (λ a. a) ⇐ call dmpart
rule dm_let = (λ p. D.Let p.0.name p.0.sort p.0.part p.1) ⇐ k.Let ▸ call dm_binding ⋅ call dm
rule dm_branching = (λ p. D.If p.0 p.1.0 p.1.1) ⇐ k.If ▸ call (term false) ⋅ k.Then ▸ call dm ⋅ k.Else ▸ call dm
rule dm_matching = (λ p. D.Match p.1.0 p.0 p.1.1) ⇐ mark k.Match ⋅ call (term false) ⋅ k.With ▸ call dm_arms ◂ k.EndWord
rule dm_block = (λ a. a) ⇐ k.LeftBrace ▸ call dm ◂ k.RightBrace
rule dm_binding = (λ p. record { name = p.0; sort = p.1.0; part = p.1.1 }) ⇐ call binder ⋅ call annotation ⋅ k.Equal ▸ call dmpart ◂ k.In
-- NAME '(' term ')', NAME '(' term ',' term ')' and the terms that begin with a NAME are the second row, other terms the third.
rule dmpart = (λ p. D.Block p.0 p.1) ⇐ mark k.LeftBrace ⋅ call dm ◂ k.RightBrace
    ∣ (λ a. a) ⇐ call dm_named_part
    ∣ D.Term ⇐ call operation
rule dm_named_part = (λ p. p.1 p.0) ⇐ call name ⋅ call dm_after_name
rule dm_after_name = (λ arguments w. D.Run w arguments) ⇐ k.LeftParen ▸ call run_args
    ∣ (λ more w. D.Term (more (t.ident w))) ⇐ call rest
rule run_args = (λ p. one_or_two p.0 p.1) ⇐ call (term false) ⋅ call second ◂ k.RightParen
rule second = (λ a. a) ⇐ optional (k.Comma ▸ call (term false))
rule dm_arms = (λ p. p.0 ∷ p.1) ⇐ call dm_arm ⋅ call dm_arms_more
rule dm_arms_more = (λ p. p.0 ∷ p.1) ⇐ call dm_arm ⋅ call dm_arms_more
    ∣ (λ _. []) ⇐ empty
rule dm_arm = (λ p. record { at = p.0.at; con = p.0.con; names = p.0.names; body = p.1 }) ⇐ k.Bar ▸ call pattern ⋅ k.Arrow ▸ call dm
rule pattern = (λ p. record { at = p; con = C.True; names = [] }) ⇐ mark k.True
    ∣ (λ p. record { at = p; con = C.False; names = [] }) ⇐ mark k.False
    ∣ (λ p. record { at = p; con = C.Empty; names = [] }) ⇐ mark k.None
    ∣ (λ p. record { at = p.0; con = C.Full; names = p.1 ∷ [] }) ⇐ mark k.Some ⋅ call binder
    ∣ (λ p. record { at = p; con = C.Nil; names = [] }) ⇐ mark k.LeftBracket ◂ k.RightBracket
    ∣ (λ p. record { at = p.0.at; con = C.Cons; names = p.0 ∷ p.1 ∷ [] }) ⇐ call binder ⋅ k.ColonColon ▸ call binder
    ∣ (λ p. record { at = p.0; con = C.Left; names = p.1 ∷ [] }) ⇐ mark k.Inl ⋅ call binder
    ∣ (λ p. record { at = p.0; con = C.Right; names = p.1 ∷ [] }) ⇐ mark k.Inr ⋅ call binder
    ∣ (λ p. record { at = p.0; con = C.Pair; names = p.1.0 ∷ p.1.1 ∷ [] }) ⇐ mark k.LeftParen ⋅ call binder ⋅ k.Comma ▸ call binder ◂ k.RightParen
-- Terms at false, formulas at true. Chains of || && + - * / % nest to the left, ==> and :: to the right.
rule (term f) = (λ p. t.implied_by p.0 p.1) ⇐ call (disj f) ⋅ call (implies_more f)
rule (implies_more f) = (λ a. a) ⇐ optional (mark k.Implies ⋅ call (term f))
rule (disj f) = (λ p. p.1 p.0) ⇐ call (conj f) ⋅ call (disj_more f)
rule (disj_more f) = (λ p a. p.1.1 (t.disjunction p.0 a p.1.0)) ⇐ mark k.BarBar ⋅ call (conj f) ⋅ call (disj_more f)
    ∣ (λ _ a. a) ⇐ empty
rule (conj f) = (λ p. p.1 p.0) ⇐ call (cmp f) ⋅ call (conj_more f)
rule (conj_more f) = (λ p a. p.1.1 (t.conjunction p.0 a p.1.0)) ⇐ mark k.AmpAmp ⋅ call (cmp f) ⋅ call (conj_more f)
    ∣ (λ _ a. a) ⇐ empty
rule (cmp f) = (λ p. t.compared_by p.0 p.1) ⇐ call (con f) ⋅ call (cmp_more f)
rule (cmp_more f) = (λ a. a) ⇐ optional (call comparison ⋅ call (con f))
rule comparison = (λ p. record { relation = L.Equal; at = p }) ⇐ mark k.Equal
    ∣ (λ p. record { relation = L.NotEqual; at = p }) ⇐ mark k.NotEqual
    ∣ (λ p. record { relation = L.LessEqual; at = p }) ⇐ mark k.LessEqual
    ∣ (λ p. record { relation = L.Less; at = p }) ⇐ mark k.Less
    ∣ (λ p. record { relation = L.GreaterEqual; at = p }) ⇐ mark k.GreaterEqual
    ∣ (λ p. record { relation = L.Greater; at = p }) ⇐ mark k.Greater
rule (con f) = (λ p. t.cons_by p.0 p.1) ⇐ call (sum f) ⋅ call (con_more f)
rule (con_more f) = (λ a. a) ⇐ optional (mark k.ColonColon ⋅ call (con f))
rule (sum f) = (λ p. p.1 p.0) ⇐ call (prod f) ⋅ call (sum_more f)
rule (sum_more f) = (λ p a. p.1.1 (t.operated p.0 a p.1.0)) ⇐ call sum_operator ⋅ call (prod f) ⋅ call (sum_more f)
    ∣ (λ _ a. a) ⇐ empty
rule sum_operator = (λ p. record { op = op.Add; at = p }) ⇐ mark k.Plus
    ∣ (λ p. record { op = op.Sub; at = p }) ⇐ mark k.Minus
rule (prod f) = (λ p. p.1 p.0) ⇐ call (un f) ⋅ call (prod_more f)
rule (prod_more f) = (λ p a. p.1.1 (t.operated p.0 a p.1.0)) ⇐ call prod_operator ⋅ call (un f) ⋅ call (prod_more f)
    ∣ (λ _ a. a) ⇐ empty
rule prod_operator = (λ p. record { op = op.Mul; at = p }) ⇐ mark k.Star
    ∣ (λ p. record { op = op.Div; at = p }) ⇐ mark k.Slash
    ∣ (λ p. record { op = op.Rem; at = p }) ⇐ mark k.Percent
-- un, app and atom, where '-' NUMBER is a literal: `other` is un but for a NAME, `negated` what follows the '-' of
-- '-' un or of '-' NUMBER, `solid` app but for a number, `named` and `plain` an atom but for a number.
rule (un f) = (λ a. a) ⇐ call (named f)
    ∣ (λ a. a) ⇐ call (other f)
rule (other f) = (λ p. p.1 p.0) ⇐ mark k.Minus ⋅ call (negated f)
    ∣ (λ p. t.negation p.0 p.1) ⇐ mark k.Not ⋅ call (un f)
    ∣ (λ n. t.literal n.at n.magnitude) ⇐ call number
    ∣ (λ a. a) ⇐ call (prefix f)
    ∣ (λ a. a) ⇐ call (plain f)
rule (negated f) = (λ n p. t.negative p n.magnitude) ⇐ call number
    ∣ (λ q p. t.unary op.Neg p (q.1 q.0)) ⇐ mark k.Minus ⋅ call (negated f)
    ∣ (λ q p. t.unary op.Neg p (t.negation q.0 q.1)) ⇐ mark k.Not ⋅ call (un f)
    ∣ (λ a p. t.unary op.Neg p a) ⇐ call (solid f)
rule (app f) = (λ p. t.negative p.0 p.1.magnitude) ⇐ mark k.Minus ⋅ call number
    ∣ (λ n. t.literal n.at n.magnitude) ⇐ call number
    ∣ (λ a. a) ⇐ call (solid f)
rule (solid f) = (λ a. a) ⇐ call (named f)
    ∣ (λ a. a) ⇐ call (prefix f)
    ∣ (λ a. a) ⇐ call (plain f)
rule (prefix f) = (λ p. t.unary p.0.op p.0.at p.1) ⇐ call prefix_operator ⋅ call (app f)
rule prefix_operator = (λ p. record { op = op.Fst; at = p }) ⇐ mark k.Fst
    ∣ (λ p. record { op = op.Snd; at = p }) ⇐ mark k.Snd
    ∣ (λ p. record { op = op.Just; at = p }) ⇐ mark k.Some
    ∣ (λ p. record { op = op.Inl; at = p }) ⇐ mark k.Inl
    ∣ (λ p. record { op = op.Inr; at = p }) ⇐ mark k.Inr
    ∣ (λ p. record { op = op.Len; at = p }) ⇐ mark k.Len
-- NAME, and in a formula NAME '(' [form {',' form}] ')'
rule (named false) = t.ident ⇐ call name
rule (named true) = (λ p. t.applied_to p.0 p.1) ⇐ call name ⋅ call (application true)
rule (application f) = (λ a. a) ⇐ optional (k.LeftParen ▸ call (args f))
-- the words `result` and `input` are used as names in formulas
rule (plain false) = (λ a. a) ⇐ call (atom false)
rule (plain true) = (λ p. t.ident (t.the_word t.result_text p)) ⇐ mark k.Result
    ∣ (λ p. t.ident (t.the_word t.input_text p)) ⇐ mark k.Input
    ∣ (λ a. a) ⇐ call (atom true)
rule (atom f) = (λ p. t.truth true p) ⇐ mark k.True
    ∣ (λ p. t.truth false p) ⇐ mark k.False
    ∣ (λ p. t.nullary op.Nothing p) ⇐ mark k.None
    ∣ (λ p. p.1 p.0) ⇐ mark k.LeftParen ⋅ call (inner f)
    ∣ (λ p. t.listed p.0 p.1) ⇐ mark k.LeftBracket ⋅ call (items f)
-- what follows '(': ')' | 'if' .. ')' | term ')' | term ',' term ')', and in a formula 'let' NAME '=' form 'in' form ')'
rule (inner false) = (λ a. a) ⇐ call (enclosed false)
rule (inner true) = (λ a _. a) ⇐ call let_in
    ∣ (λ a. a) ⇐ call (enclosed true)
rule (enclosed f) = (λ _ p. t.unit p) ⇐ mark k.RightParen
    ∣ (λ a _. a) ⇐ call (choice f)
    ∣ (λ p at. p.1 p.0 at) ⇐ call (term f) ⋅ call (inner_more f)
rule (choice f) = (λ p. t.choice p.0 p.1.0 p.1.1.0 p.1.1.1) ⇐ mark k.If ⋅ call (term f) ⋅ k.Then ▸ call (term f) ⋅ k.Else ▸ call (term f) ◂ k.RightParen
rule let_in = (λ p. t.let_in p.0 p.1.0 p.1.1.0 p.1.1.1) ⇐ mark k.Let ⋅ call binder ⋅ k.Equal ▸ call (term true) ⋅ k.In ▸ call (term true) ◂ k.RightParen
rule (inner_more f) = (λ _ a _. a) ⇐ mark k.RightParen
    ∣ (λ b a p. t.binary op.Pair p a b) ⇐ k.Comma ▸ call (term f) ◂ k.RightParen
-- what follows the '(' of a call, and what follows a '['
rule (args f) = (λ _. []) ⇐ mark k.RightParen
    ∣ (λ p. p.0 ∷ p.1) ⇐ call (term f) ⋅ call (terms_more X.Comma f) ◂ k.RightParen
rule (items f) = (λ _. []) ⇐ mark k.RightBracket
    ∣ (λ p. p.0 ∷ p.1) ⇐ call (term f) ⋅ call (terms_more X.Semicolon f) ◂ k.RightBracket
rule (terms_more s f) = (λ p. p.0 ∷ p.1) ⇐ separator s ▸ call (term f) ⋅ call (terms_more s f)
    ∣ (λ _. []) ⇐ empty
rule name = word ⇐ token k.Name
-- a NAME that may be `_`
rule binder = word ⇐ token k.Name
    ∣ word ⇐ token k.Hole
rule number = digits ⇐ token k.Small
    ∣ digits ⇐ token k.Number
-- a number from 0 to 4
rule small = (λ u. min (t.magnitude u.text) 4) ⇐ token k.Small

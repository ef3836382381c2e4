-- Reading by the tables, and what a function that reads ensures.
use Rattle.std.specs.Prelude.{◌≡◌, Bool, if◌then◌else◌, List, [], ◌∷◌, ◌++◌, Result, Ok, Err}
use Rattle.fst_base.specs.declared.place.Pos.{Pos}
use Rattle.fst_syntax.specs.declared.stop.Stop.{Stop}
use Rattle.fst_syntax.specs.declared.stop.Stop.TheVariants.{Syntax, NoMemory}
use Rattle.fst_syntax.specs.declared.terminal.Terminal.{Terminal}
use Rattle.fst_grammar.specs.Grammar.{Code, El, Rule, token, mark}
use Rattle.fst_grammar.specs.Reading as G
use Rattle.fst_grammar.specs.Reading.{Outcome, ◌>>=◌, read_by}
use Rattle.fst_syntax.specs.Tokens.{Token, alphabet}
use Rattle.fst_trees.specs.declared.word.Word.{Word}
use Rattle.fst_syntax.specs.declared.operator.Digits.{Digits}
use Rattle.fst_syntax.specs.Trees.{Tree}
use Rattle.fst_syntax.specs.Productions.{N, T, rule, word, digits}
use Rattle.fst_syntax.specs.Tables.{firsts, nullable, rank, top}

unfoldable pub reads : (n : N) → List Token → Outcome Token (T n)
reads = read_by alphabet N T firsts nullable rule rank top

-- what reading by a right side does
abbrev pub run : {c : Code alphabet N T} → Rule alphabet N T c → List Token → Outcome Token (El alphabet N T c)
run r = G.run alphabet N T firsts nullable reads r

-- what reading does at a nonterminal
abbrev pub layer : (n : N) → List Token → Outcome Token (T n)
layer n = run (rule n)

-- a mark or a word
abbrev pub takes : Terminal → List Token → Outcome Token Pos
takes k = run (mark k)

-- an identifier's token as a word, a number's as digits
abbrev pub words : Terminal → List Token → Outcome Token Word
words k ts = run (token k) ts >>= λ t ks. Ok (word t, ks)

abbrev pub numbers : Terminal → List Token → Outcome Token Digits
numbers k ts = run (token k) ts >>= λ t ks. Ok (digits t, ks)

-- what is read as a tree that waits for a value, given that value
abbrev pub given : {B C : Type 0} → B → Outcome Token (B → C) → Outcome Token C
given b o = o >>= λ tree ks. Ok (tree b, ks)

abbrev pub applied : Tree → Outcome Token (Tree → Tree) → Outcome Token Tree
applied a o = given a o

abbrev pub placed : Pos → Outcome Token (Pos → Tree) → Outcome Token Tree
placed at o = given at o

abbrev pub closed : Tree → Pos → Outcome Token (Tree → Pos → Tree) → Outcome Token Tree
closed a at o = o >>= λ more ks. Ok (more a at, ks)

-- a list's front with what is read behind it
abbrev pub behind : {A : Type 0} → List A → Outcome Token (List A) → Outcome Token (List A)
behind front o = o >>= λ more ks. Ok (front ++ more, ks)

-- what a list gives: an item and the list again where the test holds, else nothing
abbrev pub listing : {A : Type 0} → Bool → Outcome Token A → (List Token → Outcome Token (List A)) → List Token → Outcome Token (List A)
listing {A} test item list ts = if test
    then (◌>>=◌ {A = A × List A} {B = List A} (item >>= (λ a us. list us >>= (λ more ks. Ok ((a, more), ks)))) (λ p ks. Ok (p.0 ∷ p.1, ks)))
    else (Ok ([], ts))

-- The function gives the outcome, with these tokens left, unless memory fails.
abbrev pub Reads : {A : Type 0} → Outcome Token A → Result A Stop → List Token → Type 0
Reads o (Ok a) new = o ≡ Ok (a, new)
Reads o (Err Syntax) new = o ≡ Err new
Reads o (Err NoMemory) new = Unit {0}

-- Right sides of the productions that functions of their own read.
use Rattle.std.specs.Prelude.{ℕ, Bool, true, List, [], ◌∷◌}
use Rattle.fst_syntax.specs.declared.terminal.Terminal.{Terminal}
use Rattle.fst_syntax.specs.declared.terminal.Terminal.TheVariants as k
use Rattle.fst_trees.specs.declared.sort.SortTree.TheVariants as S
use Rattle.fst_trees.specs.declared.pattern.ConWord.{ConWord}
use Rattle.fst_trees.specs.declared.pattern.ConWord.TheVariants as C
use Rattle.fst_grammar.specs.Grammar.{tree, mark, call}
use Rattle.fst_syntax.specs.Productions.{R, ◌⋅◌, ◌▸◌, ◌◂◌, ◌⇐◌, pattern, sat, atom, inner, items, plain, binder}
use Rattle.fst_syntax.specs.Trees as t

-- a constructor's word with no name, and with one
abbrev pub bare : Terminal → ConWord → R (tree pattern)
bare m con = (λ p. record { at = p; con = con; names = [] }) ⇐ mark m

abbrev pub of_one : Terminal → ConWord → R (tree pattern)
of_one m con = (λ p. record { at = p.0; con = con; names = p.1 ∷ [] }) ⇐ mark m ⋅ call binder

abbrev pub of_none : R (tree pattern)
of_none = (λ p. record { at = p; con = C.Nil; names = [] }) ⇐ mark k.LeftBracket ◂ k.RightBracket

abbrev pub of_cons : R (tree pattern)
of_cons = (λ p. record { at = p.0.at; con = C.Cons; names = p.0 ∷ p.1 ∷ [] }) ⇐ call binder ⋅ k.ColonColon ▸ call binder

abbrev pub of_pair : R (tree pattern)
of_pair = (λ p. record { at = p.0; con = C.Pair; names = p.1.0 ∷ p.1.1 ∷ [] }) ⇐ mark k.LeftParen ⋅ call binder ⋅ k.Comma ▸ call binder ◂ k.RightParen

-- the sort behind its word
abbrev pub item : Terminal → R (tree sat)
item m = m ▸ call sat

abbrev pub either : R (tree sat)
either = (λ p. S.Either p.0 p.1) ⇐ k.Either ▸ call sat ⋅ call sat

-- what stands in parentheses and in brackets
abbrev pub parenthesized : (f : Bool) → R (tree (atom f))
parenthesized f = (λ p. p.1 p.0) ⇐ mark k.LeftParen ⋅ call (inner f)

abbrev pub bracketed : (f : Bool) → R (tree (atom f))
bracketed f = (λ p. t.listed p.0 p.1) ⇐ mark k.LeftBracket ⋅ call (items f)

-- a reserved word that is used as a name
abbrev pub reserved : Terminal → List ℕ → R (tree (plain true))
reserved m text = (λ p. t.ident (t.the_word text p)) ⇐ mark m

-- Ends of right sides that functions of their own read.
use Rattle.std.specs.Prelude.{Bool, true, false}
use Rattle.fst_syntax.specs.declared.terminal.Terminal.TheVariants as k
use Rattle.fst_grammar.specs.Grammar.{pair, tree, call, mark, a_place}
use Rattle.fst_syntax.specs.Productions.{R, ◌⋅◌, ◌▸◌, ◌◂◌, body, block, binder, term, conj, cmp, prod, un, sum_operator, prod_operator}

-- behind the first term of a pair
abbrev pub second : (f : Bool) → R (tree (term f))
second f = k.Comma ▸ call (term f) ◂ k.RightParen

-- behind the condition of a choice in parentheses, and behind the name of a let
abbrev pub choices : (f : Bool) → R (pair (tree (term f)) (tree (term f)))
choices f = k.Then ▸ call (term f) ⋅ k.Else ▸ call (term f) ◂ k.RightParen

abbrev pub bound_in : R (pair (tree (term true)) (tree (term true)))
bound_in = k.Equal ▸ call (term true) ⋅ k.In ▸ call (term true) ◂ k.RightParen

-- behind a formula that is asserted
abbrev pub asserted : R (tree body)
asserted = k.Semicolon ▸ call body

-- behind a block that is reified, and behind the sort at which one is reflected
abbrev pub reified : R (tree (term false))
reified = k.LeftParen ▸ call (term false) ◂ k.RightParen

abbrev pub reflected : R (pair (tree binder) (tree block))
reflected = k.LeftParen ▸ call binder ⋅ k.RightParen ▸ call block

-- an operator of a chain, with its right operand
abbrev pub disj_step : (f : Bool) → R (pair a_place (tree (conj f)))
disj_step f = mark k.BarBar ⋅ call (conj f)

abbrev pub conj_step : (f : Bool) → R (pair a_place (tree (cmp f)))
conj_step f = mark k.AmpAmp ⋅ call (cmp f)

abbrev pub sum_step : (f : Bool) → R (pair (tree sum_operator) (tree (prod f)))
sum_step f = call sum_operator ⋅ call (prod f)

abbrev pub prod_step : (f : Bool) → R (pair (tree prod_operator) (tree (un f)))
prod_step f = call prod_operator ⋅ call (un f)

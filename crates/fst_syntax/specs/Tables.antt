-- The tables of the grammar: the tokens with which each nonterminal may begin, whether it may be empty, the tokens that may
-- follow it, and its rank: a production calls only those of smaller ranks before it takes a token.
use Rattle.std.specs.Prelude.{ℕ, Bool, true, false, List, [], ◌∷◌, ◌++◌}
use Rattle.fst_syntax.specs.declared.terminal.Terminal.{Terminal}
use Rattle.fst_syntax.specs.declared.terminal.Terminal.TheVariants as k
use Rattle.fst_syntax.specs.declared.operator.Separator.TheVariants as s
use Rattle.fst_syntax.specs.Productions.{N, program, decl, effect, signature, returning, joining, base, two_names, three_names, lift, fun, head, computation, contract, needs, gives, measures, depth, measures_more, terms_more, effname, params, param, hidden, refinement, sort, sort_more, sat, body, ghost_let, plain_let, assertion, branching, matching, block, binding, annotation, part, block_part, reify, reflect, named_part, after_name, operation, rest, arms, arms_more, arm, dm, dm_let, dm_branching, dm_matching, dm_block, dm_binding, dmpart, dm_named_part, dm_after_name, run_args, second, dm_arms, dm_arms_more, dm_arm, pattern, term, implies_more, disj, disj_more, conj, conj_more, cmp, cmp_more, con, con_more, sum, sum_more, prod, prod_more, un, other, negated, app, solid, prefix, named, application, plain, atom, inner, enclosed, choice, inner_more, args, items, let_in, comparison, sum_operator, prod_operator, prefix_operator, name, binder, number, small}

-- the tokens with which terms and their parts begin
abbrev pub prefix_first : List Terminal
prefix_first = k.Fst ∷ k.Snd ∷ k.Some ∷ k.Inl ∷ k.Inr ∷ k.Len ∷ []

abbrev pub plain_first : List Terminal
plain_first = k.True ∷ k.False ∷ k.None ∷ k.Result ∷ k.Input ∷ k.LeftParen ∷ k.LeftBracket ∷ []

abbrev pub solid_first : List Terminal
solid_first = k.Name ∷ prefix_first ++ plain_first

abbrev pub other_first : List Terminal
other_first = k.Minus ∷ k.Not ∷ k.Small ∷ k.Number ∷ prefix_first ++ plain_first

abbrev pub term_first : List Terminal
term_first = k.Name ∷ other_first

abbrev pub compare_first : List Terminal
compare_first = k.Equal ∷ k.NotEqual ∷ k.LessEqual ∷ k.Less ∷ k.GreaterEqual ∷ k.Greater ∷ []

abbrev pub operators : List Terminal
operators = k.Star ∷ k.Slash ∷ k.Percent ∷ k.Plus ∷ k.Minus ∷ k.ColonColon ∷ compare_first ++ (k.AmpAmp ∷ k.BarBar ∷ k.Implies ∷ [])

abbrev pub sat_first : List Terminal
sat_first = k.Unit ∷ k.Bool ∷ k.Int ∷ k.Option ∷ k.List ∷ k.Either ∷ k.Name ∷ k.LeftParen ∷ []

abbrev pub part_first : List Terminal
part_first = k.LeftBrace ∷ k.Reify ∷ k.Reflect ∷ term_first

abbrev pub body_first : List Terminal
body_first = k.Ghost ∷ k.Let ∷ k.Assert ∷ k.If ∷ k.Match ∷ part_first

abbrev pub dm_first : List Terminal
dm_first = k.Let ∷ k.If ∷ k.Match ∷ k.LeftBrace ∷ term_first

abbrev pub firsts : N → List Terminal
firsts program = k.Effect ∷ k.Lift ∷ k.Fun ∷ []
firsts decl = k.Effect ∷ k.Lift ∷ k.Fun ∷ []
firsts effect = k.Effect ∷ []
firsts signature = k.Effect ∷ []
firsts returning = k.Return ∷ []
firsts joining = k.Bind ∷ []
firsts base = k.PureEffect ∷ k.DivEffect ∷ []
firsts two_names = k.Name ∷ k.Hole ∷ []
firsts three_names = k.Name ∷ k.Hole ∷ []
firsts lift = k.Lift ∷ []
firsts fun = k.Fun ∷ []
firsts head = k.Fun ∷ []
firsts computation = k.PureEffect ∷ k.GhostEffect ∷ k.DivEffect ∷ k.Name ∷ []
firsts contract = k.Requires ∷ k.Ensures ∷ k.Decreases ∷ k.Unfold ∷ []
firsts needs = k.Requires ∷ []
firsts gives = k.Ensures ∷ []
firsts measures = k.Decreases ∷ []
firsts (measures_more n) = k.Comma ∷ []
firsts (terms_more s.Comma f) = k.Comma ∷ []
firsts (terms_more s.Semicolon f) = k.Semicolon ∷ []
firsts depth = k.Unfold ∷ []
firsts effname = k.PureEffect ∷ k.GhostEffect ∷ k.DivEffect ∷ k.Name ∷ []
firsts params = k.Ghost ∷ k.LeftParen ∷ []
firsts param = k.Ghost ∷ k.LeftParen ∷ []
firsts hidden = k.Ghost ∷ []
firsts refinement = k.LeftBrace ∷ []
firsts sort = sat_first
firsts sort_more = k.Star ∷ []
firsts sat = sat_first
firsts body = body_first
firsts ghost_let = k.Ghost ∷ []
firsts plain_let = k.Let ∷ []
firsts assertion = k.Assert ∷ []
firsts branching = k.If ∷ []
firsts matching = k.Match ∷ []
firsts block = k.LeftBrace ∷ []
firsts binding = k.Name ∷ k.Hole ∷ []
firsts annotation = k.Colon ∷ []
firsts part = part_first
firsts block_part = k.LeftBrace ∷ []
firsts reify = k.Reify ∷ []
firsts reflect = k.Reflect ∷ []
firsts named_part = k.Name ∷ []
firsts after_name = k.LeftParen ∷ operators
firsts operation = other_first
firsts rest = operators
firsts arms = k.Bar ∷ []
firsts arms_more = k.Bar ∷ []
firsts arm = k.Bar ∷ []
firsts dm = dm_first
firsts dm_let = k.Let ∷ []
firsts dm_branching = k.If ∷ []
firsts dm_matching = k.Match ∷ []
firsts dm_block = k.LeftBrace ∷ []
firsts dm_binding = k.Name ∷ k.Hole ∷ []
firsts dmpart = k.LeftBrace ∷ term_first
firsts dm_named_part = k.Name ∷ []
firsts dm_after_name = k.LeftParen ∷ operators
firsts run_args = term_first
firsts second = k.Comma ∷ []
firsts dm_arms = k.Bar ∷ []
firsts dm_arms_more = k.Bar ∷ []
firsts dm_arm = k.Bar ∷ []
firsts pattern = k.True ∷ k.False ∷ k.None ∷ k.Some ∷ k.LeftBracket ∷ k.Name ∷ k.Hole ∷ k.Inl ∷ k.Inr ∷ k.LeftParen ∷ []
firsts (term f) = term_first
firsts (implies_more f) = k.Implies ∷ []
firsts (disj f) = term_first
firsts (disj_more f) = k.BarBar ∷ []
firsts (conj f) = term_first
firsts (conj_more f) = k.AmpAmp ∷ []
firsts (cmp f) = term_first
firsts (cmp_more f) = compare_first
firsts (con f) = term_first
firsts (con_more f) = k.ColonColon ∷ []
firsts (sum f) = term_first
firsts (sum_more f) = k.Plus ∷ k.Minus ∷ []
firsts (prod f) = term_first
firsts (prod_more f) = k.Star ∷ k.Slash ∷ k.Percent ∷ []
firsts (un f) = term_first
firsts (other f) = other_first
firsts (negated f) = k.Minus ∷ k.Not ∷ k.Small ∷ k.Number ∷ solid_first
firsts (app f) = k.Minus ∷ k.Small ∷ k.Number ∷ solid_first
firsts (solid f) = solid_first
firsts (prefix f) = prefix_first
firsts (named f) = k.Name ∷ []
firsts (application f) = k.LeftParen ∷ []
firsts (plain f) = plain_first
firsts (atom f) = k.True ∷ k.False ∷ k.None ∷ k.LeftParen ∷ k.LeftBracket ∷ []
firsts (inner f) = k.RightParen ∷ k.If ∷ k.Let ∷ term_first
firsts (enclosed f) = k.RightParen ∷ k.If ∷ term_first
firsts (choice f) = k.If ∷ []
firsts (inner_more f) = k.RightParen ∷ k.Comma ∷ []
firsts (args f) = k.RightParen ∷ term_first
firsts (items f) = k.RightBracket ∷ term_first
firsts let_in = k.Let ∷ []
firsts comparison = compare_first
firsts sum_operator = k.Plus ∷ k.Minus ∷ []
firsts prod_operator = k.Star ∷ k.Slash ∷ k.Percent ∷ []
firsts prefix_operator = prefix_first
firsts name = k.Name ∷ []
firsts binder = k.Name ∷ k.Hole ∷ []
firsts number = k.Small ∷ k.Number ∷ []
firsts small = k.Small ∷ []

abbrev pub nullable : N → Bool
nullable program = true
nullable contract = true
nullable needs = true
nullable gives = true
nullable measures = true
nullable (measures_more n) = true
nullable (terms_more s f) = true
nullable depth = true
nullable params = true
nullable hidden = true
nullable refinement = true
nullable sort_more = true
nullable annotation = true
nullable after_name = true
nullable rest = true
nullable arms_more = true
nullable dm_after_name = true
nullable second = true
nullable dm_arms_more = true
nullable (implies_more f) = true
nullable (disj_more f) = true
nullable (conj_more f) = true
nullable (cmp_more f) = true
nullable (con_more f) = true
nullable (sum_more f) = true
nullable (prod_more f) = true
nullable (application f) = true
nullable _ = false

-- what may follow declarations, bodies, sorts, terms and the operands of each operator
abbrev pub decl_follow : List Terminal
decl_follow = k.Effect ∷ k.Lift ∷ k.Fun ∷ k.End ∷ []

abbrev pub body_follow : List Terminal
body_follow = k.Else ∷ k.RightBrace ∷ k.Bar ∷ k.EndWord ∷ []

abbrev pub sort_follow : List Terminal
sort_follow = k.RightParen ∷ k.LeftBrace ∷ k.Requires ∷ k.Ensures ∷ k.Decreases ∷ k.Unfold ∷ k.Equal ∷ k.Result ∷ k.Return ∷ k.LeftParen ∷ []

abbrev pub term_follow : List Terminal
term_follow = k.Then ∷ k.Else ∷ k.With ∷ k.In ∷ k.RightParen ∷ k.Comma ∷ k.Semicolon ∷ k.RightBracket ∷ k.RightBrace ∷ k.Bar ∷ k.EndWord ∷ k.Ensures ∷ k.Decreases ∷ k.Unfold ∷ k.LeftBrace ∷ []

abbrev pub disj_follow : List Terminal
disj_follow = k.Implies ∷ term_follow

abbrev pub conj_follow : List Terminal
conj_follow = k.BarBar ∷ disj_follow

abbrev pub cmp_follow : List Terminal
cmp_follow = k.AmpAmp ∷ conj_follow

abbrev pub con_follow : List Terminal
con_follow = compare_first ++ cmp_follow

abbrev pub sum_follow : List Terminal
sum_follow = k.ColonColon ∷ con_follow

abbrev pub prod_follow : List Terminal
prod_follow = k.Plus ∷ k.Minus ∷ sum_follow

abbrev pub operand_follow : List Terminal
operand_follow = k.Star ∷ k.Slash ∷ k.Percent ∷ prod_follow

abbrev pub follow : N → List Terminal
follow program = k.End ∷ []
follow decl = decl_follow
follow effect = decl_follow
follow signature = k.Return ∷ []
follow returning = k.Bind ∷ []
follow joining = decl_follow
follow base = k.Input ∷ []
follow two_names = k.LeftBrace ∷ []
follow three_names = k.LeftBrace ∷ []
follow lift = decl_follow
follow fun = decl_follow
follow head = k.LeftBrace ∷ []
follow computation = k.Requires ∷ k.Ensures ∷ k.Decreases ∷ k.Unfold ∷ k.LeftBrace ∷ []
follow contract = k.LeftBrace ∷ []
follow needs = k.Ensures ∷ k.Decreases ∷ k.Unfold ∷ k.LeftBrace ∷ []
follow gives = k.Decreases ∷ k.Unfold ∷ k.LeftBrace ∷ []
follow measures = k.Unfold ∷ k.LeftBrace ∷ []
follow (measures_more n) = k.Unfold ∷ k.LeftBrace ∷ []
follow (terms_more s.Comma f) = k.RightParen ∷ []
follow (terms_more s.Semicolon f) = k.RightBracket ∷ []
follow depth = k.LeftBrace ∷ []
follow effname = sat_first
follow params = k.Colon ∷ []
follow param = k.Ghost ∷ k.LeftParen ∷ k.Colon ∷ []
follow hidden = k.LeftParen ∷ []
follow refinement = k.RightParen ∷ []
follow sort = sort_follow
follow sort_more = sort_follow
follow sat = k.Star ∷ sat_first ++ sort_follow
follow body = body_follow
follow ghost_let = body_follow
follow plain_let = body_follow
follow assertion = body_follow
follow branching = body_follow
follow matching = body_follow
follow block = k.LeftParen ∷ k.In ∷ body_follow ++ decl_follow
follow binding = body_first
follow annotation = k.Equal ∷ []
follow part = k.In ∷ body_follow
follow block_part = k.In ∷ body_follow
follow reify = k.In ∷ body_follow
follow reflect = k.In ∷ body_follow
follow named_part = k.In ∷ body_follow
follow after_name = k.In ∷ body_follow
follow operation = k.In ∷ body_follow
follow rest = k.In ∷ body_follow
follow arms = k.EndWord ∷ []
follow arms_more = k.EndWord ∷ []
follow arm = k.Bar ∷ k.EndWord ∷ []
follow dm = body_follow
follow dm_let = body_follow
follow dm_branching = body_follow
follow dm_matching = body_follow
follow dm_block = k.Bind ∷ decl_follow
follow dm_binding = dm_first
follow dmpart = k.In ∷ body_follow
follow dm_named_part = k.In ∷ body_follow
follow dm_after_name = k.In ∷ body_follow
follow run_args = k.In ∷ body_follow
follow second = k.RightParen ∷ []
follow dm_arms = k.EndWord ∷ []
follow dm_arms_more = k.EndWord ∷ []
follow dm_arm = k.Bar ∷ k.EndWord ∷ []
follow pattern = k.Arrow ∷ []
follow (term f) = term_follow
follow (implies_more f) = term_follow
follow (disj f) = disj_follow
follow (disj_more f) = disj_follow
follow (conj f) = conj_follow
follow (conj_more f) = conj_follow
follow (cmp f) = cmp_follow
follow (cmp_more f) = cmp_follow
follow (con f) = con_follow
follow (con_more f) = con_follow
follow (sum f) = sum_follow
follow (sum_more f) = sum_follow
follow (prod f) = prod_follow
follow (prod_more f) = prod_follow
follow (un f) = operand_follow
follow (other f) = operand_follow
follow (negated f) = operand_follow
follow (app f) = operand_follow
follow (solid f) = operand_follow
follow (prefix f) = operand_follow
follow (named f) = operand_follow
follow (application f) = operand_follow
follow (plain f) = operand_follow
follow (atom f) = operand_follow
follow (inner f) = operand_follow
follow (enclosed f) = operand_follow
follow (choice f) = operand_follow
follow (inner_more f) = operand_follow
follow (args f) = operand_follow
follow (items f) = operand_follow
follow let_in = operand_follow
follow comparison = term_first
follow sum_operator = term_first
follow prod_operator = term_first
follow prefix_operator = k.Minus ∷ k.Small ∷ k.Number ∷ solid_first
follow name = k.Colon ∷ k.To ∷ k.By ∷ k.Ghost ∷ k.Star ∷ sat_first ++ (sort_follow ++ operand_follow)
follow binder = k.Colon ∷ k.Name ∷ k.Hole ∷ k.LeftBrace ∷ k.Equal ∷ k.RightParen ∷ k.Arrow ∷ k.Comma ∷ k.ColonColon ∷ []
follow number = operand_follow
follow small = k.LeftBrace ∷ []

abbrev pub rank : N → ℕ
rank program = 3
rank decl = 2
rank effect = 1
rank two_names = 1
rank three_names = 1
rank fun = 1
rank computation = 2
rank contract = 1
rank effname = 1
rank params = 2
rank param = 1
rank sort = 2
rank sat = 1
rank body = 13
rank binding = 1
rank part = 12
rank named_part = 1
rank after_name = 3
rank operation = 4
rank rest = 2
rank arms = 1
rank arms_more = 1
rank dm = 13
rank dm_binding = 1
rank dmpart = 12
rank dm_named_part = 1
rank dm_after_name = 3
rank run_args = 12
rank dm_arms = 1
rank dm_arms_more = 1
rank pattern = 1
rank (term f) = 11
rank (disj f) = 10
rank (conj f) = 9
rank (cmp f) = 8
rank (cmp_more f) = 1
rank (con f) = 7
rank (sum f) = 6
rank (sum_more f) = 1
rank (prod f) = 5
rank (prod_more f) = 1
rank (un f) = 4
rank (other f) = 3
rank (negated f) = 3
rank (app f) = 3
rank (solid f) = 2
rank (prefix f) = 1
rank (named f) = 1
rank (plain f) = 1
rank (inner f) = 13
rank (enclosed f) = 12
rank (args f) = 12
rank (items f) = 12
rank _ = 0

-- above all ranks
abbrev pub top : ℕ
top = 14

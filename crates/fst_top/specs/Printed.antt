-- Printed texts: places, refusals, goals and branches.
use Rattle.std.specs.Prelude.{ℕ, suc, ◌+◌, ◌-◌, nat_lt, nat_eq, List, [], ◌∷◌, ◌++◌, length, take, slice_get, Option, Some, None, codes, if◌then◌else◌, bytes_eq}
use Rattle.std.specs.Fmt.{decimal}
use Rattle.fst_base.specs.Place.{line, column}
use Rattle.fst_base.specs.declared.rule.Rule.{Rule}
use Rattle.fst_base.specs.declared.rule.Rule.TheVariants as rule
use Rattle.fst_base.specs.Values.{Val}
use Rattle.fst_terms.specs.Terms.{Tm, t_var}
use Rattle.fst_terms.specs.Meaning.{Vr}
use Rattle.fst_terms.specs.declared.flat.Mark.{Mark}
use Rattle.fst_terms.specs.declared.flat.Mark.TheVariants as mark
use Rattle.fst_program.specs.declared.comp.Con.{Con}
use Rattle.fst_program.specs.declared.comp.Con.TheVariants as con
use Rattle.fst_program.specs.declared.goal.SiteKind.{SiteKind}
use Rattle.fst_program.specs.declared.goal.SiteKind.TheVariants as kind
use Rattle.fst_program.specs.declared.goal.Choice.{Choice}
use Rattle.fst_program.specs.declared.goal.Choice.TheVariants as choice
use Rattle.fst_program.specs.Texts.{Prog, if_there, fun_at}
use Rattle.fst_program.specs.Paths.{Gl, over, goals_of}
use Rattle.fst_terms.specs.Flats.{Flt, flat_of}
use Rattle.fst_top.specs.Elaboration.{is_blank}
use Rattle.fst_values.specs.Texts.{text_of}

-- ---- places and refusals

-- the place at this offset of a text: its line and its column
abbrev pub place_text : (text : List ℕ) → (at : ℕ) → List ℕ
place_text text at = decimal (line (take at text)) ++ codes ":" ++ decimal (column (take at text))

-- the number of a rule and its name
abbrev pub rule_text : Rule → List ℕ
rule_text rule.Syntax = codes "1 Syntax"
rule_text rule.TooLong = codes "2 TooLong"
rule_text rule.TooDeep = codes "3 TooDeep"
rule_text rule.NumberTooWide = codes "4 NumberTooWide"
rule_text rule.Unknown = codes "5 Unknown"
rule_text rule.Twice = codes "6 Twice"
rule_text rule.TooEarly = codes "7 TooEarly"
rule_text rule.Arity = codes "8 Arity"
rule_text rule.SortClash = codes "9 SortClash"
rule_text rule.GhostUse = codes "10 GhostUse"
rule_text rule.NoLift = codes "11 NoLift"
rule_text rule.TwoPaths = codes "12 TwoPaths"
rule_text rule.EffectShape = codes "13 EffectShape"
rule_text rule.NoMeasure = codes "14 NoMeasure"
rule_text rule.OpenMatch = codes "15 OpenMatch"
rule_text rule.NoMain = codes "16 NoMain"
rule_text rule.BadArgument = codes "17 BadArgument"
rule_text rule.BadFuel = codes "18 BadFuel"
rule_text rule.TooMany = codes "19 TooMany"
rule_text rule.BadWords = codes "20 BadWords"
rule_text rule.NoEffect = codes "21 NoEffect"

-- a rule that is broken at a place
abbrev pub refusal_text : Rule → (text : List ℕ) → (at : ℕ) → List ℕ
refusal_text r text at = codes "refused " ++ rule_text r ++ codes " at " ++ place_text text at ++ codes "\n"

-- a rule without a place
abbrev pub plain_refusal_text : Rule → List ℕ
plain_refusal_text r = codes "refused " ++ rule_text r ++ codes "\n"

-- word k of the arguments is bad
abbrev pub bad_argument_text : (k : ℕ) → List ℕ
bad_argument_text k = codes "refused " ++ rule_text rule.BadArgument ++ codes " " ++ decimal k ++ codes "\n"

abbrev pub not_built_text : List ℕ
not_built_text = codes "refused 0 NotBuilt\n"

abbrev pub read_fault_text : List ℕ
read_fault_text = codes "read fault\n"

-- ---- the end of a run

abbrev pub value_text : Val → List ℕ
value_text v = text_of v ++ codes "\n"

abbrev pub out_of_fuel_text : List ℕ
out_of_fuel_text = codes "out of fuel\n"

-- ---- a yes

-- a number and what it counts
abbrev pub counted : ℕ → List ℕ → List ℕ
counted n what = decimal n ++ what

abbrev pub yes_text : Prog → List ℕ
yes_text P = codes "checked: " ++ counted (length P.funs) (codes " functions, ") ++ counted (length (goals_of P)) (codes " goals\n")

-- ---- goals

abbrev pub kind_text : SiteKind → List ℕ
kind_text kind.Divisor = codes "divisor"
kind_text kind.Match = codes "match"
kind_text kind.Requires = codes "requires"
kind_text kind.Decreases = codes "decreases"
kind_text kind.Assert = codes "assert"
kind_text kind.Ensures = codes "ensures"

abbrev pub con_text : Con → List ℕ
con_text con.True = codes "true"
con_text con.False = codes "false"
con_text con.Empty = codes "none"
con_text con.Full = codes "some"
con_text con.Nil = codes "nil"
con_text con.Cons = codes "cons"
con_text con.Left = codes "inl"
con_text con.Right = codes "inr"
con_text con.Pair = codes "pair"

abbrev pub choice_text : Choice → List ℕ
choice_text choice.Then = codes "then"
choice_text choice.Else = codes "else"
choice_text (choice.Case c) = con_text c

-- a space before each choice
abbrev pub choices_text : List Choice → List ℕ
choices_text [] = []
choices_text (c ∷ cs) = codes " " ++ choice_text c ++ choices_text cs

abbrev pub path_text : List Choice → List ℕ
path_text cs = codes "path" ++ choices_text cs ++ codes "\n"

abbrev pub name_of_fun : Prog → ℕ → List ℕ
name_of_fun P k = if_there (fun_at P k) (λ f. f.name) []

-- what the goal is for, its function and its place
abbrev pub site_text : Prog → Gl → (text : List ℕ) → List ℕ
site_text P g text = kind_text g.kind ++ codes " of " ++ name_of_fun P g.fun ++ codes " at " ++ place_text text g.place ++ codes "\n"

-- ---- branches

-- how many of these variables have the name
abbrev pub count_of_name : (name : List ℕ) → List Vr → ℕ
count_of_name x [] = 0
count_of_name x (y ∷ ys) = if bytes_eq y.name x then suc (count_of_name x ys) else count_of_name x ys

-- the name of a variable after so many variables of that name; what binds nothing has no number
abbrev pub numbered : (name : List ℕ) → (before : ℕ) → List ℕ
numbered x n = if nat_eq n 0 then x else if is_blank x then x else x ++ codes "'" ++ decimal (n + 1)

-- a variable behind these ones
abbrev pub variable_behind : (before : List Vr) → Option Vr → List ℕ
variable_behind before None = []
variable_behind before (Some x) = numbered x.name (count_of_name x.name before)

-- the variable of an index: the last one has index 0
abbrev pub variable_text : List Vr → (index : ℕ) → List ℕ
variable_text xs i = if nat_lt i (length xs) then variable_behind (take (length xs - 1 - i) xs) (slice_get xs (length xs - 1 - i)) else []

-- an atom over bool and unit is a variable
abbrev pub atom_text : List Vr → Tm → List ℕ
atom_text xs (t_var i) = variable_text xs i
atom_text xs t = []

abbrev pub mark_text : Mark → List ℕ
mark_text mark.True = codes "true"
mark_text mark.False = codes "false"
mark_text mark.Less = codes "less"
mark_text mark.Greater = codes "greater"

abbrev pub marked_text : List Vr → Tm → Mark → List ℕ
marked_text xs t m = codes "  " ++ atom_text xs t ++ codes " is " ++ mark_text m ++ codes "\n"

-- a line for each atom
abbrev pub marks_text : List Vr → (atoms : List Tm) → List Mark → List ℕ
marks_text xs (t ∷ ts) (m ∷ ms) = marked_text xs t m ++ marks_text xs ts ms
marks_text xs _ _ = []

abbrev pub branch_text : Flt → List Mark → List ℕ
branch_text f ms = codes "branch\n" ++ marks_text f.vars f.atoms ms

-- ---- a no

abbrev pub no_text : Prog → Gl → List Mark → (text : List ℕ) → List ℕ
no_text P g ms text = codes "not proved: " ++ site_text P g text ++ path_text g.choices ++ branch_text (flat_of g.sequent []) ms

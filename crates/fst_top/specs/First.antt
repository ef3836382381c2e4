-- The texts of the first programs, as they are run: terms of variables, literals, equations and `if`s, in lets and `if`s.
use Rattle.std.specs.Prelude.{◌≡◌, ℕ, Option, Some, None, ⊤}
use Rattle.fst_base.specs.declared.op.Op.TheVariants as op
use Rattle.fst_base.specs.declared.value.Value.{Value}
use Rattle.fst_base.specs.Values.{plain_value}
use Rattle.fst_terms.specs.Terms.{Tm, Tms, t_var, t_int, t_bool, t_unit, t_prim, t_if, t_end, t_more}
use Rattle.fst_program.specs.Runs.{Outcome, Done, Out}
use Rattle.fst_program.specs.Texts.{Cm, c_ret, c_let, c_if, Prog, if_there, fun_at}

abbrev pub TermFirst : Tm → Type 0
TermFirst (t_var i) = ⊤
TermFirst (t_int n) = ⊤
TermFirst (t_bool b) = ⊤
TermFirst t_unit = ⊤
TermFirst (t_prim op.Eq S (t_more t (t_more u t_end)) at) = TermFirst t × TermFirst u
TermFirst (t_if c t u) = TermFirst c × TermFirst t × TermFirst u
TermFirst _ = ⊥

abbrev pub TextFirst : Cm → Type 0
TextFirst (c_ret t) = TermFirst t
TextFirst (c_let x c1 c2) = TextFirst c1 × TextFirst c2
TextFirst (c_if t c1 c2) = TermFirst t × TextFirst c1 × TextFirst c2
TextFirst _ = ⊥

-- function k is there, and its body is such a text
abbrev pub IsFirst : Prog → (k : ℕ) → Type 0
IsFirst P k = if_there (fun_at P k) (λ f. TextFirst f.body) ⊥

-- the run is done with this value, or out of fuel
abbrev pub RunGives : Outcome → Option Value → Type 0
RunGives o None = o ≡ Out
RunGives o (Some v) = (left : ℕ) × (o ≡ Done (plain_value v) left)

-- Forms of ways for private functions.
use Rattle.std.specs.Prelude.{Bool, if◌then◌else◌, List, [], map, Option, Some, None}
use Rattle.fst_base.specs.Sorts.{Srt}
use Rattle.fst_terms.specs.DataFacts.{implies}
use Rattle.fst_terms.specs.Formulas.{equation, joined}
use Rattle.fst_terms.specs.Terms.{Tm, t_bool, plain_term}
use Rattle.fst_base.specs.declared.op.Op.{Op}
use Rattle.fst_base.specs.declared.op.Op.TheVariants as op
use Rattle.fst_program.specs.declared.comp.Con.{Con}
use Rattle.fst_program.specs.declared.comp.Con.TheVariants as con
use Rattle.fst_program.specs.Texts.{Cm, CmArms, c_end, c_arm, Dm, DmArms, d_end, d_arm}
use Rattle.fst_program.specs.Paths.{family, same_con, selectors, con_args}
use Rattle.fst_logicfun.specs.Ends.{End, Taken, entered}
use Rattle.fst_scopes.specs.Scopes.{terms_for}
use Rattle.fst_logicfun.specs.declared.ways.Taken as taken
use Rattle.fst_logicfun.specs.declared.ways.End as walked

-- the constructors of a match by its first arm
abbrev pub family_of : Option Con → List Con
family_of None = []
family_of (Some c) = family c

abbrev pub taking : Con → Srt → Tm → List Tm → Taken
taking c S u hs = record { con = c; parts = selectors c S u; hyps = entered c S u hs }

abbrev pub known_taking : Con → Tm → List Tm → Taken
known_taking c u hs = record { con = c; parts = con_args u; hyps = hs }

-- the constructor of the terms that a primitive makes
abbrev pub made_by : Op → Option Con
made_by op.Nothing = Some con.Empty
made_by op.Just = Some con.Full
made_by op.Nil = Some con.Nil
made_by op.Cons = Some con.Cons
made_by op.Inl = Some con.Left
made_by op.Inr = Some con.Right
made_by op.Pair = Some con.Pair
made_by _ = None

abbrev pub plain_taken : taken.Taken → Taken
plain_taken t = record { con = t.con; parts = map plain_term t.parts; hyps = terms_for t.hyps }

abbrev pub plain_end : walked.End → End
plain_end e = record { hyps = terms_for e.hyps; result = plain_term e.result }

-- the first arm of this constructor
abbrev pub arm_of : CmArms → Con → Option Cm
arm_of c_end c = None
arm_of (c_arm c' xs body more) c = if same_con c' c then Some body else arm_of more c

abbrev pub dm_arm_of : DmArms → Con → Option Dm
dm_arm_of d_end c = None
dm_arm_of (d_arm c' xs d more) c = if same_con c' c then Some d else dm_arm_of more c

-- the value of a literal
abbrev pub bool_of : Tm → Option Bool
bool_of (t_bool b) = Some b
bool_of _ = None

-- the fact of an end: its hypotheses imply that the application equals its result
abbrev pub told : (application : Tm) → walked.End → Tm
told t e = implies (joined (map plain_term e.hyps)) (equation t (plain_term e.result))

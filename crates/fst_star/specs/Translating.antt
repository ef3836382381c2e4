-- The translation as its code has it: scopes and terms are lists with the last variable last.
use Rattle.std.specs.Prelude.{ℕ, List, [], ◌∷◌, Option, Some, None}
use Rattle.fst_base.specs.Sorts.{Srt, plain_sort}
use Rattle.fst_terms.specs.Terms.{Tm}
use Rattle.fst_program.specs.declared.comp.Con.{Con}
use Rattle.fst_program.specs.Paths.{family}
use Rattle.fst_program.specs.Texts.{Dm, DmArms}
use Rattle.fst_star.specs.declared.bodies.Bodies.{Bodies}
use Rattle.fst_star.specs.Plain.{plain_wp}
use Rattle.fst_star.specs.Transformers.{Wt, Wts, w_none, w_way}
use Rattle.fst_star.specs.Translation.{Scope, star, star_arm}

-- a scope of these sorts; the translation reads no measures
abbrev pub scope_in : List Srt → Scope
scope_in Ss = record { sorts = Ss; olds = [] }

abbrev pub star_in : Bodies → (Ss : List Srt) → (us : List Tm) → (n : ℕ) → Dm → Wt
star_in b Ss us n d = star (plain_sort b.first_sort) (plain_sort b.second_sort) (plain_wp b.first) (plain_wp b.second) (scope_in Ss) us n d

abbrev pub arm_in : Bodies → (Ss : List Srt) → (us : List Tm) → (n : ℕ) → DmArms → Con → (parts : List Tm) → Wt
arm_in b Ss us n arms c parts = star_arm (plain_sort b.first_sort) (plain_sort b.second_sort) (plain_wp b.first) (plain_wp b.second) (scope_in Ss) us n arms c parts

-- the constructors that a match splits on, from that of its first arm
abbrev pub family_of : Option Con → List Con
family_of None = []
family_of (Some c) = family c

-- a first, and a second where there is one
abbrev pub one_or_two : Con → Option Con → List Con
one_or_two c None = c ∷ []
one_or_two c (Some d) = c ∷ d ∷ []

-- ways after ways
abbrev pub joined_ways : Wts → Wts → Wts
joined_ways w_none vs = vs
joined_ways (w_way c phi w more) vs = w_way c phi w (joined_ways more vs)

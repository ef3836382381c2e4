use Rattle.std.proofs.Common.{◌≡◌, take}
use Rattle.fst_base.specs.Sorts.{plain_sort}
use Rattle.fst_program.proofs.PlainLemmas.{plain_dm_arms}
use Rattle.fst_program.specs.Paths.{dm_arms_at}
use Rattle.fst_scopes.proofs.definition_sorts.+definition_at.Given as goal

abbrev pub invariant-arms_at-loop-arm : goal.invariant-arms_at-loop-arm
invariant-arms_at-loop-arm l = plain_dm_arms l.made ≡ dm_arms_at (plain_sort l.a) (plain_sort l.b) (plain_dm_arms (take l.arm-index l.arms))

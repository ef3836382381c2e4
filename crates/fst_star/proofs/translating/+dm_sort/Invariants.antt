use Rattle.std.proofs.Common.{◌≡◌, drop}
use Rattle.fst_base.specs.Sorts.{plain_sort}
use Rattle.fst_program.proofs.PlainLemmas.{plain_dm_arms}
use Rattle.fst_scopes.specs.Scopes.{sorts_in}
use Rattle.fst_star.specs.Translation.{dm_arms_sort}
use Rattle.fst_star.proofs.translating.+dm_sort.Given as goal

abbrev pub invariant-arms_sort-loop-arm : goal.invariant-arms_sort-loop-arm
invariant-arms_sort-loop-arm l =
    dm_arms_sort (plain_sort l.bodies.first_sort) (plain_sort l.bodies.second_sort) (sorts_in l.sorts) (plain_sort l.sort) (plain_dm_arms l.arms)
    ≡ dm_arms_sort (plain_sort l.bodies.first_sort) (plain_sort l.bodies.second_sort) (sorts_in l.sorts) (plain_sort l.sort) (plain_dm_arms (drop l.arm-index l.arms))

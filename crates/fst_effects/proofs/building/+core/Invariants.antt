use Rattle.std.proofs.Common.{◌≡◌, take}
use Rattle.fst_terms.specs.Terms.{plain_terms}
use Rattle.fst_effects.specs.Scopes.{applied_in, scope_in, wants_in}
use Rattle.fst_effects.specs.TermChecks.{forms_core}
use Rattle.fst_effects.proofs.building.+core.Given as goal

abbrev pub invariant-core_forms-loop-index : goal.invariant-core_forms-loop-index
invariant-core_forms-loop-index l = record {
  so_far : plain_terms l.terms ≡ forms_core (applied_in l.callees) (scope_in l.fn.context) (take l.index l.forms) (wants_in l.wants);
  scope : scope_in l.context ≡ scope_in l.fn.context;
}

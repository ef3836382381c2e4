use Rattle.std.proofs.Common.{◌≡◌}
use Rattle.fst_congruence.specs.Classes.{Relabelling}
use Rattle.fst_congruence.specs.Lines.{Because, Extends}
use Rattle.fst_congruence.proofs.classes.Classes.relabel.Given as goal

abbrev pub invariant-loop-at : goal.invariant-loop-at
invariant-loop-at l = record {
  done : Relabelling l.initial.self.labels l.self.labels l.self.whys l.self.log l.terms l.from l.to l.at;
  link : Because l.self.log l.link l.from l.to;
  grown : Extends l.initial.self.log l.self.log;
  members : l.self.members ≡ l.initial.self.members;
}

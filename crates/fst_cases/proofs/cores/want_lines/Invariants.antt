use Rattle.std.proofs.Common.{ℕ, ◌≤◌, take}
use Rattle.fst_cases.specs.Cited.{AllRead, rank_of, want_at}
use Rattle.fst_cases.proofs.cores.want_lines.Given as goal

abbrev pub invariant-loop-line : goal.invariant-loop-line
invariant-loop-line l = record {
  kept : (b : ℕ) → rank_of (want_at l.initial.wants b) ≤ rank_of (want_at l.wants b);
  read : AllRead l.wants (take l.line-index l.lines);
}

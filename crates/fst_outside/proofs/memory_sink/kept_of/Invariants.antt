use Rattle.std.proofs.Common.{◌≡◌, drop}
use Rattle.fst_outside.specs.Memory.{kept_of}
use Rattle.fst_outside.proofs.memory_sink.kept_of.Given as goal

abbrev pub invariant-loop-fail : goal.invariant-loop-fail
invariant-loop-fail l = kept_of l.failing l.call ≡ kept_of (drop l.fail-index l.failing) l.call

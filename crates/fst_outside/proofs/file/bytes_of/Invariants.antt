use Rattle.std.proofs.Common.{◌≡◌, drop}
use Rattle.fst_outside.specs.Memory.{bytes_of}
use Rattle.fst_outside.proofs.file.bytes_of.Given as goal

abbrev pub invariant-loop-file : goal.invariant-loop-file
invariant-loop-file l = bytes_of l.files l.name ≡ bytes_of (drop l.file-index l.files) l.name

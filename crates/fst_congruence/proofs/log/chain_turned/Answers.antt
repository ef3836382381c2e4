use Rattle.std.proofs.Common.{inr}
use Rattle.fst_cert.specs.declared.line.Line.TheVariants as line
use Rattle.fst_congruence.proofs.LogLemmas.{noted, because-turned}
use Rattle.fst_congruence.proofs.log.chain_turned.Goals as goal

pub returns : goal.returns
returns c =
    let made = noted c.args.log.now (record { left = c.args.right; right = c.args.left; by = line.Chain c.args.second c.args.first }) c.note.new.log c.in_ok-line.line c.in_ok-line.ensures
    (λ ns es. inr (c.args.middle, (c.requires.second, c.requires.first))) in
    (because-turned c.note.new.log _ c.args.left c.args.right made.0, made.1)

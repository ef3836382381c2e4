use Rattle.std.proofs.Common.{arith}
use Rattle.std.proofs.lemmas.Result.{IfOk-weaker}
use Rattle.fst_cases.proofs.CitedLemmas.{core-is, all-read-more}
use Rattle.fst_cases.proofs.cores.core_noted.Goals as goal

pub returns : goal.returns
returns c =
    IfOk-weaker c.core_of.result _ _
    (λ core e. core-is c.want_line.new.wants c.args.marks.now core c.args.equations.now c.args.rows.now c.args.verdict.now
    (let a = c.want_lines.auto.wants in let b = c.want_lines-2.auto.wants in let d = c.want_line.auto.wants in let r = c.requires in omega (arith, a, b, d, r)) e
    (all-read-more c.want_lines-2.new.wants c.want_line.new.wants c.want_line.ensures.kept c.args.equations.now (all-read-more c.want_lines.new.wants c.want_lines-2.new.wants c.want_lines-2.ensures.kept c.args.equations.now c.want_lines.ensures.read))
    (all-read-more c.want_lines-2.new.wants c.want_line.new.wants c.want_line.ensures.kept c.args.rows.now c.want_lines-2.ensures.read)
    c.want_line.ensures.read)
    c.core_of.ensures

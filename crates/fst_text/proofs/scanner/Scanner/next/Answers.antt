use Rattle.fst_text.proofs.NextLemmas.{steps-token, steps-end, steps-fault}
use Rattle.fst_text.proofs.scanner.Scanner.next.Goals as goal

pub returns-in-Some-clause-tokens : goal.returns-in-Some-clause-tokens
returns-in-Some-clause-tokens c =
    (steps-token c.args.self.now c.self.inside.bytes.now c.self.inside.at c.blanks_len.result c.lexeme.result
    c.self.view_is c.self.invariant.0 c.blanks_len.ensures.value c.lexeme.ensures.value c.in-Some.kind c.in-Some.size c.in-Some.is).tokens

pub returns-in-Some-clause-fault : goal.returns-in-Some-clause-fault
returns-in-Some-clause-fault c =
    (steps-token c.args.self.now c.self.inside.bytes.now c.self.inside.at c.blanks_len.result c.lexeme.result
    c.self.view_is c.self.invariant.0 c.blanks_len.ensures.value c.lexeme.ensures.value c.in-Some.kind c.in-Some.size c.in-Some.is).fault

pub returns-in-Some-clause-end : goal.returns-in-Some-clause-end
returns-in-Some-clause-end c =
    (steps-token c.args.self.now c.self.inside.bytes.now c.self.inside.at c.blanks_len.result c.lexeme.result
    c.self.view_is c.self.invariant.0 c.blanks_len.ensures.value c.lexeme.ensures.value c.in-Some.kind c.in-Some.size c.in-Some.is).end

pub returns-in-Some-clause-err : goal.returns-in-Some-clause-err
returns-in-Some-clause-err c =
    (steps-token c.args.self.now c.self.inside.bytes.now c.self.inside.at c.blanks_len.result c.lexeme.result
    c.self.view_is c.self.invariant.0 c.blanks_len.ensures.value c.lexeme.ensures.value c.in-Some.kind c.in-Some.size c.in-Some.is).err

pub returns-in-Some-clause-longest : goal.returns-in-Some-clause-longest
returns-in-Some-clause-longest c =
    (steps-token c.args.self.now c.self.inside.bytes.now c.self.inside.at c.blanks_len.result c.lexeme.result
    c.self.view_is c.self.invariant.0 c.blanks_len.ensures.value c.lexeme.ensures.value c.in-Some.kind c.in-Some.size c.in-Some.is).longest

pub returns-in-None-clause-end : goal.returns-in-None-clause-end
returns-in-None-clause-end c =
    (steps-end c.args.self.now c.self.inside.bytes.now c.self.inside.at c.blanks_len.result c.lexeme.result
    c.self.view_is c.self.invariant.0 c.blanks_len.ensures.value c.lexeme.ensures.value c.in-None.is c.if-from-self.true).end

pub returns-in-None-clause-err : goal.returns-in-None-clause-err
returns-in-None-clause-err c =
    (steps-end c.args.self.now c.self.inside.bytes.now c.self.inside.at c.blanks_len.result c.lexeme.result
    c.self.view_is c.self.invariant.0 c.blanks_len.ensures.value c.lexeme.ensures.value c.in-None.is c.if-from-self.true).err

pub returns-in-None-2-clause-end : goal.returns-in-None-2-clause-end
returns-in-None-2-clause-end c =
    (steps-fault c.args.self.now c.self.inside.bytes.now c.self.inside.at c.blanks_len.result c.lexeme.result
    c.self.view_is c.self.invariant.0 c.blanks_len.ensures.value c.lexeme.ensures.value c.in-None.is c.if-from-self.false).end

pub returns-in-None-2-clause-err : goal.returns-in-None-2-clause-err
returns-in-None-2-clause-err c =
    (steps-fault c.args.self.now c.self.inside.bytes.now c.self.inside.at c.blanks_len.result c.lexeme.result
    c.self.view_is c.self.invariant.0 c.blanks_len.ensures.value c.lexeme.ensures.value c.in-None.is c.if-from-self.false).err

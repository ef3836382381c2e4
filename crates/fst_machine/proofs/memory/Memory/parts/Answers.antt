use Rattle.std.proofs.Common.{◌∙◌, subst, sym}
use Rattle.std.proofs.lemmas.Bool.{false≢true}
use Rattle.fst_machine.specs.Memories.{NodeHas, NodeIs}
use Rattle.fst_machine.proofs.PartLemmas.{parts-none, parts-just, parts-left, parts-right, parts-bool, parts-nothing, parts-nil, parts-pair, parts-cons}
use Rattle.fst_machine.proofs.memory.Memory.parts.Goals as goal

pub returns-in_default-clause-chain : goal.returns-in_default-clause-chain
returns-in_default-clause-chain c = λ v e k r. absurd (c.in_default.ensures.value v k)

pub returns-then-not-has-clause-chain : goal.returns-then-not-has-clause-chain
returns-then-not-has-clause-chain c = λ v e k r. parts-none c.args.self.now c.args.self.now c.in-Some.node v c.args.con e (c.in-Some.ensures.value v k) (λ h. false≢true (sym c.if-not-has.true ∙ c.has.ensures.1 h))

pub returns-in_ok-link-in-Just-clause-chain : goal.returns-in_ok-link-in-Just-clause-chain
returns-in_ok-link-in-Just-clause-chain c = λ v e k r.
    let m = c.args.self.now in
    let q = c.in-Just.is in
    parts-just m c.link.new.self c.args.con c.args.env c.in_ok-link-in-Just.field-0 e r c.in-Just.part v (subst (λ n. NodeIs m n v) q (c.in-Some.ensures.value v k)) (subst (λ n. NodeHas n c.args.con) q (c.has.ensures.0 c.if-not-has.false)) c.in_ok-link-in-Just.ensures.chain

pub returns-in_ok-link-in-Left-clause-chain : goal.returns-in_ok-link-in-Left-clause-chain
returns-in_ok-link-in-Left-clause-chain c = λ v e k r.
    let m = c.args.self.now in
    let q = c.in-Left.is in
    parts-left m c.link-in-Left.new.self c.args.con c.args.env c.in_ok-link-in-Left.field-0 e r c.in-Left.part v (subst (λ n. NodeIs m n v) q (c.in-Some.ensures.value v k)) (subst (λ n. NodeHas n c.args.con) q (c.has.ensures.0 c.if-not-has.false)) c.in_ok-link-in-Left.ensures.chain

pub returns-in_ok-link-in-Right-clause-chain : goal.returns-in_ok-link-in-Right-clause-chain
returns-in_ok-link-in-Right-clause-chain c = λ v e k r.
    let m = c.args.self.now in
    let q = c.in-Right.is in
    parts-right m c.link-in-Right.new.self c.args.con c.args.env c.in_ok-link-in-Right.field-0 e r c.in-Right.part v (subst (λ n. NodeIs m n v) q (c.in-Some.ensures.value v k)) (subst (λ n. NodeHas n c.args.con) q (c.has.ensures.0 c.if-not-has.false)) c.in_ok-link-in-Right.ensures.chain

pub returns-in_ok-link-in-Pair-clause-chain : goal.returns-in_ok-link-in-Pair-clause-chain
returns-in_ok-link-in-Pair-clause-chain c = λ v e k r.
    let m = c.args.self.now in
    let q = c.in-Pair.is in
    parts-pair m c.link-in-Pair.new.self c.link-in-Pair-2.new.self c.args.con c.args.env c.in_ok-env-in-Pair.env c.in_ok-link-in-Pair.field-0 e r c.in_ok-env-in-Pair.ensures.kept c.in-Pair.first c.in-Pair.second c.in_ok-env-in-Pair.ensures.chain c.in_ok-link-in-Pair.ensures.chain v (subst (λ n. NodeIs m n v) q (c.in-Some.ensures.value v k)) (subst (λ n. NodeHas n c.args.con) q (c.has.ensures.0 c.if-not-has.false))

pub returns-in_ok-link-in-Cons-clause-chain : goal.returns-in_ok-link-in-Cons-clause-chain
returns-in_ok-link-in-Cons-clause-chain c = λ v e k r.
    let m = c.args.self.now in
    let q = c.in-Cons.is in
    parts-cons m c.link-in-Cons.new.self c.link-in-Cons-2.new.self c.args.con c.args.env c.in_ok-env-in-Cons.env c.in_ok-link-in-Cons.field-0 e r c.in_ok-env-in-Cons.ensures.kept c.in-Cons.first c.in-Cons.rest c.in_ok-env-in-Cons.ensures.chain c.in_ok-link-in-Cons.ensures.chain v (subst (λ n. NodeIs m n v) q (c.in-Some.ensures.value v k)) (subst (λ n. NodeHas n c.args.con) q (c.has.ensures.0 c.if-not-has.false))

pub returns-in-Bool-clause-chain : goal.returns-in-Bool-clause-chain
returns-in-Bool-clause-chain c = λ v e k r.
    let m = c.args.self.now in
    let q = c.in-Bool.is in
    parts-bool m c.args.con c.args.env e r c.in-Bool.field-0 v (subst (λ n. NodeIs m n v) q (c.in-Some.ensures.value v k)) (subst (λ n. NodeHas n c.args.con) q (c.has.ensures.0 c.if-not-has.false))

pub returns-in-Nothing-clause-chain : goal.returns-in-Nothing-clause-chain
returns-in-Nothing-clause-chain c = λ v e k r.
    let m = c.args.self.now in
    let q = c.in-Nothing.is in
    parts-nothing m c.args.con c.args.env e r v (subst (λ n. NodeIs m n v) q (c.in-Some.ensures.value v k)) (subst (λ n. NodeHas n c.args.con) q (c.has.ensures.0 c.if-not-has.false))

pub returns-in-Nil-clause-chain : goal.returns-in-Nil-clause-chain
returns-in-Nil-clause-chain c = λ v e k r.
    let m = c.args.self.now in
    let q = c.in-Nil.is in
    parts-nil m c.args.con c.args.env e r v (subst (λ n. NodeIs m n v) q (c.in-Some.ensures.value v k)) (subst (λ n. NodeHas n c.args.con) q (c.has.ensures.0 c.if-not-has.false))

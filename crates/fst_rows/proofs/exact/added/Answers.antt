use Rattle.std.proofs.Common.{rules, FitsSigned, []}
use Rattle.std.proofs.lemmas.Int.{to_z-of_z}
use mir.Syntax.{w128}
use Rattle.fst_rows.proofs.ExactLemmas.{first-added, second-added, both-added, second-past, both-past}
use Rattle.fst_rows.proofs.exact.added.Goals as goal

pub loop-c-preserved-in-First : goal.loop-c-preserved-in-First
loop-c-preserved-in-First c =
    let f : FitsSigned w128 c.in-First.c.by = search rules in
    let g : FitsSigned w128 c.in_ok-by-in-First.by = search rules in
    let m = simp to_z-of_z at c.in_ok-by-in-First.ensures in
    let o = simp to_z-of_z at c.in_ok-put-in-First.ensures in
    first-added _ _ _ _ _ c.in-First.c c.in_ok-by-in-First.by c.loop-c.a.now c.loop-c.b.now c.rest-a.result.now c.in-First.ensures m o c.rest-a.ensures c.loop-c.invariant

pub loop-c-preserved-in-Second : goal.loop-c-preserved-in-Second
loop-c-preserved-in-Second c =
    let f : FitsSigned w128 c.in-Second.d.by = search rules in
    let g : FitsSigned w128 c.in_ok-by-in-Second.by = search rules in
    let m = simp to_z-of_z at c.in_ok-by-in-Second.ensures in
    let o = simp to_z-of_z at c.in_ok-put-in-Second.ensures in
    second-added _ _ _ _ _ c.in-Second.d c.in_ok-by-in-Second.by c.loop-c.a.now c.loop-c.b.now c.rest-b.result.now c.in-Second.ensures m o c.rest-b.ensures c.loop-c.invariant

pub loop-c-preserved : goal.loop-c-preserved
loop-c-preserved c =
    let f : FitsSigned w128 c.in-Both.c.by = search rules in
    let h : FitsSigned w128 c.in-Both.d.by = search rules in
    let g : FitsSigned w128 c.in_ok-by-in-Both.by = search rules in
    let m = simp to_z-of_z at c.in_ok-by-in-Both.ensures in
    let o = simp to_z-of_z at c.in_ok-put-in-Both.ensures in
    both-added _ _ _ _ _ c.in-Both.c c.in-Both.d c.in_ok-by-in-Both.by c.loop-c.a.now c.loop-c.b.now c.rest-a-in-Both.result.now c.rest-b-in-Both.result.now c.in-Both.ensures m o c.rest-a-in-Both.ensures c.rest-b-in-Both.ensures c.loop-c.invariant

pub returns-in_err-by-in-Second-clause-past : goal.returns-in_err-by-in-Second-clause-past
returns-in_err-by-in-Second-clause-past c _ =
    let f : FitsSigned w128 c.in-Second.d.by = search rules in
    let m = simp to_z-of_z at c.in_err-by-in-Second.ensures in
    second-past _ _ _ _ [] c.in-Second.d c.loop-c.a.now c.loop-c.b.now c.in-Second.ensures m c.loop-c.invariant

pub returns-in_err-by-in-Both-clause-past : goal.returns-in_err-by-in-Both-clause-past
returns-in_err-by-in-Both-clause-past c _ =
    let f : FitsSigned w128 c.in-Both.c.by = search rules in
    let h : FitsSigned w128 c.in-Both.d.by = search rules in
    let m = simp to_z-of_z at c.in_err-by-in-Both.ensures in
    both-past _ _ _ _ [] c.in-Both.c c.in-Both.d c.loop-c.a.now c.loop-c.b.now c.in-Both.ensures m c.loop-c.invariant

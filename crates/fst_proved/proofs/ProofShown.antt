-- A proof of the flat form of a sequent shows that the sequent is valid.
use Rattle.std.proofs.Common.{ℕ, zero, suc, List, [], ◌∷◌, ◌++◌, map, take, drop}
use Rattle.fst_base.specs.Sorts.{Srt}
use Rattle.fst_base.specs.Values.{HasSorts, default_of}
use Rattle.fst_base.proofs.RowLemmas.{default-has}
use Rattle.fst_terms.specs.Terms.{Tm}
use Rattle.fst_terms.specs.Flats.{sorts_of_vars}
use Rattle.fst_terms.specs.Meaning.{Env, Meaning, AllTrue}
use Rattle.fst_program.specs.Texts.{Prog, if_there, fun_at}
use Rattle.fst_terms.specs.FlatForms.{flat_of}
use Rattle.fst_program.specs.FunctionFacts.{function_facts, flat_in}
use Rattle.fst_goodness.specs.FunctionSentences.{AppliesBelow}
use Rattle.fst_proved.specs.Extensions.{FactsExtend}
use Rattle.fst_proved.specs.ProofShows.{FlatShows, ProofShows}
use Rattle.fst_terms.proofs.PreparedLemmas.{facts-hold, is-flat}
use Rattle.fst_cert.proofs.ProofTruths.{proofs-prove}
use Rattle.fst_goodness.proofs.AppliedFacts.{below-keeps}
use Rattle.fst_goodness.proofs.FactRounds.{function-facts-true}

together : (M : Meaning) (e : Env) (n : ℕ) (phis : List Tm) → AllTrue M (take n phis) e → AllTrue M (drop n phis) e → AllTrue M phis e
together M e zero phis h k = k
together M e (suc n) [] h k = tt
together M e (suc n) (phi ∷ phis) h k = (h.0, together M e n phis h.1 k)

default-env : (Ss : List Srt) → HasSorts Ss (map default_of Ss)
default-env [] = tt
default-env (S ∷ Ss) = (default-has S, default-env Ss)

pub facts-extend : (P : Prog) → FactsExtend P
facts-extend P sorted disciplined M means n good k s formed e has =
    let facts = function_facts P s (if_there (fun_at P k) (λ f. f.unfolds) 0) in
    let known = function-facts-true P sorted disciplined M means n good s (if_there (fun_at P k) (λ f. f.unfolds) 0) formed in
    facts-hold (AppliesBelow P n) M (below-keeps P sorted M means n) s facts known.formed e has (known.holds e has)

pub flat-shows : (P : Prog) → FlatShows P
flat-shows P sorted disciplined M means n good k s formed =
    let Kind = AppliesBelow P n in
    let depth = if_there (fun_at P k) (λ f. f.unfolds) 0 in
    let facts = function_facts P s depth in
    let known = function-facts-true P sorted disciplined M means n good s depth formed in
    let keeps = below-keeps P sorted M means n in
    record {
      keeps = keeps;
      flat = is-flat Kind M keeps s facts known.formed (map default_of (sorts_of_vars s.vars)) (default-env (sorts_of_vars s.vars));
      shows = λ is_true e has hyps.
          let there = facts-hold Kind M keeps s facts known.formed e has (known.holds e has) in
          let flat = flat_of s facts in
          there.goal.1 (is_true (there.names ++ e) there.sorts (together M (there.names ++ e) flat.hyps flat.formulas (there.hyps.0 hyps) there.facts));
    }

pub proof-shows : (P : Prog) → ProofShows P
proof-shows P sorted disciplined M means n good k s ls formed proves =
    let r = flat-shows P sorted disciplined M means n good k s formed in
    r.shows (proofs-prove (AppliesBelow P n) M r.keeps (flat_in P k s) r.flat ls proves)

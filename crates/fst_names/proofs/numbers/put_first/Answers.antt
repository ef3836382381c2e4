use Rattle.std.proofs.Common.{◌≡◌, List, ℕ, Some, None, ap, ◌∙◌, bytes_eq, rules, arith, Bor, cond}
use Rattle.std.proofs.lemmas.Grind.{common_steps}
use Rattle.std.specs.HashMap.{get_by}
use Rattle.std.proofs.lemmas.Map.Text.{hash_map_updates_str}
use Rattle.fst_names.proofs.NumberLemmas.{put-new}
use Rattle.fst_names.proofs.numbers.put_first.Goals as goal

pub returns-clause-ok : goal.returns-clause-ok
returns-clause-ok c =
    let f = λ (q : List ℕ). get_by {K = Bor (List ℕ)} (λ k. bytes_eq q k.now) c.args.first.now in
    let g = λ (q : List ℕ). get_by {K = Bor (List ℕ)} (λ k. bytes_eq q k.now) c.insert.new.self in
    let puts = λ (q : List ℕ). hash_map_updates_str c.text-2.result.now c.args.first.now c.insert.new.self _ c.in_ok-insert.ensures.updates q in
    let named = λ (q : List ℕ). puts q ∙ ap (λ n. cond (bytes_eq n q) (Some c.args.number) (f q)) c.text-2.ensures in
    let new : f c.args.name.now ≡ None = first_of (search rules, grind (arith, common_steps)) in
    put-new f g c.args.name.now c.args.number new named

use Rattle.std.proofs.Common.{◌≡◌, ◌+◌, ◌++◌, ◌∷◌, [], Some, None, map, length, sym, ap, ◌∙◌, bytes_eq, rules, arith, if◌then◌else◌}
use Rattle.std.proofs.lemmas.Grind.{common_steps}
use Rattle.std.proofs.lemmas.List.{map-append, length-map}
use Rattle.fst_names.specs.Names.{number_of, or_else}
use Rattle.fst_names.proofs.NumberLemmas.{number-push}
use Rattle.fst_names.proofs.numbers.Numbers.push.Goals as goal

pub invariant_of-self-2 : goal.invariant_of-self-2
invariant_of-self-2 c = λ q.
    let items = c.self.inside.names.items in
    let ys = map (λ x. x.now) items in
    let y = c.args.name.now in
    let long : c.in-Ok.number ≡ 0 + length ys = first_of (omega (arith, length-map items (λ x. x.now), c.self.inside.names.ok.0, c.in-Ok.ensures, c.len.ensures), grind (arith, common_steps)) in
    let pushed : c.push_reserved.new.self.items ≡ items ++ c.args.name ∷ [] = first_of (search rules, grind (arith, common_steps)) in
    c.in_ok-put_first.ensures.ok q
    ∙ ap (λ o. or_else o (if bytes_eq q y then Some c.in-Ok.number else None)) (c.self.invariant q)
    ∙ ap (λ n. or_else (number_of q ys) (if bytes_eq q y then Some n else None)) long
    ∙ sym (number-push 0 q ys y)
    ∙ ap (number_of q) (sym (ap (map (λ x. x.now)) pushed ∙ map-append (λ x. x.now) items (c.args.name ∷ [])))

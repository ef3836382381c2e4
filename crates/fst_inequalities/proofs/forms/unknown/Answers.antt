use Rattle.std.proofs.Common.{rules, map, ap, ◌∙◌}
use Rattle.fst_congruence.specs.Numbered.{number_of}
use Rattle.fst_terms.specs.Terms.{plain_term}
use Rattle.fst_inequalities.proofs.FormLemmas.{unknown-made, unknown-missing}
use Rattle.fst_inequalities.proofs.forms.unknown.Goals as goal

pub returns-in_err-unknown : goal.returns-in_err-unknown
returns-in_err-unknown c = unknown-missing _ _ c.from_residual.result c.from_residual.ensures.1

pub returns-in_err-push : goal.returns-in_err-push
returns-in_err-push c = unknown-missing _ _ c.from_residual-in_err-push.result c.from_residual-in_err-push.ensures.1

pub returns : goal.returns
returns c = unknown-made _ _ _ c.in_ok-unknown.unknown _ (search rules) (c.in_ok-unknown.ensures ∙ ap (λ ts. number_of (map plain_term ts) (plain_term c.args.term.now)) c.as_slice.ensures) c.new-coefs.ensures c.in_ok-push.ensures.ok

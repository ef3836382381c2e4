-- An example of each nonterminal.
use Rattle.std.proofs.Common.{ℕ, zero, suc, Bool, true, false}
use Rattle.fst_grammar.specs.Grammar.{Rule, Code, El, token, mark, empty, seq, alt, act, call}
use Rattle.fst_grammar.proofs.Sound as G
use Rattle.fst_syntax.specs.declared.terminal.Terminal.{Terminal}
use Rattle.fst_syntax.specs.declared.operator.Separator.{Separator}
use Rattle.fst_syntax.specs.Tokens.{alphabet}
use Rattle.fst_syntax.specs.Productions.{N, T, rule, program, decl, effect, signature, returning, joining, base, two_names, three_names, lift, fun, head, computation, contract, needs, gives, measures, depth, measures_more, terms_more, effname, params, param, hidden, refinement, sort, sort_more, sat, body, ghost_let, plain_let, assertion, branching, matching, block, binding, annotation, part, block_part, reify, reflect, named_part, after_name, operation, rest, arms, arms_more, arm, dm, dm_let, dm_branching, dm_matching, dm_block, dm_binding, dmpart, dm_named_part, dm_after_name, run_args, second, dm_arms, dm_arms_more, dm_arm, pattern, term, implies_more, disj, disj_more, conj, conj_more, cmp, cmp_more, con, con_more, sum, sum_more, prod, prod_more, un, other, negated, app, solid, prefix, named, application, plain, atom, inner, enclosed, choice, inner_more, args, items, let_in, comparison, sum_operator, prod_operator, prefix_operator, name, binder, number, small}
use Rattle.fst_syntax.specs.Tables.{firsts, nullable}
use Rattle.fst_syntax.proofs.Terminals.{kinds}

abbrev Has : N → Type 0
Has n = G.Sample alphabet kinds N T rule firsts nullable (call n)

abbrev S : {c : Code alphabet N T} → Rule alphabet N T c → Type 0
S r = G.Sample alphabet kinds N T rule firsts nullable r

abbrev one_token : {k : Terminal} → S (token k)
one_token = G.one_token alphabet kinds N T rule firsts nullable

abbrev one : {k : Terminal} → S (mark k)
one = G.one alphabet kinds N T rule firsts nullable

abbrev none : S empty
none = G.none alphabet kinds N T rule firsts nullable

abbrev both : {c d : Code alphabet N T} {r : Rule alphabet N T c} {q : Rule alphabet N T d} → S r → S q → S (seq r q)
both = G.both alphabet kinds N T rule firsts nullable

abbrev left : {c : Code alphabet N T} {r q : Rule alphabet N T c} → S r → S (alt r q)
left = G.left alphabet kinds N T rule firsts nullable

abbrev right : {c : Code alphabet N T} {r q : Rule alphabet N T c} → S q → S (alt r q)
right = G.right alphabet kinds N T rule firsts nullable

abbrev made : {c d : Code alphabet N T} {f : El alphabet N T c → El alphabet N T d} {r : Rule alphabet N T c} → S r → S (act f r)
made = G.made alphabet kinds N T rule firsts nullable

abbrev called : {n : N} → S (rule n) → S (call n)
called = G.called alphabet kinds N T rule firsts nullable

-- a mark before, a mark behind
abbrev skip : {c : Code alphabet N T} {r : Rule alphabet N T c} {k : Terminal} → S r → S (act (λ p. p.1) (seq (mark k) r))
skip x = made (both one x)

abbrev close : {c : Code alphabet N T} {r : Rule alphabet N T c} {k : Terminal} → S r → S (act (λ p. p.0) (seq r (mark k)))
close x = made (both x one)

of_name : Has name
of_name = called (made one_token)

of_binder : Has binder
of_binder = called (left (made one_token))

of_number : Has number
of_number = called (left (made one_token))

of_small : Has small
of_small = called (made one_token)

of_base : Has base
of_base = called (left (made one))

of_two_names : Has two_names
of_two_names = called (made (both of_binder of_binder))

of_three_names : Has three_names
of_three_names = called (made (both of_binder (both of_binder of_binder)))

of_comparison : Has comparison
of_comparison = called (left (made one))

of_sum_operator : Has sum_operator
of_sum_operator = called (left (made one))

of_prod_operator : Has prod_operator
of_prod_operator = called (left (made one))

of_prefix_operator : Has prefix_operator
of_prefix_operator = called (left (made one))

of_sat : Has sat
of_sat = called (left (made one))

of_sort_more : Has sort_more
of_sort_more = called (made (right (made none)))

of_sort : Has sort
of_sort = called (made (both of_sat of_sort_more))

of_effname : Has effname
of_effname = called (left (made one))

of_needs : Has needs
of_needs = called (made (right (made none)))

of_gives : Has gives
of_gives = called (made (right (made none)))

of_refinement : Has refinement
of_refinement = called (made (right (made none)))

of_annotation : Has annotation
of_annotation = called (made (right (made none)))

of_measures : Has measures
of_measures = called (right (made none))

of_measures_more : (n : ℕ) → Has (measures_more n)
of_measures_more zero = called (made none)
of_measures_more (suc n) = called (right (made none))

of_terms_more : (s : Separator) (f : Bool) → Has (terms_more s f)
of_terms_more s f = called (right (made none))

of_depth : Has depth
of_depth = called (right (made none))

of_hidden : Has hidden
of_hidden = called (made (right (made none)))

of_param : Has param
of_param = called (made (both of_hidden (skip (both of_binder (skip (both of_sort (close of_refinement)))))))

of_params : Has params
of_params = called (right (made none))

of_computation : Has computation
of_computation = called (made (both of_effname of_sort))

of_contract : Has contract
of_contract = called (made (both of_needs (both of_gives (both of_measures of_depth))))

of_head : Has head
of_head = called (made (skip (both of_name (both of_params (skip (both of_computation of_contract))))))

of_pattern : Has pattern
of_pattern = called (left (made one))

of_atom : (f : Bool) → Has (atom f)
of_atom f = called (left (made one))

of_plain : (f : Bool) → Has (plain f)
of_plain false = called (made (of_atom false))
of_plain true = called (left (made one))

of_application : (f : Bool) → Has (application f)
of_application f = called (made (right (made none)))

of_enclosed : (f : Bool) → Has (enclosed f)
of_enclosed f = called (left (made one))

of_named : (f : Bool) → Has (named f)
of_named false = called (made of_name)
of_named true = called (made (both of_name (of_application true)))

of_solid : (f : Bool) → Has (solid f)
of_solid f = called (left (made (of_named f)))

of_app : (f : Bool) → Has (app f)
of_app f = called (right (right (made (of_solid f))))

of_prefix : (f : Bool) → Has (prefix f)
of_prefix f = called (made (both of_prefix_operator (of_app f)))

of_un : (f : Bool) → Has (un f)
of_un f = called (left (made (of_named f)))

of_negated : (f : Bool) → Has (negated f)
of_negated f = called (left (made of_number))

of_other : (f : Bool) → Has (other f)
of_other f = called (left (made (both one (of_negated f))))

of_disj_more : (f : Bool) → Has (disj_more f)
of_disj_more f = called (right (made none))

of_conj_more : (f : Bool) → Has (conj_more f)
of_conj_more f = called (right (made none))

of_sum_more : (f : Bool) → Has (sum_more f)
of_sum_more f = called (right (made none))

of_prod_more : (f : Bool) → Has (prod_more f)
of_prod_more f = called (right (made none))

of_implies_more : (f : Bool) → Has (implies_more f)
of_implies_more f = called (made (right (made none)))

of_cmp_more : (f : Bool) → Has (cmp_more f)
of_cmp_more f = called (made (right (made none)))

of_con_more : (f : Bool) → Has (con_more f)
of_con_more f = called (made (right (made none)))

of_prod : (f : Bool) → Has (prod f)
of_prod f = called (made (both (of_un f) (of_prod_more f)))

of_sum : (f : Bool) → Has (sum f)
of_sum f = called (made (both (of_prod f) (of_sum_more f)))

of_con : (f : Bool) → Has (con f)
of_con f = called (made (both (of_sum f) (of_con_more f)))

of_cmp : (f : Bool) → Has (cmp f)
of_cmp f = called (made (both (of_con f) (of_cmp_more f)))

of_conj : (f : Bool) → Has (conj f)
of_conj f = called (made (both (of_cmp f) (of_conj_more f)))

of_disj : (f : Bool) → Has (disj f)
of_disj f = called (made (both (of_conj f) (of_disj_more f)))

of_term : (f : Bool) → Has (term f)
of_term f = called (made (both (of_disj f) (of_implies_more f)))

of_choice : (f : Bool) → Has (choice f)
of_choice f = called (made (both one (both (of_term f) (skip (both (of_term f) (skip (close (of_term f))))))))

of_let_in : Has let_in
of_let_in = called (made (both one (both of_binder (skip (both (of_term true) (skip (close (of_term true))))))))

of_inner : (f : Bool) → Has (inner f)
of_inner false = called (made (of_enclosed false))
of_inner true = called (right (made (of_enclosed true)))

of_inner_more : (f : Bool) → Has (inner_more f)
of_inner_more f = called (left (made one))

of_args : (f : Bool) → Has (args f)
of_args f = called (left (made one))

of_items : (f : Bool) → Has (items f)
of_items f = called (left (made one))

of_rest : Has rest
of_rest = called (made (both (of_prod_more false) (both (of_sum_more false) (both (of_con_more false) (both (of_cmp_more false) (both (of_conj_more false) (both (of_disj_more false) (of_implies_more false))))))))

of_after_name : Has after_name
of_after_name = called (right (made of_rest))

of_operation : Has operation
of_operation = called (made (both (of_other false) of_rest))

of_named_part : Has named_part
of_named_part = called (made (both of_name of_after_name))

of_part : Has part
of_part = called (right (right (right (left (made of_named_part)))))

of_body : Has body
of_body = called (right (right (right (right (right (made of_part))))))

of_block : Has block
of_block = called (made (skip (close of_body)))

of_binding : Has binding
of_binding = called (made (both of_binder (both of_annotation (skip (close of_part)))))

of_arm : Has arm
of_arm = called (made (skip (both of_pattern (skip of_body))))

of_arms_more : Has arms_more
of_arms_more = called (right (made none))

of_arms : Has arms
of_arms = called (made (both of_arm of_arms_more))

of_ghost_let : Has ghost_let
of_ghost_let = called (made (skip (skip (both of_binding of_body))))

of_plain_let : Has plain_let
of_plain_let = called (made (skip (both of_binding of_body)))

of_assertion : Has assertion
of_assertion = called (made (both one (both (of_term true) (skip of_body))))

of_branching : Has branching
of_branching = called (made (skip (both (of_term false) (skip (both of_body (skip of_body))))))

of_matching : Has matching
of_matching = called (made (both one (both (of_term false) (skip (close of_arms)))))

of_block_part : Has block_part
of_block_part = called (made (both one (close of_body)))

of_reify : Has reify
of_reify = called (made (both one (both of_name (both of_sort (both of_block (skip (close (of_term false))))))))

of_reflect : Has reflect
of_reflect = called (made (both one (both of_name (both of_sort (skip (both of_binder (skip of_block)))))))

of_dm_after_name : Has dm_after_name
of_dm_after_name = called (right (made of_rest))

of_second : Has second
of_second = called (made (right (made none)))

of_run_args : Has run_args
of_run_args = called (made (both (of_term false) (close of_second)))

of_dm_named_part : Has dm_named_part
of_dm_named_part = called (made (both of_name of_dm_after_name))

of_dmpart : Has dmpart
of_dmpart = called (right (left (made of_dm_named_part)))

of_dm : Has dm
of_dm = called (right (right (right (made of_dmpart))))

of_dm_block : Has dm_block
of_dm_block = called (made (skip (close of_dm)))

of_dm_binding : Has dm_binding
of_dm_binding = called (made (both of_binder (both of_annotation (skip (close of_dmpart)))))

of_dm_arm : Has dm_arm
of_dm_arm = called (made (skip (both of_pattern (skip of_dm))))

of_dm_arms_more : Has dm_arms_more
of_dm_arms_more = called (right (made none))

of_dm_arms : Has dm_arms
of_dm_arms = called (made (both of_dm_arm of_dm_arms_more))

of_dm_let : Has dm_let
of_dm_let = called (made (skip (both of_dm_binding of_dm)))

of_dm_branching : Has dm_branching
of_dm_branching = called (made (skip (both (of_term false) (skip (both of_dm (skip of_dm))))))

of_dm_matching : Has dm_matching
of_dm_matching = called (made (both one (both (of_term false) (skip (close of_dm_arms)))))

of_signature : Has signature
of_signature = called (made (skip (both of_name (skip (both of_base (skip (both of_sort (skip of_sort))))))))

of_returning : Has returning
of_returning = called (made (skip (both of_two_names of_dm_block)))

of_joining : Has joining
of_joining = called (made (skip (both of_three_names of_dm_block)))

of_effect : Has effect
of_effect = called (made (both of_signature (both of_returning of_joining)))

of_lift : Has lift
of_lift = called (made (both one (both of_name (skip (both of_name (skip (both of_two_names of_dm_block)))))))

of_fun : Has fun
of_fun = called (made (both of_head of_block))

of_decl : Has decl
of_decl = called (left (made of_effect))

of_program : Has program
of_program = called (right (made none))

pub sample : (n : N) → Has n
sample program = of_program
sample decl = of_decl
sample effect = of_effect
sample signature = of_signature
sample returning = of_returning
sample joining = of_joining
sample base = of_base
sample two_names = of_two_names
sample three_names = of_three_names
sample lift = of_lift
sample fun = of_fun
sample head = of_head
sample computation = of_computation
sample contract = of_contract
sample needs = of_needs
sample gives = of_gives
sample measures = of_measures
sample (measures_more n) = of_measures_more n
sample (terms_more s f) = of_terms_more s f
sample depth = of_depth
sample effname = of_effname
sample params = of_params
sample param = of_param
sample hidden = of_hidden
sample refinement = of_refinement
sample sort = of_sort
sample sort_more = of_sort_more
sample sat = of_sat
sample body = of_body
sample ghost_let = of_ghost_let
sample plain_let = of_plain_let
sample assertion = of_assertion
sample branching = of_branching
sample matching = of_matching
sample block = of_block
sample binding = of_binding
sample annotation = of_annotation
sample part = of_part
sample block_part = of_block_part
sample reify = of_reify
sample reflect = of_reflect
sample named_part = of_named_part
sample after_name = of_after_name
sample operation = of_operation
sample rest = of_rest
sample arms = of_arms
sample arms_more = of_arms_more
sample arm = of_arm
sample dm = of_dm
sample dm_let = of_dm_let
sample dm_branching = of_dm_branching
sample dm_matching = of_dm_matching
sample dm_block = of_dm_block
sample dm_binding = of_dm_binding
sample dmpart = of_dmpart
sample dm_named_part = of_dm_named_part
sample dm_after_name = of_dm_after_name
sample run_args = of_run_args
sample second = of_second
sample dm_arms = of_dm_arms
sample dm_arms_more = of_dm_arms_more
sample dm_arm = of_dm_arm
sample pattern = of_pattern
sample (term f) = of_term f
sample (implies_more f) = of_implies_more f
sample (disj f) = of_disj f
sample (disj_more f) = of_disj_more f
sample (conj f) = of_conj f
sample (conj_more f) = of_conj_more f
sample (cmp f) = of_cmp f
sample (cmp_more f) = of_cmp_more f
sample (con f) = of_con f
sample (con_more f) = of_con_more f
sample (sum f) = of_sum f
sample (sum_more f) = of_sum_more f
sample (prod f) = of_prod f
sample (prod_more f) = of_prod_more f
sample (un f) = of_un f
sample (other f) = of_other f
sample (negated f) = of_negated f
sample (app f) = of_app f
sample (solid f) = of_solid f
sample (prefix f) = of_prefix f
sample (named f) = of_named f
sample (application f) = of_application f
sample (plain f) = of_plain f
sample (atom f) = of_atom f
sample (inner f) = of_inner f
sample (enclosed f) = of_enclosed f
sample (choice f) = of_choice f
sample (inner_more f) = of_inner_more f
sample (args f) = of_args f
sample (items f) = of_items f
sample let_in = of_let_in
sample comparison = of_comparison
sample sum_operator = of_sum_operator
sample prod_operator = of_prod_operator
sample prefix_operator = of_prefix_operator
sample name = of_name
sample binder = of_binder
sample number = of_number
sample small = of_small

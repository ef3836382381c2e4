-- What one step of a scanner does to what is left.
use Rattle.std.proofs.Common.{◌≡◌, ◌↔◌, ℕ, ◌+◌, ◌-◌, ◌<◌, ◌≤◌, List, [], ◌++◌, Option, Some, None, Result, Ok, Err, IfSome, IfErr, length, take, drop, refl, sym, ap, subst, ◌∙◌, arith}
use Rattle.std.specs.Option.{option_to_list}
use Rattle.std.proofs.lemmas.List.{take_rest}
use Rattle.fst_text.specs.declared.token.Kind.{Kind}
use Rattle.fst_text.specs.declared.token.Token.{Token}
use Rattle.fst_text.specs.Blanks.{blanks_len}
use Rattle.fst_text.specs.Tokens.{lexeme, BeginsNone}
use Rattle.fst_text.specs.Scans.{Scan, start_at, token_from, token_at, tokens_left, fault_left, given, IsTokenOf}
use Rattle.fst_text.proofs.LexemeLemmas.{lexeme-none}
use Rattle.fst_text.proofs.ScanLemmas.{start_at-bounds, token_at-next, tokens_from-some, tokens_from-none, fault_from-some, fault_from-none, fault_from-at}

pub record Steps (old : Scan) (result : Result (Option Token) ℕ) (new : Scan) : Type 0 where
  pub tokens : tokens_left old ≡ option_to_list (given result) ++ tokens_left new
  pub fault : fault_left old ≡ fault_left new
  pub end : (result ≡ Ok None) ↔ ((tokens_left old ≡ []) × (fault_left old ≡ None))
  pub err : (at : ℕ) → (result ≡ Err at) ↔ ((tokens_left old ≡ []) × (fault_left old ≡ Some at))
  pub longest : IfSome (given result) (IsTokenOf old.text)
  pub none : IfErr result (λ at. BeginsNone (drop at old.text))

-- a token was found
after_token : (text : List ℕ) (at : ℕ) (t : Token) → at ≤ length text → token_at text at ≡ Some t
    → Steps (record { text = text; at = at }) (Ok (Some t)) (record { text = text; at = t.to })
after_token text at t le e =
    let some = tokens_from-some text at t le e in
    record {
      tokens = some;
      fault = fault_from-some text at t le e;
      end = (λ r. absurd (cc), λ r. absurd (let n = sym some ∙ r.0 in cc));
      err = λ n. (λ r. absurd (cc), λ r. absurd (let n = sym some ∙ r.0 in cc));
      longest = (token_at-next text at t le e).token;
      none = tt;
    }

-- nothing is left
at_end : (text : List ℕ) (at : ℕ) → token_at text at ≡ None → length text ≤ start_at text at
    → Steps (record { text = text; at = at }) (Ok None) (record { text = text; at = at })
at_end text at e le =
    let none = tokens_from-none text at e in
    let no_fault = fault_from-none text at e le in
    record {
      tokens = refl;
      fault = refl;
      end = (λ r. (none, no_fault), λ r. refl);
      err = λ n. (λ r. absurd (cc), λ r. absurd (let n = sym no_fault ∙ r.1 in cc));
      longest = tt;
      none = tt;
    }

-- a byte begins no token
at_fault : (text : List ℕ) (at : ℕ) → lexeme (drop (start_at text at) text) ≡ None → start_at text at < length text
    → Steps (record { text = text; at = at }) (Err (start_at text at)) (record { text = text; at = at })
at_fault text at none lt =
    let e : token_at text at ≡ None = ap (token_from (start_at text at)) none in
    let no_token = tokens_from-none text at e in
    let fault = fault_from-at text at e lt in
    record {
      tokens = refl;
      fault = refl;
      end = (λ r. absurd (cc), λ r. absurd (let n = sym fault ∙ r.1 in cc));
      err = λ n. (λ r. (no_token, cc), λ r. let s = sym fault ∙ r.1 in cc);
      longest = tt;
      none = lexeme-none (drop (start_at text at) text) none;
    }

-- the same as the code comes to it: from the offset, the blanks behind it, and the longest token behind those
module _ (old : Scan) (text : List ℕ) (at blanks : ℕ) (found : Option (Kind × ℕ))
    (is_old : record { text = text; at = at } ≡ old) (le : at ≤ length text)
    (blanks_is : blanks ≡ blanks_len (take (length text - at) (drop at text)))
    (found_is : found ≡ lexeme (take (length text - (at + blanks)) (drop (at + blanks) text))) where
  start_is : at + blanks ≡ start_at text at
  start_is = ap (λ n. at + n) (rw take_rest at blanks_is)

  lexeme_is : found ≡ lexeme (drop (start_at text at) text)
  lexeme_is = (rw take_rest at found_is) ∙ ap (λ n. lexeme (drop n text)) start_is

  pub steps-token : (kind : Kind) (size : ℕ) → found ≡ Some (kind, size)
      → Steps old (Ok (Some (record { kind = kind; from = at + blanks; to = at + blanks + size }))) (record { text = text; at = at + blanks + size })
  steps-token kind size e =
      let token : token_at text at ≡ Some (record { kind = kind; from = at + blanks; to = at + blanks + size })
      = ap (token_from (start_at text at)) (sym lexeme_is ∙ e) ∙ ap (λ n. Some (record { kind = kind; from = n; to = n + size })) (sym start_is) in
      let result : Result (Option Token) ℕ = Ok (Some (record { kind = kind; from = at + blanks; to = at + blanks + size })) in
      subst (λ o. Steps o result (record { text = text; at = at + blanks + size })) is_old (after_token text at _ le token)

  pub steps-end : found ≡ None → at + blanks ≡ length text → Steps old (Ok None) old
  steps-end e end =
      let none : token_at text at ≡ None = ap (token_from (start_at text at)) (sym lexeme_is ∙ e) in
      subst (λ o. Steps o (Ok None) o) is_old (at_end text at none (omega (arith, start_is)))

  pub steps-fault : found ≡ None → ¬ (at + blanks ≡ length text) → Steps old (Err (at + blanks)) old
  steps-fault e more =
      let bounds = start_at-bounds text at le in
      let lt : start_at text at < length text = omega (arith, start_is) in
      subst (λ n. Steps old (Err n) old) (sym start_is)
      (subst (λ o. Steps o (Err (start_at text at)) o) is_old (at_fault text at (sym lexeme_is ∙ e) lt))

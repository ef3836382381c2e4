-- The tokens of a text, one after another.
use Rattle.std.proofs.Common.{◌≡◌, ℕ, zero, suc, ◌+◌, ◌-◌, ◌<◌, ◌≤◌, true, false, nat_lt, List, [], ◌∷◌, Option, Some, None, length, drop, refl, sym, ap, subst, ◌∙◌, arith, inl, inr, ◌⊎◌, cond, length-drop}
use Rattle.std.proofs.lemmas.List.{drop_all}
use Rattle.std.proofs.lemmas.Bool.{cond-true, cond-false}
use Rattle.std.proofs.lemmas.Bool.Decides.{nat_tests}
use Rattle.fst_text.specs.declared.token.Kind.{Kind}
use Rattle.fst_text.specs.declared.token.Token.{Token}
use Rattle.fst_text.specs.Blanks.{blanks_len}
use Rattle.fst_text.specs.Tokens.{lexeme, IsLongest}
use Rattle.fst_text.specs.Scans.{start_at, token_from, token_at, followed, tokens_within, tokens_from, end_of, fault_from, IsTokenOf, InOrder}
use Rattle.fst_text.proofs.ManyLemmas.{many-within}
use Rattle.fst_text.proofs.BlankLemmas.{blank_len-within}
use Rattle.fst_text.proofs.LexemeLemmas.{lexeme-longest}

pub option_cases : {A : Type 0} (o : Option A) → (o ≡ None) ⊎ ((x : A) × (o ≡ Some x))
option_cases None = inl refl
option_cases (Some x) = inr (x, refl)

pub start_at-bounds : (text : List ℕ) (at : ℕ) → at ≤ length text → (at ≤ start_at text at) × (start_at text at ≤ length text)
start_at-bounds text at le =
    let blanks = many-within _ blank_len-within (drop at text) in
    (omega arith, omega (arith, blanks, length-drop at text))

token_from-some : (at : ℕ) (found : Option (Kind × ℕ)) (t : Token) → token_from at found ≡ Some t
    → (p : Kind × ℕ) × ((found ≡ Some p) × (t ≡ record { kind = p.0; from = at; to = at + p.1 }))
token_from-some at None t e = absurd (cc)
token_from-some at (Some (kind, size)) t e = ((kind, size), (refl, cc))

longest_at : (text : List ℕ) (kind : Kind) (from size : ℕ) → from ≤ length text → 0 < size → IsLongest kind size (drop from text)
    → IsTokenOf text (record { kind = kind; from = from; to = from + size })
longest_at text kind from size le some longest =
    let same : from + size - from ≡ size = omega arith in
    record {
      some = omega arith;
      within = omega (arith, longest.within, length-drop from text);
      longest = subst (λ n. IsLongest kind n (drop from text)) (sym same) longest;
    }

-- a token that comes next
pub record ComesNext (text : List ℕ) (at : ℕ) (t : Token) : Type 0 where
  pub after : at ≤ t.from
  pub begins : t.from ≡ start_at text at
  pub token : IsTokenOf text t

pub token_at-next : (text : List ℕ) (at : ℕ) (t : Token) → at ≤ length text → token_at text at ≡ Some t → ComesNext text at t
token_at-next text at t le e =
    let start = start_at-bounds text at le in
    let found = token_from-some (start_at text at) (lexeme (drop (start_at text at) text)) t e in
    let longest = lexeme-longest (drop (start_at text at) text) found.0 found.1.0 in
    subst (ComesNext text at) (sym found.1.1) (record {
      after = start.0;
      begins = refl;
      token = longest_at text found.0.0 (start_at text at) found.0.1 start.1 longest.0 longest.1;
    })

-- nothing comes at the end
nothing_at_end : (text : List ℕ) (at : ℕ) → length text ≤ at → token_at text at ≡ None
nothing_at_end text at le =
    let rest = drop_all at text le in
    let start : start_at text at ≡ at = omega (arith, ap blanks_len rest, many-within _ blank_len-within []) in
    ap (λ n. token_from (start_at text at) (lexeme (drop n text))) start
    ∙ ap (λ r. token_from (start_at text at) (lexeme r)) rest
    ∙ refl

followed-none : (found : Option Token) (more : ℕ → List Token) → found ≡ None → followed found more ≡ []
followed-none found more e = ap (λ o. followed o more) e

followed-some : (found : Option Token) (more : ℕ → List Token) (t : Token) → found ≡ Some t → followed found more ≡ t ∷ more t.to
followed-some found more t e = ap (λ o. followed o more) e

within-none : (k : ℕ) (text : List ℕ) (at : ℕ) → token_at text at ≡ None → tokens_within k text at ≡ []
within-none zero text at e = refl
within-none (suc k) text at e = followed-none _ (tokens_within k text) e

-- the bound is of no account
same_within : (j k : ℕ) (text : List ℕ) (at : ℕ) → at ≤ length text → length text - at ≤ j → length text - at ≤ k
    → tokens_within j text at ≡ tokens_within k text at
same_within zero k text at le a b = sym (within-none k text at (nothing_at_end text at (omega arith)))
same_within j zero text at le a b = within-none j text at (nothing_at_end text at (omega arith))
same_within (suc j) (suc k) text at le a b = elim (option_cases (token_at text at)) [
  | inl e ↦ within-none (suc j) text at e ∙ sym (within-none (suc k) text at e)
  | inr (t, e) ↦
      let next = token_at-next text at t le e in
      let more = same_within j k text t.to next.token.within (omega (arith, next.after, next.token.some)) (omega (arith, next.after, next.token.some)) in
      followed-some _ (tokens_within j text) t e ∙ ap (λ ts. t ∷ ts) more ∙ sym (followed-some _ (tokens_within k text) t e)
]

pub tokens_from-some : (text : List ℕ) (at : ℕ) (t : Token) → at ≤ length text → token_at text at ≡ Some t
    → tokens_from text at ≡ t ∷ tokens_from text t.to
unfolding tokens_from
tokens_from-some text at t le e =
    let next = token_at-next text at t le e in
    same_within (length text - at) (suc (length text)) text at le (omega arith) (omega arith)
    ∙ followed-some _ (tokens_within (length text) text) t e
    ∙ ap (λ ts. t ∷ ts) (same_within (length text) (length text - t.to) text t.to next.token.within (omega arith) (omega arith))

pub tokens_from-none : (text : List ℕ) (at : ℕ) → token_at text at ≡ None → tokens_from text at ≡ []
unfolding tokens_from
tokens_from-none text at e = within-none (length text - at) text at e

pub fault_from-some : (text : List ℕ) (at : ℕ) (t : Token) → at ≤ length text → token_at text at ≡ Some t
    → fault_from text at ≡ fault_from text t.to
unfolding fault_from
fault_from-some text at t le e =
    ap (λ ts. let end = start_at text (end_of at ts) in cond (nat_lt end (length text)) (Some end) None) (tokens_from-some text at t le e)

fault_behind : (text : List ℕ) (at : ℕ) → token_at text at ≡ None
    → fault_from text at ≡ cond (nat_lt (start_at text at) (length text)) (Some (start_at text at)) None
unfolding fault_from
fault_behind text at e =
    ap (λ ts. let end = start_at text (end_of at ts) in cond (nat_lt end (length text)) (Some end) None) (tokens_from-none text at e)

pub fault_from-none : (text : List ℕ) (at : ℕ) → token_at text at ≡ None → length text ≤ start_at text at → fault_from text at ≡ None
fault_from-none text at e le =
    let f : nat_lt (start_at text at) (length text) ≡ false = grind (arith, nat_tests) in
    fault_behind text at e ∙ cond-false _ _ _ f

pub fault_from-at : (text : List ℕ) (at : ℕ) → token_at text at ≡ None → start_at text at < length text
    → fault_from text at ≡ Some (start_at text at)
fault_from-at text at e lt =
    let t : nat_lt (start_at text at) (length text) ≡ true = grind (arith, nat_tests) in
    fault_behind text at e ∙ cond-true _ _ _ t

in_order : (k : ℕ) (text : List ℕ) (at : ℕ) → at ≤ length text → InOrder at (length text) (tokens_within k text at)
in_order zero text at le = le
in_order (suc k) text at le = elim (option_cases (token_at text at)) [
  | inl e ↦ subst (InOrder at (length text)) (sym (within-none (suc k) text at e)) le
  | inr (t, e) ↦
      let next = token_at-next text at t le e in
      subst (InOrder at (length text)) (sym (followed-some _ (tokens_within k text) t e))
      (next.after, next.token.some, in_order k text t.to next.token.within)
]

-- the spans of a text's tokens stand in order
pub tokens_from-in_order : (text : List ℕ) (at : ℕ) → at ≤ length text → InOrder at (length text) (tokens_from text at)
unfolding tokens_from
tokens_from-in_order text at le = in_order (length text - at) text at le

-- Lists of a nonterminal's trees, as the loops that read them see them.
use Rattle.std.proofs.Common.{◌≡◌, Bool, true, false, List, [], ◌∷◌, ◌++◌, append-nil, append_assoc, refl, sym, ◌∙◌, ap, Ok, Err}
use Rattle.fst_grammar.specs.Alphabet.{has, next}
use Rattle.fst_grammar.specs.Reading.{Outcome, ◌>>=◌}
use Rattle.fst_syntax.specs.declared.stop.Stop.{Stop}
use Rattle.fst_syntax.specs.declared.stop.Stop.TheVariants.{Syntax, NoMemory}
use Rattle.fst_syntax.specs.Tokens.{Token, alphabet}
use Rattle.fst_syntax.specs.Productions as n
use Rattle.fst_syntax.specs.Tables.{firsts}
use Rattle.fst_syntax.specs.Reading.{Reads, reads, behind, listing}
use Rattle.fst_syntax.proofs.Opens.{opens}

pub all_read : {A : Type 0} (o : Outcome Token (List A)) → behind [] o ≡ o
all_read (Ok p) = refl
all_read (Err ks) = refl

one_read : {A : Type 0} (a : A) (o : Outcome Token (List A))
    → ◌≡◌ {A = Outcome Token (List A)} (◌>>=◌ {A = A × List A} {B = List A} (o >>= (λ more ks. Ok ((a, more), ks))) (λ p ks. Ok (p.0 ∷ p.1, ks))) (behind (a ∷ []) o)
one_read a (Ok p) = refl
one_read a (Err ks) = refl

pub first_read : {A : Type 0} (o : Outcome Token A) (list : List Token → Outcome Token (List A))
    → ◌≡◌ {A = Outcome Token (List A)} (◌>>=◌ {A = A × List A} {B = List A} (o >>= (λ a us. list us >>= (λ more ks. Ok ((a, more), ks)))) (λ p ks. Ok (p.0 ∷ p.1, ks))) (o >>= (λ a us. behind (a ∷ []) (list us)))
first_read (Err ks) list = refl
first_read (Ok p) list = one_read p.0 (list p.1)

more_read : {A : Type 0} (xs : List A) (a : A) (o : Outcome Token (List A))
    → ◌≡◌ {A = Outcome Token (List A)} (behind xs (◌>>=◌ {A = A × List A} {B = List A} (o >>= (λ more ks. Ok ((a, more), ks))) (λ p ks. Ok (p.0 ∷ p.1, ks)))) (behind (xs ++ (a ∷ [])) o)
more_read xs a (Err ks) = refl
more_read xs a (Ok p) = ap (λ ys. Ok (ys, p.1)) (sym (append_assoc xs (a ∷ []) p.0))

-- the facts that a loop over a list keeps to
pub record Listed {A : Type 0} (test : Bool) (item : Outcome Token A) (list : List Token → Outcome Token (List A)) (ts : List Token) : Type 0 where
  pub stop : (xs : List A) → test ≡ false → behind xs (list ts) ≡ Ok (xs, ts)
  pub step : (xs : List A) (a : A) (us : List Token) → test ≡ true → item ≡ Ok (a, us) → behind xs (list ts) ≡ behind (xs ++ (a ∷ [])) (list us)
  pub no_item : (xs : List A) (e : Stop) (us : List Token) → test ≡ true → Reads item (Err e) us → Reads (behind xs (list ts)) (Err e) us

module _ {A : Type 0} (test : Bool) (item : Outcome Token A) (list : List Token → Outcome Token (List A)) (ts : List Token) (opened : list ts ≡ listing test item list ts) where
  stop : (xs : List A) → test ≡ false → behind xs (list ts) ≡ Ok (xs, ts)
  stop xs e = ap (behind xs) opened ∙ rw (e, append-nil xs) refl

  step : (xs : List A) (a : A) (us : List Token) → test ≡ true → item ≡ Ok (a, us) → behind xs (list ts) ≡ behind (xs ++ (a ∷ [])) (list us)
  step xs a us e h = ap (behind xs) opened ∙ rw (e, h) (more_read xs a (list us))

  no_item : (xs : List A) (e : Stop) (us : List Token) → test ≡ true → Reads item (Err e) us → Reads (behind xs (list ts)) (Err e) us
  no_item xs Syntax us e h = ap (behind xs) opened ∙ rw (e, h) refl
  no_item xs NoMemory us e h = tt

  pub listed : Listed test item list ts
  listed = record { stop = stop; step = step; no_item = no_item }

abbrev pub comes : n.N → List Token → Bool
comes m ts = has alphabet (firsts m) (next alphabet ts)

pub params_listed : (ts : List Token) → Listed (comes n.param ts) (reads n.param ts) (reads n.params) ts
params_listed ts = listed (comes n.param ts) (reads n.param ts) (reads n.params) ts (opens n.params ts)

pub arms_listed : (ts : List Token) → Listed (comes n.arm ts) (reads n.arm ts) (reads n.arms_more) ts
arms_listed ts = listed (comes n.arm ts) (reads n.arm ts) (reads n.arms_more) ts (opens n.arms_more ts)

pub dm_arms_listed : (ts : List Token) → Listed (comes n.dm_arm ts) (reads n.dm_arm ts) (reads n.dm_arms_more) ts
dm_arms_listed ts = listed (comes n.dm_arm ts) (reads n.dm_arm ts) (reads n.dm_arms_more) ts (opens n.dm_arms_more ts)

pub program_listed : (ts : List Token) → Listed (comes n.decl ts) (reads n.decl ts) (reads n.program) ts
program_listed ts = listed (comes n.decl ts) (reads n.decl ts) (reads n.program) ts (opens n.program ts)

pub arms_opens : (ts : List Token) → reads n.arms ts ≡ (reads n.arm ts >>= λ a us. behind (a ∷ []) (reads n.arms_more us))
arms_opens ts = opens n.arms ts ∙ first_read (reads n.arm ts) (reads n.arms_more)

pub dm_arms_opens : (ts : List Token) → reads n.dm_arms ts ≡ (reads n.dm_arm ts >>= λ a us. behind (a ∷ []) (reads n.dm_arms_more us))
dm_arms_opens ts = opens n.dm_arms ts ∙ first_read (reads n.dm_arm ts) (reads n.dm_arms_more)

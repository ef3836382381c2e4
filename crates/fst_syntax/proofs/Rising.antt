-- The places of the tokens rise, and a limit's place is no later than the token that passes it.
use Rattle.std.proofs.Common.{◌≡◌, ◌<◌, ◌≤◌, ◌+◌, ℕ, nat_lt, Bool, true, false, if◌then◌else◌, List, [], ◌∷◌, ◌++◌, length, map, Option, Some, None, refl, ap, arith}
use Rattle.std.proofs.lemmas.Bool.Decides.{nat_tests}
use Rattle.fst_text.specs.declared.token.Token as text
use Rattle.fst_text.specs.Scans.{tokens, fault, fault_from, end_of, InOrder}
use Rattle.fst_syntax.specs.Tokens.{Token}
use Rattle.fst_syntax.specs.Lexemes.{lexed, bad, lexemes}
use Rattle.fst_syntax.specs.Program.{Rising, place}
use Rattle.fst_syntax.specs.Limits.{see, passed, passed_behind, limit_at, limit_from, first_limit}
use Rattle.fst_syntax.specs.declared.limit.Seen.{Seen}
use Rattle.fst_syntax.specs.declared.limit.Limit.{Limit}
use Rattle.fst_base.specs.declared.place.Pos.{Pos}
use Rattle.fst_base.specs.declared.rule.Rule.{Rule}

pub lower : (a b : ℕ) (ts : List Token) (end : ℕ) → a ≤ b → Rising b ts end → Rising a ts end
lower a b [] end l r = omega (arith, l, r)
lower a b (t ∷ ts) end l r = let h = r.0 in (omega (arith, l, h), r.1)

Behind : ℕ → Option ℕ → ℕ → Type 0
Behind e None len = Unit {0}
Behind e (Some f) len = (e ≤ f) × (f < len)

rising_all : (bytes : List ℕ) (at : ℕ) (ts : List text.Token) (o : Option ℕ) → InOrder at (length bytes) ts → Behind (end_of at ts) o (length bytes)
    → Rising at (map (lexed bytes) ts ++ bad o) (length bytes)
unfolding Behind
rising_all bytes at [] None i b = i
rising_all bytes at [] (Some f) i b = let l = b.1 in (b.0, omega (arith, l))
rising_all bytes at (t ∷ ts) o i b = let l = i.1 in (i.0, lower (t.from + 1) t.to _ (length bytes) (omega (arith, l)) (rising_all bytes t.to ts o i.2 b))

behind_at : (e : ℕ) (blanks len : ℕ) (b : Bool) → nat_lt (e + blanks) len ≡ b → Behind e (if b then Some (e + blanks) else None) len
unfolding Behind
behind_at e blanks len true h = (omega arith, grind (arith, nat_tests))
behind_at e blanks len false h = tt

fault_behind : (bytes : List ℕ) → Behind (end_of 0 (tokens bytes)) (fault bytes) (length bytes)
unfolding fault_from
fault_behind bytes = behind_at (end_of 0 (tokens bytes)) _ (length bytes) _ refl

pub lexemes_rising : (bytes : List ℕ) → InOrder 0 (length bytes) (tokens bytes) → Rising 0 (lexemes bytes) (length bytes)
lexemes_rising bytes i = rising_all bytes 0 (tokens bytes) (fault bytes) i (fault_behind bytes)

-- what follows a token stands behind it
pub later : (from : ℕ) (front : List Token) (t : Token) (back : List Token) (end : ℕ) → Rising from (front ++ (t ∷ back)) end → Rising (t.at + 1) back end
later from [] t back end r = r.1
later from (u ∷ front) t back end r = later (u.at + 1) front t back end r.1

pub place_later : (from : ℕ) (more ks : List Token) (end : ℕ) → Rising from (more ++ ks) end → from ≤ place end ks
place_later from [] [] end r = r
place_later from [] (t ∷ ks) end r = r.0
place_later from (u ∷ more) ks end r = let l = r.0 in let h = place_later (u.at + 1) more ks end r.1 in omega (arith, l, h)

-- where a limit stands
pub record Stands (i : ℕ) (ts : List Token) (l : Limit) : Type 0 where
  pub front : List Token
  pub token : Token
  pub back : List Token
  pub split : ts ≡ front ++ (token ∷ back)
  pub index : length front + i ≡ l.index
  pub there : l.at.at ≤ token.at

MinusBy : Option Pos → ℕ → Type 0
MinusBy None from = Unit {0}
MinusBy (Some m) from = m.at ≤ from

abbrev at_of : Option (Rule × Pos) → ℕ
at_of None = 0
at_of (Some p) = p.1.at

passed_by : (m : Option Pos) (wide deep : Bool) (at : Pos) (from : ℕ) → MinusBy m from → from ≤ at.at → at_of (passed_behind m wide deep at) ≤ at.at
unfolding MinusBy
passed_by None wide true at from b l = omega arith
passed_by None true false at from b l = omega arith
passed_by None false false at from b l = omega arith
passed_by (Some m) true deep at from b l = omega (arith, b, l)
passed_by (Some m) false true at from b l = omega arith
passed_by (Some m) false false at from b l = omega arith

minus_seen : (b : Bool) (at : Pos) → MinusBy (if b then Some at else None) (at.at + 1)
unfolding MinusBy
minus_seen true at = omega arith
minus_seen false at = tt

abbrev index_of : Option Limit → ℕ
index_of None = 0
index_of (Some l) = l.index

abbrev place_of : Option Limit → ℕ
place_of None = 0
place_of (Some l) = l.at.at

stands_at : (i : ℕ) (t : Token) (ts : List Token) (o : Option (Rule × Pos)) (later : Option Limit) (l : Limit) → at_of o ≤ t.at → (later ≡ Some l → Stands (i + 1) ts l) → limit_at i o later ≡ Some l → Stands i (t ∷ ts) l
stands_at i t ts None later l b f e = let s = f e in let k = s.index in
    record { front = t ∷ s.front; token = s.token; back = s.back; split = ap (λ us. t ∷ us) s.split; index = omega (arith, k); there = s.there }
stands_at i t ts (Some p) later l b f e = let k : i ≡ l.index = ap index_of e in let h : p.1.at ≡ l.at.at = ap place_of e in
    record { front = []; token = t; back = ts; split = refl; index = omega (arith, k); there = omega (arith, h, b) }

stands : (s : Seen) (i from : ℕ) (ts : List Token) (end : ℕ) (l : Limit) → MinusBy s.minus from → Rising from ts end → limit_from s i ts ≡ Some l → Stands i ts l
stands s i from [] end l m r e = cc
stands s i from (t ∷ ts) end l m r e =
    stands_at i t ts (passed s t) (limit_from (see s t.terminal (record { at = t.at })) (i + 1) ts) l (passed_by s.minus _ _ (record { at = t.at }) from m r.0)
    (λ h. stands (see s t.terminal (record { at = t.at })) (i + 1) (t.at + 1) ts end l (minus_seen _ (record { at = t.at })) r.1 h) e

pub limit_stands : (ts : List Token) (end : ℕ) (l : Limit) → Rising 0 ts end → first_limit ts ≡ Some l → Stands 0 ts l
unfolding MinusBy
limit_stands ts end l r e = stands _ 0 0 ts end l tt r e

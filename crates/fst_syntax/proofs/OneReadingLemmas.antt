-- At most one answer to a text.
use Rattle.std.proofs.Common.{◌≡◌, ◌⊎◌, inl, inr, ◌<◌, ◌≤◌, ◌^◌, ℕ, List, [], ◌∷◌, length, Option, Some, None, refl, sym, ◌∙◌, ap, subst, arith}
use Rattle.fst_base.specs.declared.place.Pos.{Pos}
use Rattle.fst_base.specs.declared.rule.Rule.{Rule}
use Rattle.fst_base.specs.declared.rule.Rule.TheVariants as rule
use Rattle.fst_grammar.specs.Alphabet.{Like}
use Rattle.fst_grammar.proofs.Claims as G
use Rattle.fst_grammar.proofs.Cuts as X
use Rattle.fst_trees.specs.declared.word.Word.{Word}
use Rattle.fst_trees.specs.declared.decl.Decl.{Decl}
use Rattle.fst_syntax.specs.declared.limit.Limit.{Limit}
use Rattle.fst_syntax.specs.Tokens.{Token, alphabet}
use Rattle.fst_syntax.specs.Lexemes.{lexemes}
use Rattle.fst_syntax.specs.Limits.{first_limit}
use Rattle.fst_syntax.specs.Productions as n
use Rattle.fst_syntax.specs.Tables.{firsts, nullable, follow, rank, top}
use Rattle.fst_syntax.specs.Program.{Spells, FaultAt, place, IsProgram, IsFault, IsLimit, IsRefused}
use Rattle.fst_syntax.specs.OneReading.{OneReading}
use Rattle.fst_syntax.proofs.Terminals.{kinds}
use Rattle.fst_syntax.proofs.Tables.{settled}
use Rattle.fst_syntax.proofs.Samples.{sample}

one-tree : (a b : List (Decl Word)) (ts : List Token) → Spells a ts → Spells b ts → a ≡ b
one-tree a b ts d e = G.one_tree alphabet kinds n.N n.T n.rule firsts nullable follow rank top settled sample n.program a b ts refl d e

like-itself : (ts : List Token) → Like ts ts
like-itself [] = tt
like-itself (t ∷ ts) = refl

-- tokens with a tree have no fault
no-fault : (a : List (Decl Word)) (ts ks : List Token) → Spells a ts → FaultAt ts ks → ⊥
no-fault a ts ks d f = f.stops ks (like-itself ks) a (subst (Spells a) f.split d)

one-fault : (ts ks ls : List Token) → FaultAt ts ks → FaultAt ts ls → ks ≡ ls
one-fault ts ks ls f g = X.one_fault alphabet n.N n.T n.rule n.program ts ks ls f g

same-limit : (l m : Limit) (o : Option Limit) → o ≡ Some l → o ≡ Some m → l ≡ m
same-limit l m o e f = let g : Some l ≡ Some m = sym e ∙ f in cc (g)

module _ (bytes : List ℕ) where
  program-no-fault : (a : List (Decl Word)) (at : ℕ) → IsProgram bytes a → IsFault bytes at → ⊥
  program-no-fault a at h f = no-fault a (lexemes bytes) f.left h.spelled f.fault

  program-no-limit : (a : List (Decl Word)) (r : Rule) (at : ℕ) → IsProgram bytes a → IsLimit bytes r at → ⊥
  program-no-limit a r at h l = let e : None ≡ Some l.limit = sym h.within ∙ l.passed in cc (e)

  not-long : length bytes ≤ 2 ^ 20 → 2 ^ 20 < length bytes → ⊥
  not-long h k = omega (arith, h, k)

  not-both : (a : List (Decl Word)) (r : Rule) (p : Pos) → IsProgram bytes a → IsRefused bytes r p → ⊥
  not-both a rule.Syntax p h k = program-no-fault a p.at h k
  not-both a rule.TooLong p h k = not-long h.short k.0
  not-both a rule.TooDeep p h k = program-no-limit a rule.TooDeep p.at h k
  not-both a rule.NumberTooWide p h k = program-no-limit a rule.NumberTooWide p.at h k
  not-both a r p h k = absurd k

  one-fault-place : (i j : ℕ) → IsFault bytes i → IsFault bytes j → i ≡ j
  one-fault-place i j f g = f.there ∙ ap (place (length bytes)) (one-fault (lexemes bytes) f.left g.left f.fault g.fault) ∙ sym g.there

  fault-no-limit : (i j : ℕ) (r : Rule) → IsFault bytes i → IsLimit bytes r j → ⊥
  fault-no-limit i j r f l =
      let before = f.first l.limit l.passed in
      let behind = l.first f.left f.fault in
      let there = f.there in
      let at = l.there in
      omega (arith, before, behind, there, at)

  one-limit : (i j : ℕ) (r q : Rule) → IsLimit bytes r i → IsLimit bytes q j → (r ≡ q) × (i ≡ j)
  one-limit i j r q l m =
      let same = same-limit l.limit m.limit (first_limit (lexemes bytes)) l.passed m.passed in
      (l.rule_is ∙ ap (λ (x : Limit). x.rule) same ∙ sym m.rule_is, l.there ∙ ap (λ (x : Limit). x.at.at) same ∙ sym m.there)

  abbrev pos_at : ℕ → Pos
  pos_at i = record { at = i }

  same-place : (p o : Pos) → p.at ≡ o.at → p ≡ o
  same-place p o e = ap pos_at e

  -- the three ways of being refused
  abbrev Cause : Rule → Pos → Type 0
  Cause r p = ((r ≡ rule.Syntax) × IsFault bytes p.at) ⊎ (((r ≡ rule.TooLong) × ((2 ^ 20 < length bytes) × (p.at ≡ 0))) ⊎ IsLimit bytes r p.at)

  cause : (r : Rule) (p : Pos) → IsRefused bytes r p → Cause r p
  cause rule.Syntax p h = inl (refl, h)
  cause rule.TooLong p h = inr (inl (refl, h))
  cause rule.TooDeep p h = inr (inr h)
  cause rule.NumberTooWide p h = inr (inr h)
  cause r p h = absurd h

  one-cause : (r q : Rule) (p o : Pos) → Cause r p → Cause q o → (r ≡ q) × (p ≡ o)
  one-cause r q p o (inl h) (inl k) = (h.0 ∙ sym k.0, same-place p o (one-fault-place p.at o.at h.1 k.1))
  one-cause r q p o (inl h) (inr (inl k)) = absurd (not-long h.1.short k.1.0)
  one-cause r q p o (inl h) (inr (inr k)) = absurd (fault-no-limit p.at o.at q h.1 k)
  one-cause r q p o (inr (inl h)) (inl k) = absurd (not-long k.1.short h.1.0)
  one-cause r q p o (inr (inl h)) (inr (inl k)) = (h.0 ∙ sym k.0, same-place p o (h.1.1 ∙ sym k.1.1))
  one-cause r q p o (inr (inl h)) (inr (inr k)) = absurd (not-long k.short h.1.0)
  one-cause r q p o (inr (inr h)) (inl k) = absurd (fault-no-limit o.at p.at r k.1 h)
  one-cause r q p o (inr (inr h)) (inr (inl k)) = absurd (not-long h.short k.1.0)
  one-cause r q p o (inr (inr h)) (inr (inr k)) = let e = one-limit p.at o.at r q h k in (e.0, same-place p o e.1)

pub one-reading : (bytes : List ℕ) → OneReading bytes
one-reading bytes = record { one_program = λ a b h k. one-tree a b (lexemes bytes) h.spelled k.spelled; not_both = not-both bytes; one_refusal = λ r q p o h k. one-cause bytes r q p o (cause bytes r p h) (cause bytes q o k) }

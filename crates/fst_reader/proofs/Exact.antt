-- Reading a whole program: exact, and a fault at its place.
use Rattle.std.proofs.Common.{◌≡◌, ◌⊎◌, inl, List, [], ◌∷◌, Option, Some, None, refl, sym, ◌∙◌, ap, subst, Result, Ok, Err}
use Rattle.fst_base.specs.declared.place.Pos.{Pos}
use Rattle.fst_grammar.specs.Claims as C
use Rattle.fst_grammar.proofs.Claims as G
use Rattle.fst_grammar.proofs.Sound.{rest}
use Rattle.fst_grammar.specs.Reading.{Outcome}
use Rattle.fst_trees.specs.declared.word.Word.{Word}
use Rattle.fst_trees.specs.declared.decl.Decl.{Decl}
use Rattle.fst_syntax.specs.Tokens.{Token, alphabet}
use Rattle.fst_syntax.specs.Program.{Spells, FaultAt, first_place}
use Rattle.fst_reader.specs.declared.whole.Refusal.{Refusal}
use Rattle.fst_reader.specs.declared.whole.Refusal.TheVariants as r
use Rattle.fst_syntax.specs.Productions as n
use Rattle.fst_syntax.specs.Tables.{firsts, nullable, follow, rank, top}
use Rattle.fst_syntax.specs.Reading.{reads}
use Rattle.fst_syntax.proofs.Terminals.{kinds}
use Rattle.fst_syntax.proofs.Tables.{settled}
use Rattle.fst_syntax.proofs.Samples.{sample}

abbrev Decls : Type 0
Decls = List (Decl Word)

nothing_left : (ks : List Token) → None ≡ first_place ks → ks ≡ []
nothing_left [] e = refl
nothing_left (t ∷ ks) e = cc (e)

abbrev tree_of : Decls → Outcome Token Decls → Decls
tree_of a (Ok p) = p.0
tree_of a (Err _) = a

sound : (a : Decls) (ts ks : List Token) → reads n.program ts ≡ Ok (a, ks) → ks ≡ [] → Spells a ts
unfolding reads
sound a ts ks e w = subst (λ us. C.Spells alphabet n.N n.T n.rule n.program a ts us) w (G.sound alphabet kinds n.N n.T n.rule firsts nullable follow rank top settled sample n.program a ts ks e)

complete : (a : Decls) (ts : List Token) → Spells a ts → reads n.program ts ≡ Ok (a, [])
unfolding reads
complete a ts d = G.complete alphabet kinds n.N n.T n.rule firsts nullable follow rank top settled sample n.program a ts [] d refl

fault : (ts ks : List Token) → reads n.program ts ≡ Err ks → FaultAt ts ks
unfolding reads
fault ts ks e = G.fault alphabet kinds n.N n.T n.rule firsts nullable follow rank top settled sample n.program ts ks refl e

left_over : (a : Decls) (ts : List Token) (t : Token) (ks : List Token) → reads n.program ts ≡ Ok (a, t ∷ ks) → FaultAt ts (t ∷ ks)
unfolding reads
left_over a ts t ks e = G.left_over alphabet kinds n.N n.T n.rule firsts nullable follow rank top settled sample n.program a ts t ks refl e

-- The reader that begins with the tokens us gives a tree, and leaves ks.
module _ (ts us : List Token) (same : us ≡ ts) where
  module _ (a : Decls) (ks : List Token) (read : reads n.program us ≡ Ok (a, ks)) where
    here : reads n.program ts ≡ Ok (a, ks)
    here = ap (reads n.program) (sym same) ∙ read

    pub tree : None ≡ first_place ks → Spells a ts
    tree w = sound a ts ks here (nothing_left ks w)

    both : (b : Decls) → Spells b ts → ◌≡◌ {A = Outcome Token Decls} (Ok (a, ks)) (Ok (b, []))
    both b d = sym here ∙ complete b ts d

    pub only : (b : Decls) → Spells b ts → (◌≡◌ {A = Result Decls Refusal} (Ok a) (Ok b)) ⊎ (◌≡◌ {A = Result Decls Refusal} (Ok a) (Err r.NoMemory))
    only b d = inl (ap Ok (ap (tree_of a) (both b d)))

    left : (ls : List Token) (p : Pos) → ks ≡ ls → Some p ≡ first_place ls → FaultAt ts ks
    left [] p e w = cc (w)
    left (t ∷ ls) p e w = subst (FaultAt ts) (sym e) (left_over a ts t ls (subst (λ vs. reads n.program ts ≡ Ok (a, vs)) e here))

    pub left_fault : (p : Pos) → Some p ≡ first_place ks → FaultAt ts ks
    left_fault p w = left ks p refl w

    pub none_left : (p : Pos) (b : Decls) → Some p ≡ first_place ks → Spells b ts → ⊥
    none_left p b w d = let e = ap (λ (o : Outcome Token Decls). rest o) (both b d) in let f : Some p ≡ None = w ∙ ap first_place e in cc (f)

  -- the reader that begins with these tokens stops at ks
  module _ (ks : List Token) (read : reads n.program us ≡ Err ks) where
    stopped : reads n.program ts ≡ Err ks
    stopped = ap (reads n.program) (sym same) ∙ read

    pub stop_fault : FaultAt ts ks
    stop_fault = fault ts ks stopped

    pub no_tree : (b : Decls) → Spells b ts → ⊥
    no_tree b d = let f = sym stopped ∙ complete b ts d in cc (f)

pub same_place : (a b : Option Pos) → ◌≡◌ {A = Result Decls Refusal} (Err (r.Syntax a)) (Err (r.Syntax b)) → b ≡ a
same_place a b e = cc (e)

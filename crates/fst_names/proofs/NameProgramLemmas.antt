-- Programs with their names looked up, a declaration at a time.
use Rattle.std.proofs.Common.{◌≡◌, ℕ, ◌+◌, ◌<◌, List, [], ◌∷◌, ◌++◌, map, length, take, get_or, refl, sym, ap, ◌∙◌}
use Rattle.std.proofs.lemmas.List.{map-append}
use Rattle.fst_trees.specs.declared.word.Word.{Word}
use Rattle.fst_trees.specs.declared.decl.EffectTree.{EffectTree}
use Rattle.fst_trees.specs.declared.decl.LiftTree.{LiftTree}
use Rattle.fst_trees.specs.declared.decl.FunTree.{FunTree}
use Rattle.fst_trees.specs.declared.decl.Decl.{Decl}
use Rattle.fst_trees.specs.declared.decl.Decl.TheVariants as decl
use Rattle.fst_names.specs.declared.reference.Ref.{Ref}
use Rattle.fst_names.specs.Trees.{WDecl, w_effect, w_lift, w_fun, word_at, plain_decl}
use Rattle.fst_names.specs.Names.{Globals, Before, start, after, named, named_from, named_decl}
use Rattle.fst_names.specs.Namings.{effect_named, lift_named, ref_at}
use Rattle.fst_names.specs.NamedDeclarations.{fun_named, decl_named, decls_named}
use Rattle.fst_names.specs.Declarations.{all_of, behind, count_of}
use Rattle.fst_names.proofs.CheckProgramLemmas.{plain, plain-more, count-none, count-step}

-- ---- a declaration

pub decl-Effect : (G : Globals) (b : Before) (e : EffectTree Word) → decl_named G b (decl.Effect e) ≡ w_effect (effect_named G b e)
unfolding decl_named effect_named
decl-Effect G b e = refl

pub decl-Lift : (G : Globals) (b : Before) (l : LiftTree Word) → decl_named G b (decl.Lift l) ≡ w_lift (lift_named G b l)
unfolding decl_named lift_named
decl-Lift G b l = refl

pub decl-Fun : (G : Globals) (b : Before) (f : FunTree Word) → decl_named G b (decl.Fun f) ≡ w_fun (fun_named G b f)
unfolding decl_named fun_named
decl-Fun G b f = refl

pub ruleset decls = (decl-Effect, decl-Lift, decl-Fun)

-- ---- one more declaration

named-more : (G : Globals) (b : Before) (ds : List (WDecl Word)) (d : WDecl Word) → named_from G b (ds ++ d ∷ []) ≡ named_from G b ds ++ named_decl G (behind b ds) d ∷ []
named-more G b [] d = refl
named-more G b (c ∷ ds) d = ap (λ es. named_decl G b c ∷ es) (named-more G (after b c) ds d)

pub decls-none : (G : Globals) → decls_named G [] ≡ []
unfolding decls_named
decls-none G = refl

-- the step of a loop over them
pub decls-step : (G : Globals) (ds : List (Decl Word)) (i : ℕ) (d : Decl Word) (cs : List (Decl Ref)) (c : Decl Ref) → d ≡ get_or ds i d → i < length ds
    → map (plain_decl ref_at) cs ≡ decls_named G (take i ds) → plain_decl ref_at c ≡ decl_named G (count_of (take i ds)) d
    → map (plain_decl ref_at) (cs ++ c ∷ []) ≡ decls_named G (take (i + 1) ds)
unfolding decls_named decl_named count_of
decls-step G ds i d cs c e h so_far one =
    map-append (plain_decl ref_at) cs (c ∷ []) ∙ ap (λ es. es ++ plain_decl ref_at c ∷ []) so_far
    ∙ ap (λ x. named_from G start (plain (take i ds)) ++ x ∷ []) one
    ∙ sym (named-more G start (plain (take i ds)) (plain_decl word_at d))
    ∙ ap (named_from G start) (sym (plain-more ds i d e h))

pub ruleset steps = (count-none, count-step, decls-none, decls-step)

-- ---- the program

pub named-is : (ds : List (Decl Word)) → decls_named (all_of ds) ds ≡ named (plain ds)
unfolding decls_named all_of
named-is ds = refl

pub ruleset answers = (named-is)

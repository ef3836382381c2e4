-- What answers among the rules that a program breaks, a declaration at a time.
use Rattle.std.proofs.Common.{◌≡◌, ℕ, ◌+◌, ◌<◌, List, [], ◌∷◌, ◌++◌, map, length, take, get_or, None, Some, refl, sym, ap, ◌∙◌, append_assoc}
use Rattle.std.proofs.lemmas.List.{append-nil, take_more, map-append, length-map}
use Rattle.fst_trees.specs.declared.word.Word.{Word}
use Rattle.fst_trees.specs.declared.decl.EffectTree.{EffectTree}
use Rattle.fst_trees.specs.declared.decl.LiftTree.{LiftTree}
use Rattle.fst_trees.specs.declared.decl.FunTree.{FunTree}
use Rattle.fst_trees.specs.declared.decl.Decl.{Decl}
use Rattle.fst_trees.specs.declared.decl.Decl.TheVariants as decl
use Rattle.fst_names.specs.declared.broken.Broken.{Broken}
use Rattle.fst_names.specs.Broken.{first_broken, least}
use Rattle.fst_names.specs.Trees.{WDecl, w_effect, w_lift, w_fun, word_at, plain_decl, plain_wparam}
use Rattle.fst_names.specs.Names.{Names, Globals, Before, FunHead, start, after, group_of, head_of, globals, globals_from, broken_names, broken_from, broken_decl}
use Rattle.fst_names.specs.Declarations.{effect_breaks, lift_breaks, fun_breaks, decl_breaks, decls_break, with_decl, all_of, behind, count_of}
use Rattle.fst_names.proofs.BrokenLemmas.{first-append, is_there}

abbrev pub plain : List (Decl Word) → List (WDecl Word)
plain ds = map (plain_decl word_at) ds

-- ---- a declaration

pub decl-Effect : (G : Globals) (b : Before) (e : EffectTree Word) → decl_breaks G b (decl.Effect e) ≡ effect_breaks G b e
unfolding decl_breaks effect_breaks
decl-Effect G b e = refl

pub decl-Lift : (G : Globals) (b : Before) (l : LiftTree Word) → decl_breaks G b (decl.Lift l) ≡ lift_breaks G b l
unfolding decl_breaks lift_breaks
decl-Lift G b l = refl

pub decl-Fun : (G : Globals) (b : Before) (f : FunTree Word) → decl_breaks G b (decl.Fun f) ≡ fun_breaks G b f
unfolding decl_breaks fun_breaks
decl-Fun G b f = refl

pub ruleset decls = (decl-Effect, decl-Lift, decl-Fun)

-- ---- one more declaration

pub plain-more : (ds : List (Decl Word)) (i : ℕ) (d : Decl Word) → d ≡ get_or ds i d → i < length ds → plain (take (i + 1) ds) ≡ plain (take i ds) ++ plain_decl word_at d ∷ []
plain-more ds i d e h = ap plain (take_more ds i d h ∙ ap (λ c. take i ds ++ c ∷ []) (sym e)) ∙ map-append (plain_decl word_at) (take i ds) (d ∷ [])

behind-more : (b : Before) (ds : List (WDecl Word)) (d : WDecl Word) → behind b (ds ++ d ∷ []) ≡ after (behind b ds) d
behind-more b [] d = refl
behind-more b (c ∷ ds) d = behind-more (after b c) ds d

pub count-none : count_of [] ≡ start
unfolding count_of
count-none = refl

pub count-step : (ds : List (Decl Word)) (i : ℕ) (d : Decl Word) → d ≡ get_or ds i d → i < length ds → count_of (take (i + 1) ds) ≡ after (count_of (take i ds)) (plain_decl word_at d)
unfolding count_of
count-step ds i d e h = ap (behind start) (plain-more ds i d e h) ∙ behind-more start (plain (take i ds)) (plain_decl word_at d)

-- ---- all functions and effects

abbrev made : List FunHead → Names → Globals
made fs es = record { funs = fs; effects = es }

-- the functions and effects of the first with those of the second
abbrev both : Globals → Globals → Globals
both G H = made (G.funs ++ H.funs) (G.effects ++ H.effects)

globals-more : (b : Before) (ds : List (WDecl Word)) (d : WDecl Word) → globals_from b (ds ++ d ∷ []) ≡ both (globals_from b ds) (globals_from (behind b ds) (d ∷ []))
globals-more b [] (w_effect e) = refl
globals-more b [] (w_lift l) = refl
globals-more b [] (w_fun f) = refl
globals-more b (w_effect e ∷ ds) d = ap (λ (G : Globals). made G.funs (e.name.text ∷ G.effects)) (globals-more (after b (w_effect e)) ds d)
globals-more b (w_lift l ∷ ds) d = globals-more (after b (w_lift l)) ds d
globals-more b (w_fun f ∷ ds) d = ap (λ (G : Globals). made (head_of b f ∷ G.funs) G.effects) (globals-more (after b (w_fun f)) ds d)

abbrev head : Before → FunTree Word → (arity : ℕ) → FunHead
head b f n = record { name = f.head.name.text; arity = n; group = group_of f.joined b }

with-decl : (G : Globals) (b : Before) (d : Decl Word) → both G (globals_from b (plain_decl word_at d ∷ [])) ≡ with_decl G b d
with-decl G b (decl.Effect e) = ap (λ fs. made fs (G.effects ++ e.name.text ∷ [])) (append-nil G.funs)
with-decl G b (decl.Lift l) = ap (λ fs. made fs (G.effects ++ [])) (append-nil G.funs) ∙ ap (λ es. made G.funs es) (append-nil G.effects)
with-decl G b (decl.Fun f) =
    ap (λ es. made (G.funs ++ head b f (length (map plain_wparam f.head.params)) ∷ []) es) (append-nil G.effects)
    ∙ ap (λ n. made (G.funs ++ head b f n ∷ []) G.effects) (length-map f.head.params plain_wparam)

pub all-none : all_of [] ≡ record { funs = []; effects = [] }
unfolding all_of
all-none = refl

pub all-step : (ds : List (Decl Word)) (i : ℕ) (d : Decl Word) → d ≡ get_or ds i d → i < length ds → all_of (take (i + 1) ds) ≡ with_decl (all_of (take i ds)) (count_of (take i ds)) d
unfolding all_of count_of
all-step ds i d e h =
    ap globals (plain-more ds i d e h) ∙ globals-more start (plain (take i ds)) (plain_decl word_at d)
    ∙ with-decl (globals (plain (take i ds))) (behind start (plain (take i ds))) d

pub ruleset gathers = (count-none, count-step, all-none, all-step)

-- ---- what declarations break

from-more : (G : Globals) (b : Before) (ds : List (WDecl Word)) (d : WDecl Word) → broken_from G b (ds ++ d ∷ []) ≡ broken_from G b ds ++ broken_decl G (behind b ds) d
from-more G b [] d = append-nil (broken_decl G b d)
from-more G b (c ∷ ds) d = ap (λ bs. broken_decl G b c ++ bs) (from-more G (after b c) ds d) ∙ sym (append_assoc (broken_decl G b c) (broken_from G (after b c) ds) (broken_decl G (behind (after b c) ds) d))

pub decls-none : (G : Globals) → decls_break G [] ≡ None
unfolding decls_break
decls-none G = refl

pub decls-step : (G : Globals) (ds : List (Decl Word)) (i : ℕ) (d : Decl Word) → d ≡ get_or ds i d → i < length ds → decls_break G (take (i + 1) ds) ≡ least (decls_break G (take i ds)) (decl_breaks G (count_of (take i ds)) d)
unfolding decls_break decl_breaks count_of
decls-step G ds i d e h =
    ap (λ cs. first_broken (broken_from G start cs)) (plain-more ds i d e h)
    ∙ ap first_broken (from-more G start (plain (take i ds)) (plain_decl word_at d))
    ∙ first-append (broken_from G start (plain (take i ds))) (broken_decl G (behind start (plain (take i ds))) (plain_decl word_at d))

pub ruleset steps = (count-none, count-step, decls-none, decls-step)

-- ---- the answer

none-broken : (bs : List Broken) → first_broken bs ≡ None → bs ≡ []
none-broken [] e = refl
none-broken (b ∷ bs) e = let t = is_there b (first_broken bs) in let s : None ≡ Some t.0 = sym e ∙ t.1 in cc

pub answer-is : (ds : List (Decl Word)) → decls_break (all_of ds) ds ≡ first_broken (broken_names (plain ds))
unfolding decls_break all_of
answer-is ds = refl

pub answer-none : (ds : List (Decl Word)) → decls_break (all_of ds) ds ≡ None → broken_names (plain ds) ≡ []
answer-none ds e = none-broken (broken_names (plain ds)) (sym (answer-is ds) ∙ e)

pub ruleset answers = (answer-is, answer-none)

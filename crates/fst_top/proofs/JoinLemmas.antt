-- From the goals of each function to those of the program, and from valid goals to good functions.
use Rattle.std.proofs.Common.{◌≡◌, ℕ, zero, suc, ◌+◌, ◌-◌, ◌<◌, ◌≤◌, Bool, true, false, not, List, [], ◌∷◌, ◌++◌, map, length, slice_get, Option, Some, None, refl, sym, ap, ◌∙◌, subst, arith, append_assoc}
use Rattle.std.specs.Prelude.{nat_le}
use Rattle.std.proofs.lemmas.List.{append-nil, length-map}
use Rattle.fst_terms.specs.Meaning.{Meaning, IsValid}
use Rattle.fst_terms.specs.declared.flat.Mark.{Mark}
use Rattle.fst_program.specs.Texts.{Fn, Prog, fun_at, if_there}
use Rattle.fst_program.specs.declared.fun.Program.{Program}
use Rattle.fst_program.specs.declared.goal.Goal.{Goal}
use Rattle.fst_program.specs.Plain.{plain_fun, plain_program}
use Rattle.fst_program.specs.Paths.{Gl, plain_goal, fun_goals, goals_from, goals_of, GoalsValid}
use Rattle.fst_program.specs.Good.{Good, AllGood}
use Rattle.fst_trees.specs.declared.word.Word.{Word}
use Rattle.fst_trees.specs.declared.decl.Decl.{Decl}
use Rattle.fst_top.specs.Built.{IsBuilt}
use Rattle.fst_top.specs.Elaboration.{program_of, funs_from, fun_decl, fun_of_tree, is_named, most_funs}
use Rattle.fst_top.specs.Answers.{program_in, Reads, FirstNo, IsNoOf, IsYes, has_word}
use Rattle.fst_top.specs.Answering.{IsNoAbout}
use Rattle.fst_top.proofs.BuiltGood.{fun-good}
use Rattle.fst_top.proofs.TypingLemmas.{some-given, some-only}
use Rattle.fst_top.proofs.ProgramBuilt.{program-built}

-- ---- goals function by function

-- the goals of the first functions, and then those of the others
goals-until : (P : Prog) (k n m : ℕ) → goals_from P k (n + m) ≡ goals_from P k n ++ goals_from P (k + n) m
goals-until P k zero m = let e : 0 + m ≡ m = omega arith in let z : k + 0 ≡ k = omega arith in rw (e, z) refl
goals-until P k (suc n) m =
    let s : suc n + m ≡ suc (n + m) = omega arith in
    let z : suc k + n ≡ k + suc n = omega arith in
    ap (goals_from P k) s
    ∙ ap (λ gs. fun_goals P k ++ gs) (goals-until P (suc k) n m)
    ∙ sym (append_assoc (fun_goals P k) (goals_from P (suc k) n) (goals_from P (suc k + n) m))
    ∙ ap (λ i. (fun_goals P k ++ goals_from P (suc k) n) ++ goals_from P i m) z

-- one function more
pub goals-next : (P : Prog) (n : ℕ) → goals_from P 0 (n + 1) ≡ goals_from P 0 n ++ fun_goals P n
goals-next P n = let z : 0 + n ≡ n = omega arith in goals-until P 0 n 1 ∙ ap (λ i. goals_from P 0 n ++ (fun_goals P i ++ [])) z ∙ ap (λ gs. goals_from P 0 n ++ gs) (append-nil (fun_goals P n))

valid-append : (M : Meaning) (gs hs : List Gl) → GoalsValid M gs → GoalsValid M hs → GoalsValid M (gs ++ hs)
valid-append M [] hs v w = w
valid-append M (g ∷ gs) hs v w = (v.0, valid-append M gs hs v.1 w)

valid-left : (M : Meaning) (gs hs : List Gl) → GoalsValid M (gs ++ hs) → GoalsValid M gs
valid-left M [] hs v = tt
valid-left M (g ∷ gs) hs v = (v.0, valid-left M gs hs v.1)

valid-right : (M : Meaning) (gs hs : List Gl) → GoalsValid M (gs ++ hs) → GoalsValid M hs
valid-right M [] hs v = v
valid-right M (g ∷ gs) hs v = valid-right M gs hs v.1

pub valid-next : (P : Prog) (n : ℕ) → ((M : Meaning) → GoalsValid M (goals_from P 0 n)) → ((M : Meaning) → GoalsValid M (fun_goals P n)) → (M : Meaning) → GoalsValid M (goals_from P 0 (n + 1))
valid-next P n v w M = subst (GoalsValid M) (sym (goals-next P n)) (valid-append M (goals_from P 0 n) (fun_goals P n) (v M) (w M))

-- the first goal that isn't valid among those of a function, where those before are valid, is the first of the program
pub no-of-program : (P : Prog) (k : ℕ) (text printed : List ℕ) → k < length P.funs → ((M : Meaning) → GoalsValid M (goals_from P 0 k)) → IsNoOf P (fun_goals P k) text printed → IsNoOf P (goals_of P) text printed
no-of-program P k text printed less v n = record {
  goal = n.goal;
  marks = n.marks;
  first = record {
    before = goals_from P 0 k ++ n.first.before;
    after = n.first.after ++ rest.1.0;
    goals_are = rest.1.1 ∙ ap (λ gs. goals_from P 0 k ++ (gs ++ rest.1.0)) n.first.goals_are ∙ moved (goals_from P 0 k) n.first.before n.goal n.first.after rest.1.0;
    valid = λ M. valid-append M (goals_from P 0 k) n.first.before (v M) (n.first.valid M);
    open_branch = n.first.open_branch;
    fails = n.first.fails;
  };
  text_is = n.text_is;
}
  where
    moved : (gs bs : List Gl) (g : Gl) (cs ds : List Gl) → gs ++ ((bs ++ g ∷ cs) ++ ds) ≡ (gs ++ bs) ++ g ∷ (cs ++ ds)
    moved gs bs g cs ds = ap (λ xs. gs ++ xs) (append_assoc bs (g ∷ cs) ds) ∙ sym (append_assoc gs bs (g ∷ (cs ++ ds)))

    split : (l m : ℕ) → l ≡ k + suc m → (m : ℕ) × ((more : List Gl) × (goals_from P 0 l ≡ goals_from P 0 k ++ (fun_goals P k ++ more)))
    split l m e =
        let z : 0 + k ≡ k = omega arith in
        (m, (goals_from P (suc k) m, ap (goals_from P 0) e ∙ goals-until P 0 k (suc m) ∙ ap (λ i. goals_from P 0 k ++ (fun_goals P i ++ goals_from P (suc i) m)) z))

    lacking : (l : ℕ) → k < l → (m : ℕ) × (l ≡ k + suc m)
    lacking l less = (l - suc k, omega (arith, less))

    rest : (m : ℕ) × ((more : List Gl) × (goals_of P ≡ goals_from P 0 k ++ (fun_goals P k ++ more)))
    rest = let l = lacking (length P.funs) less in split (length P.funs) l.0 l.1

-- ---- goal by goal

-- a no about the first goal
pub no-here : (P : Prog) (g : Gl) (gs : List Gl) (text printed : List ℕ) → IsNoAbout text P g printed → IsNoOf P (g ∷ gs) text printed
no-here P g gs text printed n = record {
  goal = g;
  marks = n.marks;
  first = record { before = []; after = gs; goals_are = refl; valid = λ M. tt; open_branch = n.open_branch; fails = n.fails };
  text_is = n.text_is;
}

-- a no about a later one, where the first goal is valid
pub no-later : (P : Prog) (g : Gl) (gs : List Gl) (text printed : List ℕ) → ((M : Meaning) → IsValid M g.sequent) → IsNoOf P gs text printed → IsNoOf P (g ∷ gs) text printed
no-later P g gs text printed v n = record {
  goal = n.goal;
  marks = n.marks;
  first = record {
    before = g ∷ n.first.before;
    after = n.first.after;
    goals_are = ap (λ hs. g ∷ hs) n.first.goals_are;
    valid = λ M. (v M, n.first.valid M);
    open_branch = n.first.open_branch;
    fails = n.first.fails;
  };
  text_is = n.text_is;
}

-- what is told of the rest of some goals is told of all of them
pub record Tells (P : Prog) (text : List ℕ) (rest all : List Gl) : Type 0 where
  pub a_no : (printed : List ℕ) → IsNoOf P rest text printed → IsNoOf P all text printed
  pub a_yes : ((M : Meaning) → GoalsValid M rest) → (M : Meaning) → GoalsValid M all

pub tells-itself : (P : Prog) (text : List ℕ) (all : List Gl) → Tells P text all all
tells-itself P text all = record { a_no = λ printed h. h; a_yes = λ v. v }

pub tells-more : (P : Prog) (text : List ℕ) (g : Gl) (gs all : List Gl) → ((M : Meaning) → IsValid M g.sequent) → Tells P text (g ∷ gs) all → Tells P text gs all
tells-more P text g gs all v t = record {
  a_no = λ printed h. t.a_no printed (no-later P g gs text printed v h);
  a_yes = λ w. t.a_yes (λ M. (v M, w M));
}

-- ---- from valid goals to good functions

valid-at : (M : Meaning) (P : Prog) (k n j : ℕ) → GoalsValid M (goals_from P k n) → j < n → GoalsValid M (fun_goals P (k + j))
valid-at M P k zero j v less = absurd (omega (arith, less))
valid-at M P k (suc n) zero v less = let z : k ≡ k + 0 = omega arith in subst (λ i. GoalsValid M (fun_goals P i)) z (valid-left M (fun_goals P k) (goals_from P (suc k) n) v)
valid-at M P k (suc n) (suc j) v less = let z : suc k + j ≡ k + suc j = omega arith in subst (λ i. GoalsValid M (fun_goals P i)) z (valid-at M P (suc k) n j (valid-right M (fun_goals P k) (goals_from P (suc k) n) v) (omega (arith, less)))

within : (fs : List (Option Fn)) (k : ℕ) (f : Fn) → if_there (slice_get fs k) (λ (x : Option Fn). x) None ≡ Some f → k < length fs
within [] zero f e = cc
within [] (suc k) f e = cc
within (x ∷ fs) zero f e = omega arith
within (x ∷ fs) (suc k) f e = let less = within fs k f e in omega (arith, less)

-- where the goals of a built program are valid, its functions are good
pub all-good : (P : Prog) → IsBuilt P → ((M : Meaning) → GoalsValid M (goals_of P)) → (M : Meaning) → AllGood P M
all-good P built valid M = λ k f there.
    let z : 0 + k ≡ k = omega arith in
    fun-good M P k f there (built.funs k f there) (subst (λ i. GoalsValid M (fun_goals P i)) z (valid-at M P 0 (length P.funs) k (valid M) (within P.funs k f there)))

pub reads-program : (text : List ℕ) (decls : List (Decl Word)) (P : Prog) → program_in text decls ≡ Some P → program_of decls ≡ Some P
reads-program text decls P e = (some-only _ (program_of decls) P e).1

-- a yes is good
pub yes-good : (text printed : List ℕ) → IsYes text printed → (P : Prog) × (Reads text P × ((M : Meaning) → AllGood P M))
yes-good text printed y = (y.P, (y.reads, all-good y.P (program-built y.reads.decls y.P (reads-program text y.reads.decls y.P y.reads.first)) y.valid))

-- ---- how many functions

funs-length : (k : ℕ) (met : List (List ℕ)) (ds : List (Decl Word)) (fs : List Fn) → funs_from k met ds ≡ Some fs → length fs ≡ length ds
funs-length k met [] fs e = let same : [] ≡ fs = cc in ap length (sym same)
funs-length k met (d ∷ ds) fs e =
    let tree = some-given (fun_decl d) _ fs e in
    let one = some-given (fun_of_tree k tree.0) _ fs tree.1.1 in
    let fresh = some-only (not (is_named one.0.name met)) _ fs one.1.1 in
    let more = some-given (funs_from (suc k) (met ++ one.0.name ∷ []) ds) _ fs fresh.1 in
    let more_is = more.1.1 in
    let all : one.0 ∷ more.0 ≡ fs = cc in
    ap length (sym all) ∙ ap suc (funs-length (suc k) (met ++ one.0.name ∷ []) ds more.0 more.1.0)

-- a built program has at most 1,000 functions
pub program-few : (ds : List (Decl Word)) (P : Prog) → program_of ds ≡ Some P → length P.funs ≤ 1000
program-few ds P e =
    let few = some-only (nat_le (length ds) most_funs) _ P e in
    let funs = some-given (funs_from 0 [] ds) _ P few.1 in
    let funs_are = funs.1.1 in
    let made : record { effects = []; lifts = []; funs = map Some funs.0 } ≡ P = cc in
    let long : length P.funs ≡ length ds = ap (λ (Q : Prog). length Q.funs) (sym made) ∙ length-map funs.0 Some ∙ funs-length 0 [] ds funs.0 funs.1.0 in
    let most : length ds ≤ 1000 = grind (arith, few.0) in
    omega (arith, long, most)

pub few-funs : (ds : List (Decl Word)) (p : Program) → program_of ds ≡ Some (plain_program p) → length p.funs ≤ 1000
few-funs ds p e = let few = program-few ds (plain_program p) e in let l = length-map p.funs (λ f. Some (plain_fun f)) in omega (arith, few, l)

pub none-valid : (gs : List Goal) → length gs ≡ 0 → (M : Meaning) → GoalsValid M (map plain_goal gs)
none-valid [] e M = tt
none-valid (g ∷ gs) e M = absurd (omega (arith, e))

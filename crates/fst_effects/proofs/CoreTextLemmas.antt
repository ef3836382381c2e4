-- The core text that a definition's text is, a variant of the tree at a time.
use Rattle.std.specs.Prelude.{option_map}
use Rattle.std.proofs.Common.{◌≡◌, ℕ, zero, suc, ◌+◌, ◌<◌, ◌≤◌, List, [], ◌∷◌, ◌++◌, map, length, take, get_or, Option, Some, None, Result, Ok, IfOk, OnOk, refl, sym, subst, ap, ◌∙◌, arith}
use Rattle.std.proofs.lemmas.List.{take_more}
use Rattle.fst_base.specs.declared.place.Pos.{Pos}
use Rattle.fst_base.specs.Sorts.{Srt, s_bool, s_unit}
use Rattle.fst_terms.specs.declared.term.Term.{Term}
use Rattle.fst_terms.specs.Terms.{Tms, t_unit, t_end, t_more, plain_term}
use Rattle.fst_terms.proofs.PlainLemmas.{plain-term-Unit}
use Rattle.fst_program.specs.declared.comp.Arm.{Arm}
use Rattle.fst_program.specs.declared.comp.Con.{Con}
use Rattle.fst_program.specs.declared.definition.DmTerm.{DmTerm}
use Rattle.fst_program.specs.declared.definition.DmTerm.TheVariants as D
use Rattle.fst_program.specs.Texts.{Dm, DmArms, d_ret, d_let, d_if, d_match, d_run_f, d_run_g, d_end, d_arm}
use Rattle.fst_program.specs.Plain.{plain_dm}
use Rattle.fst_program.specs.LiftPaths.{or_else}
use Rattle.fst_program.proofs.PlainLemmas.{plain_dm_arms, plain-dm-Ret, plain-dm-Let, plain-dm-If, plain-dm-Match, plain-dm-RunF, plain-dm-RunG}
use Rattle.fst_trees.specs.declared.word.Word.{Word}
use Rattle.fst_trees.specs.declared.sort.SortTree.{SortTree}
use Rattle.fst_trees.specs.declared.form.Form.{Form}
use Rattle.fst_trees.specs.declared.pattern.ArmTree.{ArmTree}
use Rattle.fst_trees.specs.declared.pattern.ConWord.{ConWord}
use Rattle.fst_trees.specs.declared.pattern.ConWord.TheVariants as word
use Rattle.fst_trees.specs.declared.definition.DmTree.{DmTree}
use Rattle.fst_trees.specs.declared.definition.DmTree.TheVariants as V
use Rattle.fst_names.specs.declared.reference.Ref.{Ref}
use Rattle.fst_names.specs.declared.reference.RefKind.{RefKind}
use Rattle.fst_names.specs.declared.reference.RefKind.TheVariants as kind
use Rattle.fst_names.specs.Namings.{ref_at}
use Rattle.fst_names.specs.Trees as T
use Rattle.fst_names.specs.Trees.{WText, WArms, x_let, x_assert, x_if, x_match, x_part, x_end, x_arm, as_part, plain_form, plain_forms}
use Rattle.fst_names.proofs.DmTreeLemmas.{dm-Let, dm-If, dm-Match, dm-Block, dm-Run, dm-Term}
use Rattle.fst_effects.specs.declared.wanted.Run.{Run}
use Rattle.fst_effects.specs.Known.{Ctx, Known, or_unit, with_sort}
use Rattle.fst_effects.specs.TermSorts.{args_of, cores, visible, wants_of}
use Rattle.fst_effects.specs.TermChecks.{form_core, form_given, node_core, node_given}
use Rattle.fst_effects.specs.TextSorts.{arms_given, part_given, text_given}
use Rattle.fst_effects.specs.Patterns.{core_con, fits_pattern, part_sorts, under}
use Rattle.fst_effects.specs.PatternScopes.{pattern_scope}
use Rattle.fst_effects.specs.Scopes.{run_wants, want_at}
use Rattle.fst_effects.specs.Definitions.{core_dm, core_dm_arms, core_dm_part, first_term, rest_terms, run_text}
use Rattle.fst_effects.specs.WrittenSorts.{note_of}
use Rattle.fst_effects.specs.DefinitionTexts.{arg_core, callee_run, dm_arms_core, dm_bound_gives, dm_core, dm_gives, dm_match_core, known_of, made_arms, none_applied, run_core, run_in, term_at}
use Rattle.fst_effects.proofs.PlainLemmas.{plain-sort-Bool}
use Rattle.fst_effects.proofs.GivenTextLemmas.{called-run, part-given}

-- ---- plain trees

made-plain : (bs : List (Arm DmTerm)) → plain_dm_arms bs ≡ made_arms bs
made-plain [] = refl
made-plain (b ∷ bs) = ap (d_arm b.con b.names (plain_dm b.body)) (made-plain bs)

pub plain-Match : (t : Term) (bs : List (Arm DmTerm)) → plain_dm (D.Match t bs) ≡ d_match (plain_term t) (made_arms bs)
plain-Match t bs = plain-dm-Match t bs ∙ ap (d_match (plain_term t)) (made-plain bs)

-- ---- arguments

pub arg-there : (xs : Ctx) (fs : List (Form Ref)) (Ws : List (Option Srt)) (i : ℕ) (f : Form Ref) → f ≡ get_or fs i f → i < length fs → arg_core xs fs Ws i ≡ form_core none_applied xs f (want_at Ws i)
unfolding arg_core node_core
arg-there xs [] Ws i f e h = absurd (omega (arith, h))
arg-there xs (g ∷ fs) [] zero f e h = rw e refl
arg-there xs (g ∷ fs) (V ∷ Ws) zero f e h = rw e refl
arg-there xs (g ∷ fs) [] (suc i) f e h = arg-there xs fs [] i f e (omega (arith, h))
arg-there xs (g ∷ fs) (V ∷ Ws) (suc i) f e h = arg-there xs fs Ws i f e (omega (arith, h))

pub arg-absent : (xs : Ctx) (fs : List (Form Ref)) (Ws : List (Option Srt)) (i : ℕ) → length fs ≤ i → arg_core xs fs Ws i ≡ t_unit
unfolding arg_core
arg-absent xs [] Ws i h = refl
arg-absent xs (g ∷ fs) Ws zero h = absurd (omega (arith, h))
arg-absent xs (g ∷ fs) [] (suc i) h = arg-absent xs fs [] i (omega (arith, h))
arg-absent xs (g ∷ fs) (V ∷ Ws) (suc i) h = arg-absent xs fs Ws i (omega (arith, h))

pub ruleset arguments = (plain-term-Unit, arg-there, arg-absent)

pub ruleset runs = (plain-dm-RunF, plain-dm-RunG)

first-at : (ts : Tms) → first_term ts ≡ term_at ts 0
first-at t_end = refl
first-at (t_more t ts) = refl

second-at : (ts : Tms) → first_term (rest_terms ts) ≡ term_at ts 1
second-at t_end = refl
second-at (t_more t t_end) = refl
second-at (t_more t (t_more u ts)) = refl

run-args : (xs : Ctx) (k : RefKind) (fs : List (Form Ref)) (Ws : List (Option Srt)) → run_text k (cores none_applied xs (plain_forms fs) Ws) ≡ run_core k xs fs Ws
unfolding arg_core
run-args xs k fs Ws = go k
  where
    go : (k : RefKind) → run_text k (cores none_applied xs (plain_forms fs) Ws) ≡ run_core k xs fs Ws
    go kind.RunG = ap (λ t. d_run_g t (first_term (rest_terms (cores none_applied xs (plain_forms fs) Ws)))) (first-at (cores none_applied xs (plain_forms fs) Ws)) ∙ ap (d_run_g (term_at (cores none_applied xs (plain_forms fs) Ws) 0)) (second-at (cores none_applied xs (plain_forms fs) Ws))
    go kind.Local = ap d_run_f (first-at (cores none_applied xs (plain_forms fs) Ws))
    go kind.Fun = ap d_run_f (first-at (cores none_applied xs (plain_forms fs) Ws))
    go kind.Effect = ap d_run_f (first-at (cores none_applied xs (plain_forms fs) Ws))
    go kind.SortA = ap d_run_f (first-at (cores none_applied xs (plain_forms fs) Ws))
    go kind.SortB = ap d_run_f (first-at (cores none_applied xs (plain_forms fs) Ws))
    go kind.RunF = ap d_run_f (first-at (cores none_applied xs (plain_forms fs) Ws))

run-wants : (o : Option Run) → wants_of (args_of (option_map callee_run o)) ≡ run_wants o
run-wants None = refl
run-wants (Some r) = refl

-- a text as a part is what it is
part-core : (K : Known) (xs : Ctx) (c : WText Ref) (W : Option Srt) → core_dm_part K xs (as_part c) W ≡ core_dm K xs c W
part-core K xs (x_let g w s p c) W = refl
part-core K xs (x_assert f at c) W = refl
part-core K xs (x_if f c d) W = refl
part-core K xs (x_match f at arms) W = refl
part-core K xs (x_part p) W = refl

unit-parts : (con : ConWord) → part_sorts con s_unit ≡ None
unit-parts word.True = refl
unit-parts word.False = refl
unit-parts word.Empty = refl
unit-parts word.Full = refl
unit-parts word.Nil = refl
unit-parts word.Cons = refl
unit-parts word.Left = refl
unit-parts word.Right = refl
unit-parts word.Pair = refl

unit-arms : (K : Known) (xs : Ctx) (arms : WArms Ref) → arms_given K xs s_unit arms ≡ None
unit-arms K xs x_end = refl
unit-arms K xs (x_arm at con ws c more) = ap (λ o. or_else (fits_pattern o (λ ys. text_given K (map visible ys ++ xs) c)) (arms_given K xs s_unit more)) (unit-parts con) ∙ unit-arms K xs more

-- where nothing is matched no arm fits
known-arms : (K : Known) (xs : Ctx) (o : Option Srt) (arms : WArms Ref) → arms_given K xs (or_unit o) arms ≡ with_sort o (λ T. arms_given K xs T arms)
known-arms K xs None arms = unit-arms K xs arms
known-arms K xs (Some T) arms = refl

module _ (rs : List Run) (xs : Ctx) where
  abbrev K : Known
  K = known_of rs

  pub core-Let : (w : Word) (s : Option (SortTree Ref)) (p c : DmTree Ref) (W : Option Srt) → dm_core rs xs (V.Let w s p c) W
      ≡ d_let w.text (dm_core rs xs p (note_of s)) (dm_core rs (visible (or_unit (dm_bound_gives rs xs s p)) ∷ xs) c W)
  unfolding dm_core note_of dm_gives
  core-Let w s p c W =
      ap (λ c. core_dm K xs c W) (dm-Let ref_at w s p c)
      ∙ ap (λ d. d_let w.text d (core_dm K (visible (or_unit (or_else (note_of s) (part_given K xs (as_part (T.plain_dm ref_at p))))) ∷ xs) (T.plain_dm ref_at c) W)) (part-core K xs (T.plain_dm ref_at p) (note_of s))
      ∙ ap (λ G. d_let w.text (dm_core rs xs p (note_of s)) (core_dm K (visible (or_unit (or_else (note_of s) G)) ∷ xs) (T.plain_dm ref_at c) W)) (part-given K xs (T.plain_dm ref_at p))

  pub core-If : (f : Form Ref) (c d : DmTree Ref) (W : Option Srt) → dm_core rs xs (V.If f c d) W
      ≡ d_if (form_core none_applied xs f (Some s_bool)) (dm_core rs xs c (or_else W (dm_gives rs xs (V.If f c d)))) (dm_core rs xs d (or_else W (dm_gives rs xs (V.If f c d))))
  unfolding dm_core node_core dm_gives
  core-If f c d W = ap (λ c. core_dm K xs c W) (dm-If ref_at f c d) ∙ ap (λ G. whole (or_else W G)) (sym (ap (text_given K xs) (dm-If ref_at f c d)))
    where
      whole : Option Srt → Dm
      whole V = d_if (form_core none_applied xs f (Some s_bool)) (dm_core rs xs c V) (dm_core rs xs d V)

  pub core-Match : (f : Form Ref) (at : Pos) (arms : List (ArmTree (DmTree Ref))) (W : Option Srt) → dm_core rs xs (V.Match f at arms) W
      ≡ dm_match_core rs xs f arms (or_else W (dm_gives rs xs (V.Match f at arms)))
  unfolding dm_core node_core node_given dm_arms_core dm_gives dm_match_core
  core-Match f at arms W =
      ap (λ c. core_dm K xs c W) (dm-Match ref_at f at arms)
      ∙ ap (λ G. whole (or_else W G)) (known-arms K xs (form_given none_applied xs f) (T.plain_dm_arms ref_at arms) ∙ sym (ap (text_given K xs) (dm-Match ref_at f at arms)))
    where
      whole : Option Srt → Dm
      whole V = d_match (form_core none_applied xs f None) (core_dm_arms K xs (or_unit (form_given none_applied xs f)) (T.plain_dm_arms ref_at arms) V)

  pub match-core : (f : Form Ref) (arms : List (ArmTree (DmTree Ref))) (W : Option Srt) → dm_match_core rs xs f arms W
      ≡ d_match (form_core none_applied xs f None) (dm_arms_core rs xs (or_unit (form_given none_applied xs f)) arms W)
  unfolding dm_match_core
  match-core f arms W = refl

  pub core-Block : (at : Pos) (c : DmTree Ref) (W : Option Srt) → dm_core rs xs (V.Block at c) W ≡ dm_core rs xs c W
  unfolding dm_core
  core-Block at c W = ap (λ c. core_dm K xs c W) (dm-Block ref_at at c)

  pub core-Run : (r : Ref) (fs : List (Form Ref)) (W : Option Srt) → dm_core rs xs (V.Run r fs) W ≡ run_core r.kind xs fs (run_wants (run_in rs r))
  unfolding dm_core
  core-Run r fs W =
      ap (λ c. core_dm K xs c W) (dm-Run ref_at r fs)
      ∙ ap (λ f. run_text r.kind (cores none_applied xs (plain_forms fs) (wants_of (args_of f)))) (called-run rs r)
      ∙ ap (λ Ws. run_text r.kind (cores none_applied xs (plain_forms fs) Ws)) (run-wants (run_in rs r))
      ∙ run-args xs r.kind fs (run_wants (run_in rs r))

  pub core-Term : (f : Form Ref) (W : Option Srt) → dm_core rs xs (V.Term f) W ≡ d_ret (form_core none_applied xs f W)
  unfolding dm_core node_core
  core-Term f W = ap (λ c. core_dm K xs c W) (dm-Term ref_at f)

  -- ---- arms

  pub arms-none : (S : Srt) (W : Option Srt) → dm_arms_core rs xs S [] W ≡ d_end
  unfolding dm_arms_core
  arms-none S W = refl

  -- with one more behind them
  abbrev pub behind : DmArms → Con → List (List ℕ) → Dm → DmArms
  behind d_end con ws d = d_arm con ws d d_end
  behind (d_arm k vs c more) con ws d = d_arm k vs c (behind more con ws d)

  plain-more : (bs : List (Arm DmTerm)) (b : Arm DmTerm) → made_arms (bs ++ b ∷ []) ≡ behind (made_arms bs) b.con b.names (plain_dm b.body)
  plain-more [] b = refl
  plain-more (c ∷ bs) b = ap (d_arm c.con c.names (plain_dm c.body)) (plain-more bs b)

  one : Srt → ArmTree (DmTree Ref) → (W : Option Srt) → Dm
  one S a W = core_dm K (under (part_sorts a.con S) xs) (T.plain_dm ref_at a.body) W

  core-more : (S : Srt) (arms : List (ArmTree (DmTree Ref))) (a : ArmTree (DmTree Ref)) (W : Option Srt) → core_dm_arms K xs S (T.plain_dm_arms ref_at (arms ++ a ∷ [])) W
      ≡ behind (core_dm_arms K xs S (T.plain_dm_arms ref_at arms) W) (core_con a.con) (map (λ w. w.text) a.names) (dm_core rs (pattern_scope a.con S xs) a.body W)
  unfolding dm_core pattern_scope one
  core-more S [] a W = refl
  core-more S (b ∷ arms) a W = ap (d_arm (core_con b.con) (map (λ w. w.text) b.names) (one S b W)) (core-more S arms a W)

  -- the step of a loop over them
  pub arms-step : (S : Srt) (arms : List (ArmTree (DmTree Ref))) (i : ℕ) (a : ArmTree (DmTree Ref)) (W : Option Srt) (bs : List (Arm DmTerm)) (b : Arm DmTerm) → a ≡ get_or arms i a → i < length arms
      → made_arms bs ≡ dm_arms_core rs xs S (take i arms) W → b.con ≡ core_con a.con → b.names ≡ map (λ w. w.text) a.names → plain_dm b.body ≡ dm_core rs (pattern_scope a.con S xs) a.body W
      → made_arms (bs ++ b ∷ []) ≡ dm_arms_core rs xs S (take (i + 1) arms) W
  unfolding dm_arms_core
  arms-step S arms i a W bs b e h p con names body =
      plain-more bs b ∙ ap (λ r. behind r b.con b.names (plain_dm b.body)) p
      ∙ rw (con, names, body) refl
      ∙ sym (core-more S (take i arms) a W)
      ∙ ap (λ zs. core_dm_arms K xs S (T.plain_dm_arms ref_at zs) W) (ap (λ z. take i arms ++ z ∷ []) e ∙ sym (take_more arms i a h))

pub ruleset makers = (plain-dm-Ret, plain-dm-Let, plain-dm-If, plain-Match)

pub ruleset matches = (match-core)

pub ruleset texts = (plain-sort-Bool, core-Let, core-If, core-Match, core-Block, core-Run, core-Term)

pub ruleset arm_lists = (arms-none, arms-step)

-- ---- what a call ensures of the value that it gave

pub ok-value : {A X : Type 0} (P : A → Type 0) (r : Result A X) (a : A) → r ≡ Ok a → IfOk r P → P a
ok-value P r a e h = subst (λ r. IfOk r P) e h

pub ok-kept : {A X : Type 0} (P : Type 0) (r : Result A X) (a : A) → r ≡ Ok a → OnOk r P → P
ok-kept P r a e h = subst (λ r. OnOk r P) e h

-- What answers among the rules that a body breaks, a variant of the tree at a time.
use Rattle.std.proofs.Common.{◌≡◌, ℕ, ◌+◌, ◌<◌, Bool, true, false, ◌||◌, List, [], ◌∷◌, ◌++◌, length, map, take, get_or, Option, Some, None, Result, Ok, Err, IfOk, option_map, refl, subst, sym, ap, ◌∙◌, append_assoc, if◌then◌else◌}
use Rattle.std.specs.Prelude.{OnOk}
use Rattle.std.proofs.lemmas.List.{append-nil, take_more}
use Rattle.fst_base.specs.declared.place.Pos.{Pos}
use Rattle.fst_base.specs.declared.sort.Sort.{Sort}
use Rattle.fst_base.specs.Sorts.{Srt, s_bool}
use Rattle.fst_program.specs.declared.effect.Effect.{Effect}
use Rattle.fst_program.specs.declared.effect.Effect.TheVariants as effect
use Rattle.fst_program.specs.LiftPaths.{or_else}
use Rattle.fst_trees.specs.declared.word.Word.{Word}
use Rattle.fst_trees.specs.declared.sort.SortTree.{SortTree}
use Rattle.fst_trees.specs.declared.form.Form.{Form}
use Rattle.fst_trees.specs.declared.pattern.ArmTree.{ArmTree}
use Rattle.fst_trees.specs.declared.pattern.ConWord.{ConWord}
use Rattle.fst_trees.specs.declared.body.BodyTree.{BodyTree}
use Rattle.fst_trees.specs.declared.body.BodyTree.TheVariants as V
use Rattle.fst_trees.specs.declared.body.PartTree.{PartTree}
use Rattle.fst_trees.specs.declared.body.PartNode.TheVariants as N
use Rattle.fst_names.specs.declared.reference.Ref.{Ref}
use Rattle.fst_names.specs.declared.broken.Broken.{Broken}
use Rattle.fst_names.specs.Broken.{first_broken, least, inner, innermost}
use Rattle.fst_names.specs.Trees.{WText, x_match, plain_text, plain_part, plain_arms, plain_form, plain_forms}
use Rattle.fst_names.proofs.TextTreeLemmas.{text-Let, text-GhostLet, text-Assert, text-If, text-Match, text-Part, part-Block, part-Call, part-Reify, part-Reflect, part-Term}
use Rattle.fst_names.proofs.BrokenLemmas.{first-append, first-innermost, least-none}
use Rattle.fst_effects.specs.Known.{Ctx, Known, clash, needs_sort, or_unit, refused, where_known, with_sort}
use Rattle.fst_effects.specs.TermSorts.{given, broken, broken_giving, args_of, place_of, visible}
use Rattle.fst_effects.specs.Scopes.{known_sort}
use Rattle.fst_effects.specs.TermChecks.{clash_of, form_breaks, form_given, giving_breaks, need_of, node_breaks, node_given}
use Rattle.fst_effects.specs.TextSorts.{base_of, bound_place, broken_arms, broken_args, broken_part, broken_text, callee_effect, entry, input_sort, part_given, part_place, result_sort, text_given, arms_given}
use Rattle.fst_effects.specs.Patterns.{in_pattern, part_sorts}
use Rattle.fst_effects.specs.PatternScopes.{fits, pattern_scope}
use Rattle.fst_effects.proofs.PlainLemmas.{plain-sort-Bool}
use Rattle.fst_effects.proofs.NodePlaces.{form-place}
use Rattle.fst_effects.proofs.PatternLemmas.{fits-breaks}
use Rattle.fst_sorting.specs.declared.known.Known as C
use Rattle.fst_sorting.specs.Sites.{known_at, note_of, refused_of, written_sort}
use Rattle.fst_sorting.specs.Bodies.{text_gives, part_node_gives, bound_gives, text_breaks, part_node_breaks, part_breaks, args_break, arm_breaks, arms_break, arms_where, bound_breaks, let_breaks, rest_where}
use Rattle.fst_sorting.proofs.PartPlaces.{part-place}

abbrev answer : Known → Effect → Bool → Ctx → (W : Option Srt) → WText Ref → Option Broken
answer K x gh xs W c = first_broken (broken_text K x gh xs c W)

inner-none : (o : Option Broken) → inner o None ≡ o
inner-none None = refl
inner-none (Some b) = refl

module _ (K : Known) (x : Effect) (gh : Bool) (xs : Ctx) where
  -- a let whose variable is a ghost one, where g
  let-apart : (g : Bool) (s : Option (SortTree Ref)) (p : PartTree Ref) (c : BodyTree Ref) (W : Option Srt) (N : Option Srt) → N ≡ note_of s
      → first_broken (innermost (broken_part K (bound_place g x) (gh || g) xs (plain_part p) N) (needs_sort (part_place (plain_part p)) (or_else N (part_given K xs (plain_part p)))) ++ where_known (or_else N (part_given K xs (plain_part p))) (λ S. broken_text K x gh (entry g S ∷ xs) (plain_text c) W))
      ≡ let_breaks K x gh g xs s p c W
  unfolding text_breaks part_node_breaks part_node_gives need_of bound_gives bound_breaks rest_where
  let-apart g s p c W N e =
      first-append (innermost parts (needs_sort (part_place (plain_part p)) (G N))) (where_known (G N) rest)
      ∙ ap (λ o. least o (first_broken (where_known (G N) rest))) (first-innermost parts (needs_sort (part_place (plain_part p)) (G N)) ∙ ap (λ q. inner (first_broken parts) (first_broken (needs_sort q (G N)))) (part-place p))
      ∙ ap (least (inner (first_broken parts) (first_broken (needs_sort p.at.at (G N))))) (behind (G N))
      ∙ ap (λ N. least (inner (first_broken (broken_part K (bound_place g x) (gh || g) xs (plain_part p) N)) (first_broken (needs_sort p.at.at (G N)))) (rest_where K x gh g xs c W (G N))) e
    where
      G : Option Srt → Option Srt
      G N = or_else N (part_given K xs (plain_part p))

      parts : List Broken
      parts = broken_part K (bound_place g x) (gh || g) xs (plain_part p) N

      rest : Srt → List Broken
      rest S = broken_text K x gh (entry g S ∷ xs) (plain_text c) W

      behind : (o : Option Srt) → first_broken (where_known o rest) ≡ rest_where K x gh g xs c W o
      behind None = refl
      behind (Some S) = refl

  pub bound-is : (s : Option (SortTree Ref)) (p : PartTree Ref) (G : Option Srt) → bound_breaks K x gh xs s p G ≡ inner (part_breaks K x gh xs p (note_of s)) (need_of p.at G)
  unfolding bound_breaks
  bound-is s p G = refl

  pub rest-none : (g : Bool) (c : BodyTree Ref) (W : Option Srt) → rest_where K x gh g xs c W None ≡ None
  unfolding rest_where
  rest-none g c W = refl

  pub rest-some : (g : Bool) (c : BodyTree Ref) (W : Option Srt) (S : Srt) → rest_where K x gh g xs c W (Some S) ≡ text_breaks K x gh (entry g S ∷ xs) c W
  unfolding rest_where
  rest-some g c W S = refl

  pub check-Let : (w : Word) (s : Option (SortTree Ref)) (p : PartTree Ref) (c : BodyTree Ref) (W : Option Srt) → text_breaks K x gh xs (V.Let w s p c) W ≡ let_breaks K x gh false xs s p c W
  unfolding text_breaks note_of
  check-Let w s p c W = ap (answer K x gh xs W) (text-Let w s p c) ∙ let-apart false s p c W (note_of s) refl

  pub check-GhostLet : (w : Word) (s : Option (SortTree Ref)) (p : PartTree Ref) (c : BodyTree Ref) (W : Option Srt) → text_breaks K x gh xs (V.GhostLet w s p c) W ≡ let_breaks K x gh true xs s p c W
  unfolding text_breaks note_of
  check-GhostLet w s p c W = ap (answer K x gh xs W) (text-GhostLet w s p c) ∙ let-apart true s p c W (note_of s) refl

  pub check-Assert : (f : Form Ref) (at : Pos) (c : BodyTree Ref) (W : Option Srt) → text_breaks K x gh xs (V.Assert f at c) W ≡ least (form_breaks K.applied true xs f (Some s_bool)) (text_breaks K x gh xs c W)
  unfolding text_breaks node_breaks
  check-Assert f at c W = ap (answer K x gh xs W) (text-Assert f at c) ∙ first-append (broken K.applied true xs (plain_form f) (Some s_bool)) (broken_text K x gh xs (plain_text c) W)

  pub check-If : (f : Form Ref) (c d : BodyTree Ref) (W : Option Srt) → text_breaks K x gh xs (V.If f c d) W
      ≡ least (least (form_breaks K.applied gh xs f (Some s_bool)) (text_breaks K x gh xs c (or_else W (text_gives K xs (V.If f c d))))) (text_breaks K x gh xs d (or_else W (text_gives K xs (V.If f c d))))
  unfolding text_breaks text_gives node_breaks
  check-If f c d W = ap (answer K x gh xs W) (text-If f c d) ∙ apart (or_else W (or_else (text_given K xs (plain_text c)) (text_given K xs (plain_text d)))) ∙ ap (λ G. whole (or_else W G)) (sym (ap (text_given K xs) (text-If f c d)))
    where
      whole : Option Srt → Option Broken
      whole V = least (least (form_breaks K.applied gh xs f (Some s_bool)) (text_breaks K x gh xs c V)) (text_breaks K x gh xs d V)

      apart : (V : Option Srt) → first_broken (broken K.applied gh xs (plain_form f) (Some s_bool) ++ broken_text K x gh xs (plain_text c) V ++ broken_text K x gh xs (plain_text d) V) ≡ whole V
      apart V =
          first-append (broken K.applied gh xs (plain_form f) (Some s_bool) ++ broken_text K x gh xs (plain_text c) V) (broken_text K x gh xs (plain_text d) V)
          ∙ ap (λ o. least o (text_breaks K x gh xs d V)) (first-append (broken K.applied gh xs (plain_form f) (Some s_bool)) (broken_text K x gh xs (plain_text c) V))

  pub check-Part : (p : PartTree Ref) (W : Option Srt) → text_breaks K x gh xs (V.Part p) W ≡ part_breaks K x gh xs p W
  unfolding text_breaks part_node_breaks
  check-Part p W = ap (answer K x gh xs W) (text-Part p)

  -- ---- parts

  pub check-Block : (at : Pos) (c : BodyTree Ref) (W : Option Srt) → part_node_breaks K x gh xs at (N.Block c) W ≡ text_breaks K x gh xs c W
  unfolding text_breaks part_node_breaks
  check-Block at c W = ap (λ p. first_broken (broken_part K x gh xs p W)) (part-Block at c)

  own : (e : Effect) (at : Pos) (G W : Option Srt) → first_broken (refused K x e at.at ++ clash at.at G W) ≡ least (refused_of K x e at) (clash_of at G W)
  unfolding refused_of clash_of
  own e at G W = first-append (refused K x e at.at) (clash at.at G W)

  pub check-Call : (at : Pos) (r : Ref) (fs : List (Form Ref)) (W : Option Srt) → part_node_breaks K x gh xs at (N.Call r fs) W
      ≡ inner (args_break K gh xs fs (args_of (K.called r))) (least (refused_of K x (callee_effect (K.called r)) at) (clash_of at (option_map (λ f. f.sort) (K.called r)) W))
  unfolding part_node_breaks args_break
  check-Call at r fs W =
      ap (λ p. first_broken (broken_part K x gh xs p W)) (part-Call at r fs)
      ∙ first-innermost (broken_args K gh xs (plain_forms fs) (args_of (K.called r))) _
      ∙ ap (inner (first_broken (broken_args K gh xs (plain_forms fs) (args_of (K.called r))))) (own (callee_effect (K.called r)) at (option_map (λ f. f.sort) (K.called r)) W)

  pub check-Reify : (at : Pos) (r : Ref) (s : SortTree Ref) (c : BodyTree Ref) (f : Form Ref) (W : Option Srt) → part_node_breaks K x gh xs at (N.Reify r s c f) W
      ≡ inner (least (text_breaks K (effect.User r.index) gh xs c (Some (written_sort s))) (form_breaks K.applied gh xs f (input_sort (K.effects r.index))))
      (least (refused_of K x (base_of (K.effects r.index)) at) (clash_of at (result_sort (K.effects r.index) (written_sort s)) W))
  unfolding part_node_breaks text_breaks node_breaks written_sort
  check-Reify at r s c f W =
      ap (λ p. first_broken (broken_part K x gh xs p W)) (part-Reify at r s c f)
      ∙ first-innermost (broken_text K (effect.User r.index) gh xs (plain_text c) (Some (written_sort s)) ++ broken K.applied gh xs (plain_form f) (input_sort (K.effects r.index))) _
      ∙ ap (λ o. inner o (first_broken (refused K x (base_of (K.effects r.index)) at.at ++ clash at.at (result_sort (K.effects r.index) (written_sort s)) W))) (first-append (broken_text K (effect.User r.index) gh xs (plain_text c) (Some (written_sort s))) (broken K.applied gh xs (plain_form f) (input_sort (K.effects r.index))))
      ∙ ap (inner _) (own (base_of (K.effects r.index)) at (result_sort (K.effects r.index) (written_sort s)) W)

  pub check-Reflect : (at : Pos) (r : Ref) (s : SortTree Ref) (w : Word) (c : BodyTree Ref) (W : Option Srt) → part_node_breaks K x gh xs at (N.Reflect r s w c) W
      ≡ inner (text_breaks K (base_of (K.effects r.index)) gh (entry false (or_unit (input_sort (K.effects r.index))) ∷ xs) c (result_sort (K.effects r.index) (written_sort s)))
      (least (refused_of K x (effect.User r.index) at) (clash_of at (Some (written_sort s)) W))
  unfolding part_node_breaks text_breaks written_sort
  check-Reflect at r s w c W =
      ap (λ p. first_broken (broken_part K x gh xs p W)) (part-Reflect at r s w c)
      ∙ first-innermost (broken_text K (base_of (K.effects r.index)) gh (visible (or_unit (input_sort (K.effects r.index))) ∷ xs) (plain_text c) (result_sort (K.effects r.index) (written_sort s))) _
      ∙ ap (inner _) (own (effect.User r.index) at (Some (written_sort s)) W)

  pub check-Term : (at : Pos) (f : Form Ref) (W : Option Srt) → part_node_breaks K x gh xs at (N.Term f) W ≡ form_breaks K.applied gh xs f W
  unfolding part_node_breaks node_breaks
  check-Term at f W = ap (λ p. first_broken (broken_part K x gh xs p W)) (part-Term at f)

  -- ---- arms

  pub arm-fits : (S : Srt) (at : Pos) (con : ConWord) (c : BodyTree Ref) (W : Option Srt) → fits con S ≡ true → arm_breaks K x gh xs S at con c W ≡ text_breaks K x gh (pattern_scope con S xs) c W
  unfolding arm_breaks
  arm-fits S at con c W e = ap (λ b. if b then text_breaks K x gh (pattern_scope con S xs) c W else need_of at None) e

  pub arm-other : (S : Srt) (at : Pos) (con : ConWord) (c : BodyTree Ref) (W : Option Srt) → fits con S ≡ false → arm_breaks K x gh xs S at con c W ≡ need_of at None
  unfolding arm_breaks
  arm-other S at con c W e = ap (λ b. if b then text_breaks K x gh (pattern_scope con S xs) c W else need_of at None) e

  pub arms-none : (S : Srt) (W : Option Srt) → arms_break K x gh xs S [] W ≡ None
  unfolding arms_break
  arms-none S W = refl

  abbrev arm_broken : Srt → ArmTree (BodyTree Ref) → (W : Option Srt) → List Broken
  arm_broken S a W = if fits a.con S then broken_text K x gh (pattern_scope a.con S xs) (plain_text a.body) W else needs_sort a.at.at None

  one : (S : Srt) (a : ArmTree (BodyTree Ref)) (W : Option Srt) → first_broken (arm_broken S a W) ≡ arm_breaks K x gh xs S a.at a.con a.body W
  unfolding arm_breaks text_breaks need_of
  one S a W = go (fits a.con S)
    where
      go : (b : Bool) → first_broken (if b then broken_text K x gh (pattern_scope a.con S xs) (plain_text a.body) W else needs_sort a.at.at None)
          ≡ (if b then first_broken (broken_text K x gh (pattern_scope a.con S xs) (plain_text a.body) W) else first_broken (needs_sort a.at.at None))
      go true = refl
      go false = refl

  abbrev in_arm : Srt → ArmTree (BodyTree Ref) → (W : Option Srt) → List Broken
  in_arm S a W = in_pattern a.at.at (part_sorts a.con S) (λ ys. broken_text K x gh (map visible ys ++ xs) (plain_text a.body) W)

  more : (S : Srt) (arms : List (ArmTree (BodyTree Ref))) (a : ArmTree (BodyTree Ref)) (W : Option Srt) → broken_arms K x gh xs S (plain_arms (arms ++ a ∷ [])) W ≡ broken_arms K x gh xs S (plain_arms arms) W ++ arm_broken S a W
  more S [] a W = append-nil (in_arm S a W) ∙ fits-breaks a.con S xs (λ ys. broken_text K x gh ys (plain_text a.body) W) a.at.at
  more S (b ∷ arms) a W = ap (λ bs. in_arm S b W ++ bs) (more S arms a W) ∙ sym (append_assoc (in_arm S b W) (broken_arms K x gh xs S (plain_arms arms) W) (arm_broken S a W))

  -- the step of a loop over them
  pub arms-step : (S : Srt) (arms : List (ArmTree (BodyTree Ref))) (i : ℕ) (a : ArmTree (BodyTree Ref)) (W : Option Srt) → a ≡ get_or arms i a → i < length arms
      → arms_break K x gh xs S (take (i + 1) arms) W ≡ least (arms_break K x gh xs S (take i arms) W) (arm_breaks K x gh xs S a.at a.con a.body W)
  unfolding arms_break
  arms-step S arms i a W e h =
      ap (λ bs. first_broken (broken_arms K x gh xs S (plain_arms bs) W)) (take_more arms i a h ∙ ap (λ b. take i arms ++ b ∷ []) (sym e))
      ∙ ap first_broken (more S (take i arms) a W)
      ∙ first-append (broken_arms K x gh xs S (plain_arms (take i arms)) W) (arm_broken S a W)
      ∙ ap (least (first_broken (broken_arms K x gh xs S (plain_arms (take i arms)) W))) (one S a W)

-- in bodies no match has to have each constructor
module _ (k : C.Known) (x : Effect) (gh : Bool) (xs : Ctx) where
  abbrev K : Known
  K = known_at k

  giving : (f : Form Ref) → first_broken (broken_giving K.applied gh xs (plain_form f)) ≡ giving_breaks K.applied gh xs f
  unfolding node_breaks node_given need_of
  giving f =
      first-innermost (broken K.applied gh xs (plain_form f) None) (needs_sort (place_of (plain_form f)) (given K.applied xs (plain_form f)))
      ∙ ap (λ q. inner (first_broken (broken K.applied gh xs (plain_form f) None)) (first_broken (needs_sort q (given K.applied xs (plain_form f))))) (form-place f)

  apart : (bs : List Broken) (arms : List (ArmTree (BodyTree Ref))) (W o : Option Srt)
      → first_broken (innermost (bs ++ where_known o (λ S. broken_arms K x gh xs S (plain_arms arms) (or_else W (arms_given K xs S (plain_arms arms))))) (where_known o (λ S. [])))
      ≡ least (first_broken bs) (arms_where K x gh xs arms (or_else W (with_sort o (λ S. arms_given K xs S (plain_arms arms)))) o)
  unfolding arms_break
  apart bs arms W None = first-innermost (bs ++ []) [] ∙ inner-none _ ∙ first-append bs []
  apart bs arms W (Some S) =
      let V = or_else W (arms_given K xs S (plain_arms arms)) in
      first-innermost (bs ++ broken_arms K x gh xs S (plain_arms arms) V) [] ∙ inner-none _ ∙ first-append bs (broken_arms K x gh xs S (plain_arms arms) V)

  pub check-Match : (f : Form Ref) (at : Pos) (arms : List (ArmTree (BodyTree Ref))) (W : Option Srt) → text_breaks (known_at k) x gh xs (V.Match f at arms) W
      ≡ least (giving_breaks (known_at k).applied gh xs f) (arms_where (known_at k) x gh xs arms (or_else W (text_gives (known_at k) xs (V.Match f at arms))) (form_given (known_at k).applied xs f))
  unfolding text_breaks text_gives node_given
  check-Match f at arms W =
      ap (answer K x gh xs W) (text-Match f at arms) ∙ apart (broken_giving K.applied gh xs (plain_form f)) arms W (given K.applied xs (plain_form f))
      ∙ ap (λ o. least o (arms_where K x gh xs arms (or_else W (text_given K xs (x_match (plain_form f) at.at (plain_arms arms)))) (given K.applied xs (plain_form f)))) (giving f)
      ∙ ap (λ G. least (giving_breaks K.applied gh xs f) (arms_where K x gh xs arms (or_else W G) (given K.applied xs (plain_form f)))) (sym (ap (text_given K xs) (text-Match f at arms)))

-- ---- a let, where it is checked part by part

module _ {E : Type 0} (K : Known) (x : Effect) (gh : Bool) (xs ys : Ctx) (s : Option (SortTree Ref)) (p : PartTree Ref) (c d : BodyTree Ref) (W : Option Srt) (bound : Result (Option Sort × Option Broken) E) where
  -- what the text behind it answers
  abbrev Rest : (hidden : Bool) → Option Broken → Type 0
  Rest g found = (t : Option Sort) × ((o : Option Broken) × ((bound ≡ Ok (t, o)) × (found ≡ least o (rest_where K x gh g ys d W (known_sort t)))))

  let-parts : (g : Bool) (found : Option Broken) → d ≡ c → IfOk bound (λ q. known_sort q.0 ≡ bound_gives K xs s p) → IfOk bound (λ q. q.1 ≡ bound_breaks K (bound_place g x) (gh || g) xs s p (bound_gives K xs s p)) → OnOk bound (ys ≡ xs)
      → Rest g found → found ≡ let_breaks K x gh g xs s p c W
  let-parts g found e hs hb sc h =
      let G = bound_gives K xs s p in
      let B = bound_breaks K (bound_place g x) (gh || g) xs s p G in
      let sort : known_sort h.0 ≡ G = subst (λ b. IfOk b (λ q. known_sort q.0 ≡ G)) h.1.1.0 hs in
      let broken : h.1.0 ≡ B = subst (λ b. IfOk b (λ q. q.1 ≡ B)) h.1.1.0 hb in
      let scope : ys ≡ xs = subst (λ b. OnOk b (ys ≡ xs)) h.1.1.0 sc in
      h.1.1.1 ∙ ap (λ o. least o (rest_where K x gh g ys d W (known_sort h.0))) broken
      ∙ ap (λ zs. least B (rest_where K x gh g zs d W (known_sort h.0))) scope
      ∙ ap (λ z. least B (rest_where K x gh g xs z W (known_sort h.0))) e
      ∙ ap (λ S. least B (rest_where K x gh g xs c W S)) sort

  pub let-answer : (w : Word) (tree : BodyTree Ref) (r : Result (Option Broken) E) → tree ≡ V.Let w s p c → d ≡ c → IfOk bound (λ q. known_sort q.0 ≡ bound_gives K xs s p)
      → IfOk bound (λ q. q.1 ≡ bound_breaks K (bound_place false x) (gh || false) xs s p (bound_gives K xs s p)) → OnOk bound (ys ≡ xs) → IfOk r (Rest false) → IfOk r (λ found. found ≡ text_breaks K x gh xs tree W)
  let-answer w tree (Ok found) t e hs hb sc h = let-parts false found e hs hb sc h ∙ sym (check-Let K x gh xs w s p c W) ∙ ap (λ z. text_breaks K x gh xs z W) (sym t)
  let-answer w tree (Err f) t e hs hb sc h = tt

  pub ghost-answer : (w : Word) (tree : BodyTree Ref) (r : Result (Option Broken) E) → tree ≡ V.GhostLet w s p c → d ≡ c → IfOk bound (λ q. known_sort q.0 ≡ bound_gives K xs s p)
      → IfOk bound (λ q. q.1 ≡ bound_breaks K (bound_place true x) (gh || true) xs s p (bound_gives K xs s p)) → OnOk bound (ys ≡ xs) → IfOk r (Rest true) → IfOk r (λ found. found ≡ text_breaks K x gh xs tree W)
  ghost-answer w tree (Ok found) t e hs hb sc h = let-parts true found e hs hb sc h ∙ sym (check-GhostLet K x gh xs w s p c W) ∙ ap (λ z. text_breaks K x gh xs z W) (sym t)
  ghost-answer w tree (Err f) t e hs hb sc h = tt

pub ruleset texts = (plain-sort-Bool, check-Let, check-GhostLet, check-Assert, check-If, check-Match, check-Part)

pub ruleset parts = (check-Block, check-Call, check-Reify, check-Reflect, check-Term)

pub ruleset arms = (arm-fits, arm-other)

pub ruleset arm_lists = (arms-none, arms-step)

pub ruleset bounds = (bound-is)

pub ruleset rests = (rest-none, rest-some, least-none)

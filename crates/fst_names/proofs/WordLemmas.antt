-- Names that are bound together, as the loops over them see them.
use Rattle.std.proofs.Common.{◌≡◌, ℕ, zero, suc, ◌+◌, ◌-◌, ◌<◌, ◌≤◌, Bool, true, false, ◌||◌, List, [], ◌∷◌, ◌++◌, map, length, take, drop, get_or, slice_get, Some, None, refl, sym, ap, ◌∙◌, bytes_eq, arith, append_assoc}
use Rattle.std.proofs.lemmas.List.{take_more, take-append-drop}
use denote.Enum.Bare.{sameb}
use Rattle.fst_trees.specs.contracts.pattern.ConWord as con
use Rattle.fst_trees.specs.declared.pattern.ConWord.{ConWord}
use Rattle.fst_trees.specs.declared.pattern.ArmTree.{ArmTree}
use Rattle.fst_trees.specs.declared.word.Word.{Word}
use Rattle.std.specs.Prelude.{not}
use Rattle.std.proofs.lemmas.List.{append-nil}
use Rattle.fst_base.specs.declared.rule.Rule.TheVariants as rule
use Rattle.fst_names.specs.declared.broken.Broken.{Broken}
use Rattle.fst_names.specs.Broken.{first_broken, least, breaks}
use Rattle.fst_names.specs.Names.{Names, binding, is_among, is_blank, has_con, runs_of, unless, broken_words, number_from, number_of}
use Rattle.fst_names.proofs.BrokenLemmas.{first-append}
use Rattle.fst_names.proofs.ScopeLemmas.{number-here, number-later, number-end}

pub binding-more : (ws : List Word) (w : Word) (xs : Names) → binding (ws ++ w ∷ []) xs ≡ w.text ∷ binding ws xs
binding-more [] w xs = refl
binding-more (v ∷ ws) w xs = binding-more ws w (v.text ∷ xs)

-- one more of some words
pub binding-step : (ws : List Word) (i : ℕ) (w : Word) (xs : Names) → w ≡ get_or ws i w → i < length ws → binding (take (i + 1) ws) xs ≡ w.text ∷ binding (take i ws) xs
binding-step ws i w xs e h = ap (λ vs. binding vs xs) (take_more ws i w h ∙ ap (λ v. take i ws ++ v ∷ []) (sym e)) ∙ binding-more (take i ws) w xs

-- one less of some words, as the last of them goes out of scope
last_of : (ws : List Word) (m : ℕ) → m < length ws → (w : Word) × (take (suc m) ws ≡ take m ws ++ w ∷ [])
last_of [] m h = absurd (omega (arith, h))
last_of (v ∷ ws) zero h = (v, refl)
last_of (v ∷ ws) (suc m) h = let l = last_of ws m (omega (arith, h)) in (l.0, ap (λ us. v ∷ us) l.1)

pub unbind-step : (ws : List Word) (xs old new : Names) (k m : ℕ) → k ≡ suc m → k ≤ length ws → old ≡ binding (take k ws) xs
    → ((last : List ℕ) (others : Names) → old ≡ last ∷ others → new ≡ others) → new ≡ binding (take m ws) xs
unbind-step ws xs old new k m e h is pops =
    let l = last_of ws m (omega (arith, e, h)) in
    pops l.0.text (binding (take m ws) xs) (is ∙ ap (λ n. binding (take n ws) xs) e ∙ ap (λ us. binding us xs) l.1 ∙ binding-more (take m ws) l.0 xs)

-- one of a longer list
among-later : (x : List ℕ) (vs : List Word) (xs : Names) → is_among x xs ≡ true → is_among x (binding vs xs) ≡ true
among-later x [] xs h = h
among-later x (v ∷ vs) xs h = among-later x vs (v.text ∷ xs) (go (bytes_eq x v.text) h)
  where
    go : (b : Bool) → is_among x xs ≡ true → (b || is_among x xs) ≡ true
    go true h = refl
    go false h = h

binding-append : (us vs : List Word) (xs : Names) → binding (us ++ vs) xs ≡ binding vs (binding us xs)
binding-append [] vs xs = refl
binding-append (u ∷ us) vs xs = binding-append us vs (u.text ∷ xs)

first_true : (a b : Bool) → a ≡ true → (a || b) ≡ true
first_true a b e = ap (λ c. c || b) e

both_false : (a b : Bool) → a ≡ false → b ≡ false → (a || b) ≡ false
both_false a b e h = ap (λ c. c || b) e ∙ h

pub among-found : (x : List ℕ) (ws : List Word) (i : ℕ) (w : Word) → w ≡ get_or ws i w → i < length ws → bytes_eq x w.text ≡ true → is_among x (binding ws []) ≡ true
among-found x ws i w e h same =
    let here : is_among x (binding (take (i + 1) ws) []) ≡ true = ap (is_among x) (binding-step ws i w [] e h) ∙ first_true (bytes_eq x w.text) (is_among x (binding (take i ws) [])) same in
    ap (λ vs. is_among x (binding vs [])) (sym (take-append-drop (i + 1) ws)) ∙ ap (is_among x) (binding-append (take (i + 1) ws) (drop (i + 1) ws) []) ∙ among-later x (drop (i + 1) ws) (binding (take (i + 1) ws) []) here

pub among-next : (x : List ℕ) (ws : List Word) (i : ℕ) (w : Word) → w ≡ get_or ws i w → i < length ws → bytes_eq x w.text ≡ false → is_among x (binding (take i ws) []) ≡ false → is_among x (binding (take (i + 1) ws) []) ≡ false
among-next x ws i w e h other so_far = ap (is_among x) (binding-step ws i w [] e h) ∙ both_false (bytes_eq x w.text) (is_among x (binding (take i ws) [])) other so_far

-- ---- constructors of arms

module _ {A : Type 0} where
  abbrev cons_of : List (ArmTree A) → List ConWord
  cons_of arms = map (λ a. a.con) arms

  pub con-found : (k : ConWord) (arms : List (ArmTree A)) (i : ℕ) (a : ArmTree A) → a ≡ get_or arms i a → i < length arms → sameb con.the_type k a.con ≡ true → has_con k (cons_of arms) ≡ true
  con-found k [] i a e h same = absurd (omega (arith, h))
  con-found k (b ∷ arms) zero a e h same = first_true (sameb con.the_type k b.con) (has_con k (cons_of arms)) (ap (λ c. sameb con.the_type k c.con) (sym e) ∙ same)
  con-found k (b ∷ arms) (suc i) a e h same = rest (sameb con.the_type k b.con) (con-found k arms i a e (omega (arith, h)) same)
    where
      rest : (t : Bool) → has_con k (cons_of arms) ≡ true → (t || has_con k (cons_of arms)) ≡ true
      rest true h = refl
      rest false h = h

  con-more : (k : ConWord) (arms : List (ArmTree A)) (a : ArmTree A) → has_con k (cons_of (arms ++ a ∷ [])) ≡ (has_con k (cons_of arms) || (sameb con.the_type k a.con || false))
  con-more k [] a = refl
  con-more k (b ∷ arms) a = ap (λ t. sameb con.the_type k b.con || t) (con-more k arms a) ∙ assoc (sameb con.the_type k b.con) (has_con k (cons_of arms)) (sameb con.the_type k a.con || false)
    where
      assoc : (p q r : Bool) → (p || (q || r)) ≡ ((p || q) || r)
      assoc true q r = refl
      assoc false q r = refl

  pub con-next : (k : ConWord) (arms : List (ArmTree A)) (i : ℕ) (a : ArmTree A) → a ≡ get_or arms i a → i < length arms → sameb con.the_type k a.con ≡ false → has_con k (cons_of (take i arms)) ≡ false → has_con k (cons_of (take (i + 1) arms)) ≡ false
  con-next k arms i a e h other so_far =
      ap (λ bs. has_con k (cons_of bs)) (take_more arms i a h ∙ ap (λ b. take i arms ++ b ∷ []) (sym e)) ∙ con-more k (take i arms) a
      ∙ both_false (has_con k (cons_of (take i arms))) (sameb con.the_type k a.con || false) so_far (both_false (sameb con.the_type k a.con) false other refl)

-- ---- the computations of a header

pub runs-length : (ws : List Word) → length (runs_of ws) ≡ length ws - 1
runs-length [] = refl
runs-length (w ∷ []) = refl
runs-length (w ∷ v ∷ ws) = let more = runs-length (v ∷ ws) in omega (arith, more)

pub run-at : (ws : List Word) (k : ℕ) (w : Word) → w ≡ get_or ws k w → k + 1 < length ws → slice_get (runs_of ws) k ≡ Some w.text
run-at [] k w e h = absurd (omega (arith, h))
run-at (v ∷ []) k w e h = absurd (omega (arith, h))
run-at (v ∷ u ∷ ws) zero w e h = ap (λ x. Some x.text) (sym e)
run-at (v ∷ u ∷ ws) (suc k) w e h = run-at (u ∷ ws) k w e (omega (arith, h))

-- what is known of the number after so many
abbrev So : (ws : List Word) (k : ℕ) (x : List ℕ) → Type 0
So ws k x = number_of x (runs_of ws) ≡ number_from k x (drop k (runs_of ws))

pub run-here : (ws : List Word) (k : ℕ) (w : Word) (x : List ℕ) → w ≡ get_or ws k w → k + 1 < length ws → So ws k x → bytes_eq x w.text ≡ true → number_of x (runs_of ws) ≡ Some k
run-here ws k w x e h so_far same = so_far ∙ number-here k (runs_of ws) w.text x (run-at ws k w e h) same

pub run-there : (ws : List Word) (k : ℕ) (w : Word) (x : List ℕ) → w ≡ get_or ws k w → k + 1 < length ws → So ws k x → bytes_eq x w.text ≡ false → So ws (k + 1) x
run-there ws k w x e h so_far other = let more : suc k ≡ k + 1 = omega arith in
    so_far ∙ number-later k (runs_of ws) w.text x (run-at ws k w e h) other ∙ ap (λ m. number_from m x (drop m (runs_of ws))) more

pub run-end : (ws : List Word) (k : ℕ) (x : List ℕ) → length ws - 1 ≤ k → So ws k x → number_of x (runs_of ws) ≡ None
run-end ws k x h so_far = so_far ∙ number-end k (runs_of ws) x (let l = runs-length ws in omega (arith, l))

-- ---- words that are the second of their name

abbrev own : (met : Names) → Word → List Broken
own met w = unless (is_blank w.text || not (is_among w.text met)) (breaks rule.Twice w.at.at)

pub words-more : (met : Names) (ws : List Word) (w : Word) → broken_words met (ws ++ w ∷ []) ≡ broken_words met ws ++ own (binding ws met) w
words-more met [] w = append-nil (own met w)
words-more met (v ∷ ws) w = ap (λ bs. own met v ++ bs) (words-more (v.text ∷ met) ws w) ∙ sym (append_assoc (own met v) (broken_words (v.text ∷ met) ws) (own (binding ws (v.text ∷ met)) w))

pub words-step : (ws : List Word) (i : ℕ) (w : Word) → w ≡ get_or ws i w → i < length ws
    → first_broken (broken_words [] (take (i + 1) ws)) ≡ least (first_broken (broken_words [] (take i ws))) (first_broken (own (binding (take i ws) []) w))
words-step ws i w e h =
    ap (λ vs. first_broken (broken_words [] vs)) (take_more ws i w h ∙ ap (λ v. take i ws ++ v ∷ []) (sym e))
    ∙ ap first_broken (words-more [] (take i ws) w) ∙ first-append (broken_words [] (take i ws)) (own (binding (take i ws) []) w)

pub ruleset bindings = (binding-step)

pub ruleset amongs = (among-found, among-next)

pub ruleset cons = (con-found, con-next)

pub ruleset runs = (run-here, run-there, run-end)

pub ruleset words = (words-step)

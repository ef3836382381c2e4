-- The marks that are read give a formula its value.
use Rattle.std.proofs.Common.{◌≡◌, ◌⊎◌, inl, inr, ℕ, zero, suc, ◌+◌, ◌<◌, ◌≤◌, Bool, true, false, List, [], ◌∷◌, length, Option, Some, None, option_map, refl, sym, ap, ap₂, ◌∙◌, subst, arith, rules}
use Rattle.fst_base.specs.Values.{same_bool}
use Rattle.fst_shapes.specs.declared.shapes.Shape as D
use Rattle.fst_shapes.specs.declared.shapes.Shape.{Shape}
use Rattle.fst_shapes.specs.declared.shapes.Shape.TheVariants as T
use Rattle.fst_terms.specs.Flats.{truth_of}
use Rattle.fst_terms.specs.declared.flat.Mark.{Mark}
use Rattle.fst_terms.specs.Marks.{Marking, marks_of}
use Rattle.fst_terms.specs.Skeletons.{common, chosen, agree}
use Rattle.fst_cert.specs.declared.line.Line.TheVariants as line
use Rattle.fst_cases.specs.Cited.{rank_of, want_at, core_list}
use Rattle.fst_cases.specs.Knowing.{look_of}
use Rattle.fst_cases.specs.Reading.{Shp, p_truth, p_atom, p_if, p_same, plain_shape, truth_at, shape_value, value_under, HasRead, Shows, ShapeCore}
use Rattle.fst_cases.specs.declared.cores.Want.{Want}
use Rattle.fst_cases.specs.declared.known.Known.{Known}
use Rattle.fst_cases.proofs.CitedLemmas.{core-is}

-- ---- three values

same-self : (b : Bool) → same_bool b b ≡ true
same-self true = refl
same-self false = refl

common-self : (b : Bool) → common (Some b) (Some b) ≡ Some b
common-self true = refl
common-self false = refl

chosen-self : (c : Option Bool) (b : Bool) → chosen c (Some b) (Some b) ≡ Some b
chosen-self (Some true) b = refl
chosen-self (Some false) b = refl
chosen-self None b = common-self b

common-inv : (p q : Option Bool) (b : Bool) → common p q ≡ Some b → (p ≡ Some b) × (q ≡ Some b)
common-inv (Some true) (Some true) b h = (h, h)
common-inv (Some false) (Some false) b h = (h, h)
common-inv (Some true) (Some false) b h = cc
common-inv (Some false) (Some true) b h = cc
common-inv (Some x) None b h = cc
common-inv None q b h = cc

-- both have values, and the answer tells whether they are the same
pub record Agreed (p q : Option Bool) (b : Bool) : Type 0 where
  pub left : Bool
  pub right : Bool
  pub left_is : p ≡ Some left
  pub right_is : q ≡ Some right
  pub same : Some (same_bool left right) ≡ Some b

agree-inv : (p q : Option Bool) (b : Bool) → agree p q ≡ Some b → Agreed p q b
agree-inv (Some x) (Some y) b h = record { left = x; right = y; left_is = refl; right_is = refl; same = h }
agree-inv (Some x) None b h = cc
agree-inv None q b h = cc

-- ---- what is read

module _ (ms : List Mark) where
  pub read-more : (old new : List Want) (core : Marking) → ((b : ℕ) → rank_of (want_at old b) ≤ rank_of (want_at new b)) → HasRead new ms core → HasRead old ms core
  read-more old new core kept h a r = h a (let k = kept a in omega (arith, k, r))

  pub shows-more : (old new : List Want) (s : Shp) → ((b : ℕ) → rank_of (want_at old b) ≤ rank_of (want_at new b)) → Shows old ms s → Shows new ms s
  shows-more old new s kept h core b r v = h core b (read-more old new core kept r) v

  pub kept-more : (old mid new : List Want) → ((b : ℕ) → rank_of (want_at old b) ≤ rank_of (want_at mid b)) → ((b : ℕ) → rank_of (want_at mid b) ≤ rank_of (want_at new b)) → (b : ℕ) → rank_of (want_at old b) ≤ rank_of (want_at new b)
  kept-more old mid new h k b = let x = h b in let y = k b in omega (arith, x, y)

  module _ (ws : List Want) where
    pub shows-atom : (a : ℕ) → 1 ≤ rank_of (want_at ws a) → Shows ws ms (p_atom a)
    shows-atom zero r core b h v = cc
    shows-atom (suc n) r core b h v = h (suc n) r ∙ v

    pub shows-left : (c p q : Shp) → value_under (marks_of ms) c ≡ Some true → Shows ws ms c → Shows ws ms p → Shows ws ms (p_if c p q)
    shows-left c p q t test side core b h v =
        ap (λ o. chosen o (value_under core p) (value_under core q)) (test core true h t) ∙ side core b h (ap (λ o. chosen o (value_under (marks_of ms) p) (value_under (marks_of ms) q)) (sym t) ∙ v)

    pub shows-right : (c p q : Shp) → value_under (marks_of ms) c ≡ Some false → Shows ws ms c → Shows ws ms q → Shows ws ms (p_if c p q)
    shows-right c p q t test side core b h v =
        ap (λ o. chosen o (value_under core p) (value_under core q)) (test core false h t) ∙ side core b h (ap (λ o. chosen o (value_under (marks_of ms) p) (value_under (marks_of ms) q)) (sym t) ∙ v)

    pub shows-sides : (c p q : Shp) → value_under (marks_of ms) c ≡ None → Shows ws ms p → Shows ws ms q → Shows ws ms (p_if c p q)
    shows-sides c p q t left right core b h v =
        let w = common-inv (value_under (marks_of ms) p) (value_under (marks_of ms) q) b (ap (λ o. chosen o (value_under (marks_of ms) p) (value_under (marks_of ms) q)) (sym t) ∙ v) in
        ap₂ (λ x y. chosen (value_under core c) x y) (left core b h w.0) (right core b h w.1) ∙ chosen-self (value_under core c) b

    pub shows-same : (p q : Shp) → Shows ws ms p → Shows ws ms q → Shows ws ms (p_same p q)
    shows-same p q left right core b h v =
        let w = agree-inv (value_under (marks_of ms) p) (value_under (marks_of ms) q) b v in
        ap₂ agree (left core w.left h w.left_is) (right core w.right h w.right_is) ∙ w.same

    -- ---- the core

    pub core-shows : (core : List Known) (s : Shp) → length ws ≡ length ms → core ≡ core_list ws ms (length ms) → Shows ws ms s → ShapeCore ms core s
    core-shows core s count is shows =
        let w = core-is ws ms core [] [] line.Done count is tt tt tt in
        record {
          falls = w.falls;
          within = w.within;
          shows = λ b v. shows (look_of core) b (λ a r. (core-is ws ms core [] [] (line.Unequal a 0) count is tt tt r).verdict_kept) v;
        }

-- ---- the plain tree of each shape

pub plain-shape-Truth : (b : Bool) → plain_shape (T.Truth b) ≡ p_truth b
plain-shape-Truth b = search (rules, D.the_lemmas)

pub plain-shape-Atom : (a : ℕ) → plain_shape (T.Atom a) ≡ p_atom a
plain-shape-Atom a = search (rules, D.the_lemmas)

pub plain-shape-If : (c p q : Shape) → plain_shape (T.If c p q) ≡ p_if (plain_shape c) (plain_shape p) (plain_shape q)
plain-shape-If c p q = search (rules, D.the_lemmas)

pub plain-shape-Same : (p q : Shape) → plain_shape (T.Same p q) ≡ p_same (plain_shape p) (plain_shape q)
plain-shape-Same p q = search (rules, D.the_lemmas)

pub ruleset shape_variants = (plain-shape-Truth, plain-shape-Atom, plain-shape-If, plain-shape-Same)

-- ---- as code reads them

module _ (ms : List Mark) where
  pub want-truth : (ws : List Want) (s : Shape) (b : Bool) → s ≡ T.Truth b → Shows ws ms (plain_shape s)
  want-truth ws s b is = subst (Shows ws ms) (sym (ap plain_shape is ∙ plain-shape-Truth b)) (λ core c h v. v)

  pub want-atom : (ws : List Want) (s : Shape) (a : ℕ) → s ≡ T.Atom a → 1 ≤ rank_of (want_at ws a) → Shows ws ms (plain_shape s)
  want-atom ws s a is r = subst (Shows ws ms) (sym (ap plain_shape is ∙ plain-shape-Atom a)) (shows-atom ms ws a r)

  pub want-same : (mid new : List Want) (s p q p' q' : Shape) → s ≡ T.Same p q → p' ≡ p → q' ≡ q → Shows mid ms (plain_shape p') → ((b : ℕ) → rank_of (want_at mid b) ≤ rank_of (want_at new b)) → Shows new ms (plain_shape q') → Shows new ms (plain_shape s)
  want-same mid new s p q p' q' is e f h k i =
      subst (Shows new ms) (sym (ap plain_shape is ∙ plain-shape-Same p q))
      (shows-same ms new (plain_shape p) (plain_shape q) (shows-more ms mid new (plain_shape p) k (subst (λ x. Shows mid ms (plain_shape x)) e h)) (subst (λ x. Shows new ms (plain_shape x)) f i))

  pub want-left : (mid new : List Want) (s c p q c' c2 p' : Shape) → s ≡ T.If c p q → c' ≡ c → c2 ≡ c → p' ≡ p → value_under (marks_of ms) (plain_shape c2) ≡ Some true → Shows mid ms (plain_shape c')
      → ((b : ℕ) → rank_of (want_at mid b) ≤ rank_of (want_at new b)) → Shows new ms (plain_shape p') → Shows new ms (plain_shape s)
  want-left mid new s c p q c' c2 p' is e g f v h k i =
      subst (Shows new ms) (sym (ap plain_shape is ∙ plain-shape-If c p q))
      (shows-left ms new (plain_shape c) (plain_shape p) (plain_shape q) (ap (λ x. value_under (marks_of ms) (plain_shape x)) (sym g) ∙ v)
      (shows-more ms mid new (plain_shape c) k (subst (λ x. Shows mid ms (plain_shape x)) e h)) (subst (λ x. Shows new ms (plain_shape x)) f i))

  pub want-right : (mid new : List Want) (s c p q c' c2 q' : Shape) → s ≡ T.If c p q → c' ≡ c → c2 ≡ c → q' ≡ q → value_under (marks_of ms) (plain_shape c2) ≡ Some false → Shows mid ms (plain_shape c')
      → ((b : ℕ) → rank_of (want_at mid b) ≤ rank_of (want_at new b)) → Shows new ms (plain_shape q') → Shows new ms (plain_shape s)
  want-right mid new s c p q c' c2 q' is e g f v h k i =
      subst (Shows new ms) (sym (ap plain_shape is ∙ plain-shape-If c p q))
      (shows-right ms new (plain_shape c) (plain_shape p) (plain_shape q) (ap (λ x. value_under (marks_of ms) (plain_shape x)) (sym g) ∙ v)
      (shows-more ms mid new (plain_shape c) k (subst (λ x. Shows mid ms (plain_shape x)) e h)) (subst (λ x. Shows new ms (plain_shape x)) f i))

  pub want-sides : (mid new : List Want) (s c p q c2 p' q' : Shape) → s ≡ T.If c p q → c2 ≡ c → p' ≡ p → q' ≡ q → value_under (marks_of ms) (plain_shape c2) ≡ None → Shows mid ms (plain_shape p')
      → ((b : ℕ) → rank_of (want_at mid b) ≤ rank_of (want_at new b)) → Shows new ms (plain_shape q') → Shows new ms (plain_shape s)
  want-sides mid new s c p q c2 p' q' is g e f v h k i =
      subst (Shows new ms) (sym (ap plain_shape is ∙ plain-shape-If c p q))
      (shows-sides ms new (plain_shape c) (plain_shape p) (plain_shape q) (ap (λ x. value_under (marks_of ms) (plain_shape x)) (sym g) ∙ v)
      (shows-more ms mid new (plain_shape p) k (subst (λ x. Shows mid ms (plain_shape x)) e h)) (subst (λ x. Shows new ms (plain_shape x)) f i))

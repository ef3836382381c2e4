-- The size of a translation: three nodes for each of the text, and those of f and g at each place that names them.
use Rattle.std.proofs.Common.{◌≡◌, ℕ, suc, ◌+◌, ◌*◌, ◌≤◌, Bool, true, false, if◌then◌else◌, List, [], ◌∷◌, ◌++◌, map, reverse, refl, subst, arith}
use Rattle.fst_base.specs.Sorts.{Srt}
use Rattle.fst_terms.specs.Terms.{Tm, Tms, t_var, t_int, t_bool, t_unit, t_prim, t_if, t_app, t_let, shift}
use Rattle.fst_terms.specs.Formulas.{negation, put, sort_of}
use Rattle.fst_program.specs.declared.comp.Con.{Con}
use Rattle.fst_program.specs.declared.comp.Con.TheVariants as con
use Rattle.fst_program.specs.Texts.{Dm, DmArms, d_ret, d_let, d_if, d_match, d_run_f, d_run_g, d_end, d_arm, CmArms, c_end, c_arm}
use Rattle.fst_program.specs.Paths.{divisions, all_divisions, family, input_name, same_con, cm_family, dm_family, selectors}
use Rattle.fst_program.specs.declared.goal.Choice.TheVariants as choice
use Rattle.fst_star.specs.Transformers.{Wt, w_none, w_post, w_then, w_way, w_ways, wshift}
use Rattle.fst_star.specs.Translation.{Scope, under, divisor_needs, term_needs, con_ways, dm_sort, star, star_arm, value_name}
use Rattle.fst_star.specs.Size.{wnodes, ws_nodes, tnodes, all_tnodes, dm_size, dm_arms_size, names_f, arms_name_f, names_g, arms_name_g}
use Rattle.fst_star.proofs.ConWays.{same-con-is}
use Rattle.fst_star.proofs.SizeLemmas.{wnodes-shift, needs-nodes, divisions-few, all-divisions-few}

pub term-needs-few : (t : Tm) (us : List Tm) (w : Wt) → wnodes (term_needs t us w) ≤ tnodes t + wnodes w
term-needs-few t us w = let e = needs-nodes (divisions [] t) us w in let h = divisions-few [] t in omega arith

pub all-needs-few : (ts : Tms) (us : List Tm) (w : Wt) → wnodes (divisor_needs (all_divisions [] ts) us w) ≤ all_tnodes ts + wnodes w
all-needs-few ts us w = let e = needs-nodes (all_divisions [] ts) us w in let h = all-divisions-few [] ts in omega arith

pub tnodes-some : (t : Tm) → 1 ≤ tnodes t
tnodes-some (t_var i) = omega arith
tnodes-some (t_int n) = omega arith
tnodes-some (t_bool b) = omega arith
tnodes-some t_unit = omega arith
tnodes-some (t_prim o S ts at) = omega arith
tnodes-some (t_if c t u) = omega arith
tnodes-some (t_app k S ts) = omega arith
tnodes-some (t_let x t u) = omega arith

-- ---- arms

-- the first arm of a constructor or the others
pub one-side : (b : Bool) (v w : Wt) (m n : ℕ) → wnodes v ≤ m → wnodes w ≤ n → wnodes (if b then v else w) ≤ m + n
one-side true v w m n h k = omega arith
one-side false v w m n h k = omega arith

-- the same for two constructors, of which the first arm has at most one
pub two-sides : (b1 b2 : Bool) (v1 w1 v2 w2 : Wt) (m n s : ℕ) → (b1 ≡ true → b2 ≡ true → ⊥) → wnodes v1 ≤ m → wnodes v2 ≤ m → wnodes w1 ≤ n → wnodes w2 ≤ n → n ≤ s → wnodes w1 + wnodes w2 ≤ s
    → wnodes (if b1 then v1 else w1) + wnodes (if b2 then v2 else w2) ≤ m + s
two-sides true true v1 w1 v2 w2 m n s d h1 h2 k1 k2 l p = absurd (d refl refl)
two-sides true false v1 w1 v2 w2 m n s d h1 h2 k1 k2 l p = omega arith
two-sides false true v1 w1 v2 w2 m n s d h1 h2 k1 k2 l p = omega arith
two-sides false false v1 w1 v2 w2 m n s d h1 h2 k1 k2 l p = omega arith

pub apart : (c a b : Con) → same_con a b ≡ false → same_con c a ≡ true → same_con c b ≡ true → ⊥
apart c a b n p q =
    let e : c ≡ a = same-con-is c a p in
    let f : same_con a b ≡ true = subst (λ x. same_con x b ≡ true) e q in
    cc

-- the ways of two constructors, and of pairs
pub ways-few : (c : Con) (S : Srt) (u : Tm) (arm : Con → List Tm → Wt) (m : ℕ)
    → ((a : Con) (ps : List Tm) → wnodes (arm a ps) ≤ m + 2)
    → ((a b : Con) (ps qs : List Tm) → same_con a b ≡ false → wnodes (arm a ps) + wnodes (arm b qs) ≤ m + 4)
    → ws_nodes (con_ways (family c) S u arm) ≤ m + 4
ways-few con.True S u arm m one two = let h = two con.True con.False (selectors con.True S u) (selectors con.False S u) refl in omega arith
ways-few con.False S u arm m one two = let h = two con.True con.False (selectors con.True S u) (selectors con.False S u) refl in omega arith
ways-few con.Empty S u arm m one two = let h = two con.Empty con.Full (selectors con.Empty S u) (selectors con.Full S u) refl in omega arith
ways-few con.Full S u arm m one two = let h = two con.Empty con.Full (selectors con.Empty S u) (selectors con.Full S u) refl in omega arith
ways-few con.Nil S u arm m one two = let h = two con.Nil con.Cons (selectors con.Nil S u) (selectors con.Cons S u) refl in omega arith
ways-few con.Cons S u arm m one two = let h = two con.Nil con.Cons (selectors con.Nil S u) (selectors con.Cons S u) refl in omega arith
ways-few con.Left S u arm m one two = let h = two con.Left con.Right (selectors con.Left S u) (selectors con.Right S u) refl in omega arith
ways-few con.Right S u arm m one two = let h = two con.Left con.Right (selectors con.Left S u) (selectors con.Right S u) refl in omega arith
ways-few con.Pair S u arm m one two = let h = one con.Pair (selectors con.Pair S u) in omega arith

pub dm-ways-few : (arms : DmArms) (S : Srt) (u : Tm) (arm : Con → List Tm → Wt) (m : ℕ)
    → ((a : Con) (ps : List Tm) → wnodes (arm a ps) ≤ m + 2)
    → ((a b : Con) (ps qs : List Tm) → same_con a b ≡ false → wnodes (arm a ps) + wnodes (arm b qs) ≤ m + 4)
    → ws_nodes (con_ways (dm_family arms) S u arm) ≤ m + 4
dm-ways-few d_end S u arm m one two = omega arith
dm-ways-few (d_arm c xs d more) S u arm m one two = ways-few c S u arm m one two

pub cm-ways-few : (arms : CmArms) (S : Srt) (u : Tm) (arm : Con → List Tm → Wt) (m : ℕ)
    → ((a : Con) (ps : List Tm) → wnodes (arm a ps) ≤ m + 2)
    → ((a b : Con) (ps qs : List Tm) → same_con a b ≡ false → wnodes (arm a ps) + wnodes (arm b qs) ≤ m + 4)
    → ws_nodes (con_ways (cm_family arms) S u arm) ≤ m + 4
cm-ways-few c_end S u arm m one two = omega arith
cm-ways-few (c_arm c xs body more) S u arm m one two = ways-few c S u arm m one two

-- ---- the translation

module _ (rf rg : Srt) (f g : Wt) where
  -- the bound for a text of this size that names them at so many places
  unfoldable pub fits : (size fs gs : ℕ) → ℕ
  fits s a b = 3 * s + a * wnodes f + b * wnodes g

  mutual
    unfolding fits

    pub star-few : (sc : Scope) (us : List Tm) (n : ℕ) (d : Dm) → wnodes (star rf rg f g sc us n d) ≤ fits (dm_size d) (names_f d) (names_g d)
    star-few sc us n (d_ret t) = let h = term-needs-few t us (w_post (put us t)) in omega arith
    star-few sc us n (d_let x d1 d2) =
        let S = dm_sort rf rg (map (sort_of sc.sorts) us) d1 in
        let h = star-few sc us n d1 in
        let k = star-few (under S sc) (t_var 0 ∷ map (shift 0 1) us) (suc n) d2 in
        omega arith
    star-few sc us n (d_if t d1 d2) =
        let h = star-few sc us n d1 in
        let k = star-few sc us n d2 in
        let l = term-needs-few t us (w_ways (w_way choice.Then (put us t) (star rf rg f g sc us n d1) (w_way choice.Else (negation (put us t)) (star rf rg f g sc us n d2) w_none))) in
        omega arith
    star-few sc us n (d_match t arms) =
        let l = term-needs-few t us (w_ways (con_ways (dm_family arms) (sort_of sc.sorts (put us t)) (put us t) (λ c parts. star_arm rf rg f g sc us n arms c parts))) in
        let o = tnodes-some t in
        let h = dm-ways-few arms (sort_of sc.sorts (put us t)) (put us t) (λ c parts. star_arm rf rg f g sc us n arms c parts) (fits (dm_arms_size arms) (arms_name_f arms) (arms_name_g arms))
        (λ a ps. one-arm-few sc us n arms a ps) (λ a b ps qs e. two-arms-few sc us n arms a b ps qs e) in
        omega arith
    star-few sc us n (d_run_f t) =
        let l = term-needs-few t us (w_then (w_post (put us t)) input_name (wshift 1 n f)) in
        let e = wnodes-shift f 1 n in
        let o = tnodes-some t in
        omega arith
    star-few sc us n (d_run_g t u) =
        let run = w_then (w_post (put us t)) value_name (w_then (w_post (shift 0 1 (put us u))) input_name (wshift 2 n g)) in
        let l = term-needs-few t us (term_needs u us run) in
        let k = term-needs-few u us run in
        let e = wnodes-shift g 2 n in
        let o = tnodes-some t in
        omega arith

    one-arm-few : (sc : Scope) (us : List Tm) (n : ℕ) (arms : DmArms) (a : Con) (ps : List Tm)
        → wnodes (star_arm rf rg f g sc us n arms a ps) ≤ fits (dm_arms_size arms) (arms_name_f arms) (arms_name_g arms) + 2
    one-arm-few sc us n d_end a ps = omega arith
    one-arm-few sc us n (d_arm c xs d more) a ps =
        let h = one-side (same_con c a) _ _ _ _ (star-few sc (reverse ps ++ us) n d) (one-arm-few sc us n more a ps) in
        omega arith

    two-arms-few : (sc : Scope) (us : List Tm) (n : ℕ) (arms : DmArms) (a b : Con) (ps qs : List Tm) → same_con a b ≡ false
        → wnodes (star_arm rf rg f g sc us n arms a ps) + wnodes (star_arm rf rg f g sc us n arms b qs) ≤ fits (dm_arms_size arms) (arms_name_f arms) (arms_name_g arms) + 4
    two-arms-few sc us n d_end a b ps qs e = omega arith
    two-arms-few sc us n (d_arm c xs d more) a b ps qs e =
        let h = two-sides (same_con c a) (same_con c b) _ _ _ _ _ _ (fits (dm_arms_size more) (arms_name_f more) (arms_name_g more) + 4) (apart c a b e)
        (star-few sc (reverse ps ++ us) n d) (star-few sc (reverse qs ++ us) n d) (one-arm-few sc us n more a ps) (one-arm-few sc us n more b qs) (omega arith) (two-arms-few sc us n more a b ps qs e) in
        omega arith

-- Raising keeps the size; the needs of a term are no more than its nodes.
use Rattle.std.proofs.Common.{◌≡◌, ℕ, suc, ◌+◌, ◌≤◌, Bool, true, false, if◌then◌else◌, List, [], ◌∷◌, ◌++◌, length, get_or, refl, ap, ap₂, ◌∙◌, arith}
use Rattle.fst_terms.specs.Terms.{Tm, Tms, t_var, t_int, t_bool, t_unit, t_prim, t_if, t_app, t_let, t_end, t_more, listed}
use Rattle.fst_terms.specs.Formulas.{negation}
use Rattle.fst_program.specs.Paths.{Division, is_division, divisions, all_divisions}
use Rattle.fst_star.specs.Transformers.{Wt, Wts, w_post, w_need, w_given, w_fresh, w_ways, w_hole, w_hole_tail, w_then, w_none, w_way, wshift, ws_shift}
use Rattle.fst_star.specs.Translation.{divisor_needs}
use Rattle.fst_star.specs.Size.{wnodes, ws_nodes, tnodes, all_tnodes}

mutual
  pub wnodes-shift : (w : Wt) (from by : ℕ) → wnodes (wshift from by w) ≡ wnodes w
  wnodes-shift (w_post t) from by = refl
  wnodes-shift (w_need phi m at w) from by = ap suc (wnodes-shift w from by)
  wnodes-shift (w_given phi w) from by = ap suc (wnodes-shift w from by)
  wnodes-shift (w_fresh x S w) from by = ap suc (wnodes-shift w (suc from) by)
  wnodes-shift (w_ways ws) from by = ap suc (ws-nodes-shift ws from by)
  wnodes-shift (w_hole h ts x w) from by = ap suc (wnodes-shift w (suc from) by)
  wnodes-shift (w_hole_tail h ts) from by = refl
  wnodes-shift (w_then w1 x w2) from by = ap suc (ap₂ ◌+◌ (wnodes-shift w1 from by) (wnodes-shift w2 (suc from) by))

  ws-nodes-shift : (ws : Wts) (from by : ℕ) → ws_nodes (ws_shift from by ws) ≡ ws_nodes ws
  ws-nodes-shift w_none from by = refl
  ws-nodes-shift (w_way c phi w more) from by = ap₂ ◌+◌ (wnodes-shift w from by) (ws-nodes-shift more from by)

pub needs-nodes : (ds : List Division) (us : List Tm) (w : Wt) → wnodes (divisor_needs ds us w) ≡ length ds + wnodes w
needs-nodes [] us w = omega arith
needs-nodes (d ∷ ds) us w = ap suc (needs-nodes ds us w) ∙ omega arith

length-++ : (ds es : List Division) → length (ds ++ es) ≡ length ds + length es
length-++ [] es = omega arith
length-++ (d ∷ ds) es = ap suc (length-++ ds es) ∙ omega arith

mutual
  pub divisions-few : (cs : List Tm) (t : Tm) → length (divisions cs t) ≤ tnodes t
  divisions-few cs (t_var i) = omega arith
  divisions-few cs (t_int n) = omega arith
  divisions-few cs (t_bool b) = omega arith
  divisions-few cs t_unit = omega arith
  divisions-few cs (t_prim o S ts at) =
      let p = all-divisions-few cs ts in
      let q = length-++ (all_divisions cs ts) (if is_division o then record { conditions = cs; divisor = get_or (listed ts) 1 t_unit; place = at } ∷ [] else []) in
      let r = go (is_division o) in
      omega arith
    where
      go : (b : Bool) → length {A = Division} (if b then record { conditions = cs; divisor = get_or (listed ts) 1 t_unit; place = at } ∷ [] else []) ≤ 1
      go true = omega arith
      go false = omega arith
  divisions-few cs (t_if c t u) =
      let p = divisions-few cs c in
      let q = divisions-few (cs ++ c ∷ []) t in
      let r = divisions-few (cs ++ negation c ∷ []) u in
      let l1 = length-++ (divisions cs c) (divisions (cs ++ c ∷ []) t) in
      let l2 = length-++ (divisions cs c ++ divisions (cs ++ c ∷ []) t) (divisions (cs ++ negation c ∷ []) u) in
      omega arith
  divisions-few cs (t_app k S ts) = let p = all-divisions-few cs ts in omega arith
  divisions-few cs (t_let x t u) = omega arith

  pub all-divisions-few : (cs : List Tm) (ts : Tms) → length (all_divisions cs ts) ≤ all_tnodes ts
  all-divisions-few cs t_end = omega arith
  all-divisions-few cs (t_more t ts) =
      let p = divisions-few cs t in
      let q = all-divisions-few cs ts in
      let l = length-++ (divisions cs t) (all_divisions cs ts) in
      omega arith

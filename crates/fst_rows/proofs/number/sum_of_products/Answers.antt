use Rattle.std.proofs.Common.{◌≡◌, ℤ, Result, Ok, Err, not, true, false, ◌+ℤ◌, ◌*ℤ◌, MatchResult, refl, FitsSigned, rules}
use Rattle.std.proofs.lemmas.Int.{to_z-of_z}
use mir.Syntax.{w128}
use Rattle.fst_base.specs.Primitives.{in128}
use Rattle.fst_rows.specs.Sums.{is_wide_sum}
use Rattle.fst_rows.proofs.number.sum_of_products.Goals as goal

sum_of-products : {E : Type 0} (r : Result ℤ E) (p m q n a b : ℤ) → (a ≡ p *ℤ m) × (not (in128 (p *ℤ m)) ≡ false) → (b ≡ q *ℤ n) × (not (in128 (q *ℤ n)) ≡ false)
    → MatchResult r (λ s. (s ≡ a +ℤ b) × (not (in128 (a +ℤ b)) ≡ false)) (λ _. not (in128 (a +ℤ b)) ≡ true)
    → MatchResult r (λ s. (s ≡ p *ℤ m +ℤ q *ℤ n) × (is_wide_sum p m q n ≡ false)) (λ _. is_wide_sum p m q n ≡ true)
sum_of-products (Err x) p m q n a b e f h = let g = rw (e.0, f.0) at h in rw (e.1, f.1, g) refl
sum_of-products (Ok s) p m q n a b e f h = let g = rw (e.0, f.0) at h in (g.0, rw (e.1, f.1, g.1) refl)

pub returns : goal.returns
returns c =
    let f : FitsSigned w128 c.in_ok-left.left = search rules in
    let g : FitsSigned w128 c.in_ok-right.right = search rules in
    let h = simp to_z-of_z at c.sum.ensures in
    let fp = c.ranges.p in
    let fm = c.ranges.m in
    let fq = c.ranges.q in
    let fn = c.ranges.n in
    let k = simp to_z-of_z at c.in_ok-left.ensures in
    let l = simp to_z-of_z at c.in_ok-right.ensures in
    sum_of-products c.sum.result c.args.p c.args.m c.args.q c.args.n _ _ k l h

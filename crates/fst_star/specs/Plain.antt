-- The plain trees of transformers, and of the terms that stand for variables.
use Rattle.std.specs.Prelude.{List, [], ◌∷◌, map, reverse}
use Rattle.fst_base.specs.Sorts.{plain_sort}
use Rattle.fst_terms.specs.Terms.{Tm, plain_term}
use Rattle.fst_terms.specs.declared.term.Term.{Term}
use Rattle.fst_star.specs.declared.wp.Way.{Way}
use Rattle.fst_star.specs.declared.wp.Which.{Which}
use Rattle.fst_star.specs.declared.wp.Which.TheVariants as which
use Rattle.fst_star.specs.declared.wp.Wp.{Wp, fold-Wp}
use Rattle.fst_star.specs.declared.wp.Wp.TheOpen.{Wp-F}
use Rattle.fst_star.specs.Transformers.{Which as Hole, hole_f, hole_g, Wt, Wts, w_post, w_need, w_given, w_fresh, w_ways, w_hole, w_hole_tail, w_then, w_none, w_way}

abbrev pub plain_which : Which → Hole
plain_which which.F = hole_f
plain_which which.G = hole_g

abbrev pub ways_layer : List (Way Wt) → Wts
ways_layer [] = w_none
ways_layer (way ∷ more) = w_way way.choice (plain_term way.given) way.rest (ways_layer more)

abbrev pub wp_layer : Wp-F Wt → Wt
wp_layer (Wp-F.Post t) = w_post (plain_term t)
wp_layer (Wp-F.Need phi m at w) = w_need (plain_term phi) m at.at w
wp_layer (Wp-F.Given phi w) = w_given (plain_term phi) w
wp_layer (Wp-F.Fresh x S w) = w_fresh x (plain_sort S) w
wp_layer (Wp-F.Ways ws) = w_ways (ways_layer ws)
wp_layer (Wp-F.Hole h ts x w) = w_hole (plain_which h) (map plain_term ts) x w
wp_layer (Wp-F.HoleTail h ts) = w_hole_tail (plain_which h) (map plain_term ts)
wp_layer (Wp-F.Then w1 x w2) = w_then w1 x w2

-- the plain tree of a transformer
abbrev pub plain_wp : Wp → Wt
plain_wp = fold-Wp Wt wp_layer

-- the plain trees of these ways
abbrev pub plain_ways : List (Way Wp) → Wts
plain_ways [] = w_none
plain_ways (way ∷ more) = w_way way.choice (plain_term way.given) (plain_wp way.rest) (plain_ways more)

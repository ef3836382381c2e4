-- Lists that are written out from their end.
use Rattle.std.proofs.Common.{◌≡◌, List, [], ◌∷◌, ◌++◌, refl, ap}
use Rattle.fst_base.specs.declared.op.Op.TheVariants as op
use Rattle.fst_base.specs.declared.place.Pos.{Pos}
use Rattle.fst_syntax.specs.Trees.{Tree, binary, nullary, listed}

-- the items before a list
abbrev pub onto : Pos → List Tree → Tree → Tree
onto p [] list = list
onto p (a ∷ more) list = binary op.Cons p a (onto p more list)

pub listed-onto : (p : Pos) (items : List Tree) → listed p items ≡ onto p items (nullary op.Nil p)
listed-onto p [] = refl
listed-onto p (a ∷ more) = ap (binary op.Cons p a) (listed-onto p more)

pub onto-last : (p : Pos) (items : List Tree) (a list : Tree) → onto p (items ++ (a ∷ [])) list ≡ onto p items (binary op.Cons p a list)
onto-last p [] a list = refl
onto-last p (b ∷ more) a list = ap (binary op.Cons p b) (onto-last p more a list)

pub ruleset steps = (listed-onto, onto-last)

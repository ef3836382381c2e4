-- Formulas as they are read under marks.
use Rattle.std.specs.Prelude.{◌≡◌, ℕ, zero, suc, ◌+◌, ◌≤◌, Bool, List, length, Option, Some, None, option_map}
use Rattle.fst_shapes.specs.declared.shapes.Shape.{Shape, fold-Shape}
use Rattle.fst_shapes.specs.declared.shapes.Shape.TheOpen.{Shape-F}
use Rattle.fst_terms.specs.Flats.{truth_of}
use Rattle.fst_terms.specs.declared.flat.Mark.{Mark}
use Rattle.fst_terms.specs.Marks.{Marking, marks_of}
use Rattle.fst_terms.specs.Skeletons.{chosen, agree}
use Rattle.fst_cases.specs.Cited.{rank_of, want_at}
use Rattle.fst_cases.specs.Knowing.{Falls, look_of}
use Rattle.fst_cases.specs.Refuting.{Within}
use Rattle.fst_cases.specs.declared.cores.Want.{Want}
use Rattle.fst_cases.specs.declared.known.Known.{Known}

-- a shape as a plain tree
pub data Shp : Type 0 where
  p_truth : Bool → Shp
  p_atom : ℕ → Shp
  p_if : Shp → Shp → Shp → Shp
  p_same : Shp → Shp → Shp

abbrev pub shape_layer : Shape-F Shp → Shp
shape_layer (Shape-F.Truth b) = p_truth b
shape_layer (Shape-F.Atom a) = p_atom a
shape_layer (Shape-F.If c p q) = p_if c p q
shape_layer (Shape-F.Same p q) = p_same p q

abbrev pub plain_shape : Shape → Shp
plain_shape = fold-Shape Shp shape_layer

-- the truth value of the atom of this number
abbrev pub truth_at : Marking → ℕ → Option Bool
truth_at look a = option_map truth_of (elim a [ zero ↦ None | suc n ↦ look (suc n) ])

-- the value of a shape, where `look` gives that of an atom that has one
abbrev pub shape_value : (look : ℕ → Option Bool) → Shp → Option Bool
shape_value look (p_truth b) = Some b
shape_value look (p_atom a) = look a
shape_value look (p_if c p q) = chosen (shape_value look c) (shape_value look p) (shape_value look q)
shape_value look (p_same p q) = agree (shape_value look p) (shape_value look q)

abbrev pub value_under : Marking → Shp → Option Bool
value_under look s = shape_value (truth_at look) s

-- the marking has the truth value of each mark that is read
abbrev pub HasRead : List Want → List Mark → Marking → Type 0
HasRead ws ms core = (a : ℕ) → 1 ≤ rank_of (want_at ws a) → option_map truth_of (core a) ≡ option_map truth_of (marks_of ms a)

-- the marks that are read give the shape its value
abbrev pub Shows : List Want → List Mark → Shp → Type 0
Shows ws ms s = (core : Marking) (b : Bool) → HasRead ws ms core → value_under (marks_of ms) s ≡ Some b → value_under core s ≡ Some b

-- marks of a branch that give the shape its value
pub record ShapeCore (ms : List Mark) (core : List Known) (s : Shp) : Type 0 where
  pub falls : Falls (length ms + 1) core
  pub within : Within (look_of core) (marks_of ms)
  pub shows : (b : Bool) → value_under (marks_of ms) s ≡ Some b → value_under (look_of core) s ≡ Some b

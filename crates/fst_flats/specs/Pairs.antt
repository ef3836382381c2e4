-- The pair that a component is taken of.
use Rattle.std.specs.Prelude.{Option, None}
use Rattle.fst_base.specs.declared.op.Op.TheVariants as op
use Rattle.fst_flats.specs.Preparing.{only}
use Rattle.fst_terms.specs.Terms.{Tm, t_prim}

abbrev pub paired : Tm → Option Tm
paired (t_prim op.Fst S ts at) = only ts
paired (t_prim op.Snd S ts at) = only ts
paired _ = None

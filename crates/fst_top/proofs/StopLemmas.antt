-- A step that stops where one of its own steps does.
use Rattle.std.proofs.Common.{◌≡◌, Option, None, Err}
use Rattle.fst_top.specs.declared.elaborate.stop.Stop.{Stop}
use Rattle.fst_top.specs.declared.elaborate.stop.Stop.TheVariants as stop
use Rattle.fst_top.specs.Elaborating.{Gives}

pub gives-stop : {A B C D : Type 0} (first : A → B) (whole : C → D) (p : Option B) (o : Option D) (s : Stop) → (p ≡ None → o ≡ None) → Gives first p (Err s) → Gives whole o (Err s)
gives-stop first whole p o stop.NotBuilt h g = h g
gives-stop first whole p o stop.NoMemory h g = tt

-- What uses of names stand for.
use Rattle.std.proofs.Common.{◌≡◌, ℕ, Bool, Option, Some, None, refl}
use Rattle.fst_trees.specs.declared.word.Word.{Word}
use Rattle.fst_names.specs.Names.{Globals, Before, FunHead, fun_use, fun_from, called_fun, applied_fun}

-- what a function stands for doesn't depend on which functions are in time
same-use : (G : Globals) (b : Before) (f g : FunHead → Bool) (w : Word) (o : Option (ℕ × FunHead)) → (fun_use G b f w o).reference ≡ (fun_use G b g w o).reference
same-use G b f g w None = refl
same-use G b f g w (Some p) = refl

pub called-applied : (G : Globals) (b : Before) (w : Word) → (called_fun G b w).reference ≡ (applied_fun G b w).reference
called-applied G b w = same-use G b _ _ w (fun_from 0 w.text G.funs)

pub ruleset calls = (called-applied)

-- What a step that makes a term gives.
use Rattle.std.specs.Prelude.{◌≡◌, Result, IfOk}
use Rattle.fst_base.specs.declared.memory.OutOfMemory.{OutOfMemory}
use Rattle.fst_terms.specs.Terms.{Tm, plain_term}
use Rattle.fst_terms.specs.declared.term.Term.{Term}

-- what is made, where there is memory, is a term of this plain tree
unfoldable pub Makes : Result Term OutOfMemory → Tm → Type 0
Makes r t = IfOk r (λ made. plain_term made ≡ t)

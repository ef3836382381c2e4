-- At most one answer to a text.
use Rattle.std.specs.Prelude.{◌≡◌, ℕ, List}
use Rattle.fst_base.specs.declared.place.Pos.{Pos}
use Rattle.fst_base.specs.declared.rule.Rule.{Rule}
use Rattle.fst_trees.specs.declared.word.Word.{Word}
use Rattle.fst_trees.specs.declared.decl.Decl.{Decl}
use Rattle.fst_syntax.specs.Program.{IsProgram, IsRefused}

-- a text is at most one program or is refused at most once, and not both
pub record OneReading (bytes : List ℕ) : Type 0 where
  pub one_program : (a b : List (Decl Word)) → IsProgram bytes a → IsProgram bytes b → a ≡ b
  pub not_both : (a : List (Decl Word)) (r : Rule) (p : Pos) → IsProgram bytes a → IsRefused bytes r p → ⊥
  pub one_refusal : (r q : Rule) (p o : Pos) → IsRefused bytes r p → IsRefused bytes q o → (r ≡ q) × (p ≡ o)

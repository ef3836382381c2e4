-- Classes of terms by labels, with a reason for each label; partitions that are closed under the rules of congruence.
use Rattle.std.specs.Prelude.{◌≡◌, ◌⊎◌, ℕ, ◌+◌, ◌<◌, ◌^◌, List, [], ◌∷◌, length, get_or, nat_eq, if◌then◌else◌, false, Contains}
use Rattle.fst_congruence.specs.declared.classes.Classes.{Classes}
use Rattle.fst_congruence.specs.declared.equation.Equation.{Equation}
use Rattle.fst_congruence.specs.declared.node.Node.{Node}
use Rattle.fst_congruence.specs.declared.why.Why.{Why}
use Rattle.fst_congruence.specs.Joined.{arg_at, arity, Alike, SameConstructor}
use Rattle.fst_congruence.specs.Lines.{Because, Extends}

-- the label of term i
abbrev pub label_at : List ℕ → ℕ → ℕ
label_at labels i = get_or labels i 0

-- why term i equals its label
abbrev pub why_at : List Why → ℕ → Why
why_at whys i = get_or whys i (record { line = 0; turned = false })

-- the terms under a label
abbrev pub under : List (List ℕ) → ℕ → List ℕ
under members l = get_or members l []

-- each term has a label, which is the number of a term with that label, and a reason for it in the log
pub record Labelled (labels : List ℕ) (whys : List Why) (log : List Equation) : Type 0 where
  pub few : length labels < 2 ^ 32
  pub count : length whys ≡ length labels
  pub small : (i : ℕ) → i < length labels → label_at labels i < length labels
  pub rooted : (i : ℕ) → i < length labels → label_at labels (label_at labels i) ≡ label_at labels i
  pub reasons : (i : ℕ) → i < length labels → Because log (why_at whys i) i (label_at labels i)

-- each term is its own label or stands under its label, and what stands there are terms
pub record Listed (labels : List ℕ) (members : List (List ℕ)) : Type 0 where
  pub count : length members ≡ length labels
  pub all : (i : ℕ) → i < length labels → (i ≡ label_at labels i) ⊎ Contains (under members (label_at labels i)) i
  pub terms : (l k : ℕ) → k < length (under members l) → get_or (under members l) k 0 < length labels

-- what classes keep
pub record Sound (c : Classes) : Type 0 where
  pub labelled : Labelled c.labels c.whys c.log
  pub listed : Listed c.labels c.members

-- the label that takes the place of this one where the class of `from` is put into that of `to`
abbrev pub moved : (from to : ℕ) → ℕ → ℕ
moved from to l = if nat_eq l from then to else l

-- labels are moved; each term has a reason for its label
pub record Relabelled (old new : List ℕ) (whys : List Why) (log : List Equation) (from to : ℕ) : Type 0 where
  pub labels_count : length new ≡ length old
  pub whys_count : length whys ≡ length old
  pub done : (i : ℕ) → i < length old → label_at new i ≡ moved from to (label_at old i)
  pub reasons : (i : ℕ) → i < length old → Because log (why_at whys i) i (label_at new i)

-- some labels are moved, among them those of the first n of these terms
pub record Relabelling (old new : List ℕ) (whys : List Why) (log : List Equation) (terms : List ℕ) (from to n : ℕ) : Type 0 where
  pub labels_count : length new ≡ length old
  pub whys_count : length whys ≡ length old
  pub each : (i : ℕ) → i < length old → (label_at new i ≡ label_at old i) ⊎ (label_at new i ≡ moved from to (label_at old i))
  pub done : (k : ℕ) → k < n → label_at new (get_or terms k 0) ≡ from → ⊥
  pub reasons : (i : ℕ) → i < length old → Because log (why_at whys i) i (label_at new i)

-- one more label is moved, where it has to be
pub record RelabelsOne (before after : Classes) (term from to : ℕ) : Type 0 where
  pub grown : Extends before.log after.log
  pub members : after.members ≡ before.members
  pub count : length after.labels ≡ length before.labels
  pub more : (old terms : List ℕ) (n : ℕ) → Relabelling old before.labels before.whys before.log terms from to n → term ≡ get_or terms n 0 → Relabelling old after.labels after.whys after.log terms from to (n + 1)

-- the log has grown, and nothing else has changed
pub record After (old new : Classes) : Type 0 where
  pub labels : new.labels ≡ old.labels
  pub whys : new.whys ≡ old.whys
  pub members : new.members ≡ old.members
  pub grown : Extends old.log new.log

-- 1 for a label that is the number of its term
abbrev pub root_mark : (label i : ℕ) → ℕ
root_mark l i = if nat_eq l i then 1 else 0

-- how many of these labels are the numbers of their terms, the first of which has the number i
abbrev pub roots_from : ℕ → List ℕ → ℕ
roots_from i [] = 0
roots_from i (l ∷ ls) = root_mark l i + roots_from (i + 1) ls

-- the number of classes
abbrev pub roots : List ℕ → ℕ
roots labels = roots_from 0 labels

-- two classes were joined
pub record Joins (old new : Classes) : Type 0 where
  pub sound : Sound new
  pub count : length new.labels ≡ length old.labels
  pub fewer : roots new.labels < roots old.labels
  pub grown : Extends old.log new.log

-- the arguments of two terms have the same labels in order
abbrev pub ArgsLabelled : List Node → List ℕ → ℕ → ℕ → Type 0
ArgsLabelled ns labels i j = (k : ℕ) → k < arity ns i → label_at labels (arg_at ns i k) ≡ label_at labels (arg_at ns j k)

-- the parts of two terms have the same labels in order
abbrev pub PartsLabelled : List Node → List ℕ → ℕ → ℕ → Type 0
PartsLabelled ns labels i j = (k : ℕ) → k < arity ns i → k < arity ns j → label_at labels (arg_at ns i k) ≡ label_at labels (arg_at ns j k)

-- congruence has nothing to join at these two terms
abbrev pub ArgsClosed : List Node → List ℕ → ℕ → ℕ → Type 0
ArgsClosed ns labels i j = Alike ns i j → ArgsLabelled ns labels i j → label_at labels i ≡ label_at labels j

-- injectivity has nothing to join at their parts
abbrev pub PartsClosed : List Node → List ℕ → ℕ → ℕ → Type 0
PartsClosed ns labels i j = label_at labels i ≡ label_at labels j → SameConstructor ns i j → PartsLabelled ns labels i j

-- the rules find nothing to join at all
pub record IsClosed (ns : List Node) (es : List Equation) (labels : List ℕ) : Type 0 where
  pub given : (e : Equation) → Contains es e → label_at labels e.left ≡ label_at labels e.right
  pub args : (i j : ℕ) → i < length ns → j < length ns → ArgsClosed ns labels i j
  pub parts : (i j : ℕ) → i < length ns → j < length ns → PartsClosed ns labels i j

-- What the steps of the top call give.
use Rattle.std.specs.Prelude.{◌≡◌, ◌⊎◌, ◌<◌, ℕ, List, Option, Some, None, take}
use Rattle.fst_outside.specs.Outside.{Rose, with_name, with_piece}
use Rattle.fst_top.specs.Answers.{Command, file_of, DueTo}
use Rattle.fst_top.specs.Printed.{read_fault_text}
use Rattle.fst_top.specs.declared.status.Status.{Status}
use Rattle.fst_top.specs.declared.status.Status.TheVariants as status

-- nothing was fetched, or the command's file once
abbrev pub Fetched : Option Command → (old new : Option (List (List ℕ))) → Type 0
Fetched c old new = (new ≡ old) ⊎ ((file : List ℕ) × ((file_of c ≡ Some file) × (new ≡ with_name old file)))

-- a fetch failed and this is said
abbrev pub SaysFault : Option Command → (failed : Type 0) → (status : ℕ) → (printed : List ℕ) → Type 0
SaysFault c failed status printed = failed × (status ≡ 7) × (printed ≡ read_fault_text)

-- the answer says that a fetch failed, or it is the one that is due
abbrev pub Given : Option Command → (given : List ℕ → List ℕ) → (failed : Type 0) → (status : ℕ) → (printed : List ℕ) → Type 0
Given c given failed status printed = SaysFault c failed status printed ⊎ ((status < 7) × DueTo c given status printed)

-- a put wrote the text, or a front of it and failed, or nothing for want of memory
abbrev pub Delivered : (old new : Option (List ℕ)) → (failed : Type 0) → (text : List ℕ) → (wanted ended : Status) → Type 0
Delivered old new failed text wanted ended =
    ((ended ≡ wanted) × (new ≡ with_piece old text))
    ⊎ ((ended ≡ status.WriteFault) × (failed × ((n : ℕ) × (new ≡ with_piece old (take n text)))))
    ⊎ ((ended ≡ status.NoMemory) × (new ≡ old))

-- The shelves and sinks in memory.
use Rattle.std.specs.Prelude.{ℕ, ◌+◌, ◌-◌, ◌^◌, ◌==◌, min, nat_lt, List, [], ◌∷◌, ◌++◌, Option, Some, None, Result, Ok, Err, length, take, bytes_eq, unwrap_or, if◌then◌else◌}
use Rattle.std.specs.List.{list_any}
use Rattle.fst_outside.specs.declared.fault.FetchFault.{FetchFault}
use Rattle.fst_outside.specs.declared.fault.FetchFault.TheVariants.{Failed, TooLong}
use Rattle.fst_outside.specs.declared.file.File.{File}
use Rattle.fst_outside.specs.declared.memory_sink.Fail.{Fail}

-- the bytes of the first file of the name
abbrev pub bytes_of : List File → List ℕ → Option (List ℕ)
bytes_of [] name = None
bytes_of (file ∷ files) name = if bytes_eq file.name name then Some file.bytes else bytes_of files name

-- the same, where a name that is not held has the empty file
abbrev pub bytes_or_none : List File → List ℕ → List ℕ
bytes_or_none files name = unwrap_or (bytes_of files name) []

-- the bytes, where they are at most the limit
abbrev pub up_to : ℕ → List ℕ → Result (List ℕ) FetchFault
up_to limit bytes = if nat_lt limit (length bytes) then Err TooLong else Ok bytes

-- a shelf in memory; its fetches are numbered from 0 by the names that were fetched
pub record ShelfState : Type 0 where
  pub files : List File
  pub failing : List ℕ
  pub fetched : List (List ℕ)
  pub faults : ℕ

-- the bytes of the file of a name, if there is one
abbrev pub held_up_to : ℕ → Option (List ℕ) → Result (List ℕ) FetchFault
held_up_to limit None = Err Failed
held_up_to limit (Some bytes) = up_to limit bytes

-- what the next fetch answers, if there is memory
abbrev pub answer : ShelfState → List ℕ → ℕ → Result (List ℕ) FetchFault
answer s name limit = if list_any (λ n. n == length s.fetched) s.failing then Err Failed else held_up_to limit (bytes_of s.files name)

-- one more fault after a failure
abbrev pub faults_after : Result (List ℕ) FetchFault → ℕ → ℕ
faults_after (Err Failed) faults = faults + 1
faults_after _ faults = faults

-- the shelf after a fetch with this answer
abbrev pub fetched_once : ShelfState → List ℕ → Result (List ℕ) FetchFault → ShelfState
fetched_once s name result = record s { fetched = s.fetched ++ name ∷ []; faults = faults_after result s.faults }

-- a shelf that never fails
pub record SteadyState : Type 0 where
  pub files : List File
  pub fetched : List (List ℕ)

-- how many bytes the call of this number keeps, where it is to fail: the first entry of a call counts
abbrev pub kept_of : List Fail → ℕ → Option ℕ
kept_of [] call = None
kept_of (fail ∷ failing) call = if fail.call == call then Some fail.kept else kept_of failing call

-- the number of the call after this one; it stays at the last number of 64 bits
abbrev pub next_call : ℕ → ℕ
next_call call = min (call + 1) (2 ^ 64 - 1)

-- the number of calls, which is told below the last number
abbrev pub calls_told : ℕ → Option ℕ
calls_told calls = if nat_lt calls (2 ^ 64 - 1) then Some calls else None

-- a sink in memory; its calls are numbered from 0
pub record SinkState : Type 0 where
  pub failing : List Fail
  pub written : List ℕ
  pub calls : ℕ
  pub faults : ℕ

-- the sink after a put that keeps so many bytes and fails, or keeps the piece
abbrev pub put_keeping : Option ℕ → SinkState → List ℕ → SinkState
put_keeping None s piece = record s { written = s.written ++ piece; calls = next_call s.calls }
put_keeping (Some kept) s piece = record s { written = s.written ++ take kept piece; calls = next_call s.calls; faults = s.faults + 1 }

-- the sink after a put, if there is memory
abbrev pub put_once : SinkState → List ℕ → SinkState
put_once s piece = put_keeping (kept_of s.failing s.calls) s piece

-- a sink that never fails
pub record SteadySinkState : Type 0 where
  pub written : List ℕ
  pub calls : ℕ

-- Writing several records, one after another: what is handed in for a record, and what the calls come to.
-- Assumes nothing.
use Rattle.std.specs.Prelude.{List, [], ◌∷◌, ℕ, Result, Ok, Err}
use Rattle.records.specs.declared.Record.{Record}
use Rattle.writer.specs.Append.{answer_of, buffer_of}
use Rattle.handing.specs.Handing.{handed_in, numbers_of}
use Rattle.tests.specs.declared.Refusal.{Refusal}

-- what some calls came to: the answer, and the buffer afterwards
pub record Calls : Type 0 where
  pub answer : Result ℕ Refusal
  pub buffer : List ℕ

abbrev pub calls : Result ℕ Refusal → List ℕ → Calls
calls w b = record { answer = w; buffer = b }

-- the answer w and the buffer b of a call; after a success the further calls, by the function `more`
unfoldable pub and_then : Result ℕ Refusal → List ℕ → (List ℕ → ℕ → Calls) → Calls
and_then (Err f) b more = calls (Err f) b
and_then (Ok end) b more = more b end

-- the records rs appended one after another behind `used` bytes of the buffer b; a refusal ends it
unfoldable pub write_all : List Record → List ℕ → ℕ → Calls
write_all [] b used = calls (Ok used) b
write_all (r ∷ rs) b used =
    let x = handed_in used r.kind (numbers_of r) in
    and_then (answer_of b used x) (buffer_of b used x) (write_all rs)

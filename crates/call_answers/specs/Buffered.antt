-- What a contract reads of a `Buffered`.
use Rattle.std.specs.Prelude.{ℕ, List, Option}
use Rattle.std.specs.Io.KnownBytes.{append_known}
use Rattle.call_answers.specs.declared.buffered.Buffered.{Buffered}

-- the bytes that are held back
abbrev pub held_bytes : {W : Type 0} → Buffered W → List ℕ
held_bytes buffered = buffered.held.items

-- the writer's bytes, where those are known, and then those that are held back
abbrev pub bytes_of : {W : Type 0} → (W → Option (List ℕ)) → Buffered W → Option (List ℕ)
bytes_of contents buffered = append_known (contents buffered.writer) (held_bytes buffered)

-- The bytes so far are appended.
use Rattle.std.proofs.Common.{take}
use Rattle.std.specs.Io.KnownBytes.{Appends}
use Rattle.call_answers.specs.Buffered.{bytes_of}
use Rattle.call_answers.proofs.buffered.BufferedWrite.write_str.Given as goal

abbrev pub invariant-loop-byte : goal.invariant-loop-byte
invariant-loop-byte g l = Appends (bytes_of g.W.Write.contents l.initial.self) (bytes_of g.W.Write.contents l.self) (take l.byte-index l.text)

-- Each turn takes a line's end from the input.
use Rattle.std.proofs.Common.{length}
use Rattle.calls.proofs.serve.Calls.answer_lines.Given as goal

abbrev pub decreases-loop-behind : goal.decreases-loop-behind
decreases-loop-behind g l = length l.rest

use mathlib.Core.Path.{◌∙◌}
use Rattle.raw_table.proofs.WordLaws.{same_pairs}
use Rattle.raw_table.proofs.search.same_few.Goals as goal

pub returns : goal.returns
returns c = c.eq.ensures ∙ same_pairs c.args.a.now c.args.b.now

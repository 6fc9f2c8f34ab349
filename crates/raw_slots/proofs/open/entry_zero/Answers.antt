-- The bytes that are looked at are the slot's whole entry.
use Rattle.std.proofs.Common.{rules, tests, ap, ◌∙◌, eqb}
use Rattle.std.proofs.lemmas.Iterator.{YieldsList-from_slice}
use Rattle.std.proofs.lemmas.Iterator.Search.{all_from_yields_List}
use Rattle.rules.specs.First.{each_of}
use Rattle.rules.specs.Rows.{is_zero}
use Rattle.raw_slots.proofs.FindLaws.{each_of_list}
use Rattle.raw_slots.proofs.open.entry_zero.Goals as goal

pub returns : goal.returns
unfolding is_zero
returns c =
    all_from_yields_List (λ b. eqb b 0) _ _ c.all.result c.all.ensures.ran (YieldsList-from_slice _ c.iter.ensures.rest) (λ x b q k. search (rules, tests))
    ∙ each_of_list (λ b. eqb b 0) _
    ∙ ap (each_of (λ b. eqb b 0)) c.entry-entry.ensures

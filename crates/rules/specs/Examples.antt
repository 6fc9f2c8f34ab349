-- The starred desk examples of document 01: for each, what the rules give and what the document says.
use Rattle.std.specs.Prelude.{ℕ, List, [], ◌∷◌, ◌++◌, replicate}
use Rattle.rules.specs.Layout.{total}
use Rattle.rules.specs.Hash.{hash_of, tag_of, start_of}
use Rattle.rules.specs.Group.{reports, positions}

pub record Example : Type 0 where
  pub given : List ℕ
  pub stated : List ℕ

-- the hash, the tag and, among 16 slots, the start of a key
abbrev placed : List ℕ → List ℕ
placed key = hash_of key ∷ tag_of key ∷ start_of 16 key ∷ []

-- the positions that the query for the tag 05 reports
abbrev reported : List ℕ → List ℕ
reported group = positions 0 (reports 0x05 group)

unfoldable pub examples : List Example
examples =
    record { given = placed (0x01 ∷ []); stated = 0x27220a95 ∷ 0x13 ∷ 5 ∷ [] }
    ∷ record { given = placed (0x03 ∷ []); stated = 0x75661fbf ∷ 0x3a ∷ 15 ∷ [] }
    ∷ record { given = placed (0x11 ∷ []); stated = 0x9942b3e5 ∷ 0x4c ∷ 5 ∷ [] }
    ∷ record { given = placed (0x13 ∷ []); stated = 0xe786c90f ∷ 0x73 ∷ 15 ∷ [] }
    ∷ record { given = hash_of (0x00 ∷ []) ∷ []; stated = 0 ∷ [] }
    ∷ record { given = hash_of (0x00 ∷ 0x00 ∷ 0x01 ∷ []) ∷ []; stated = 0x27220a95 ∷ [] }
    ∷ record { given = hash_of (0x01 ∷ replicate 7 0x00) ∷ []; stated = 0x27220a95 ∷ [] }
    ∷ record { given = hash_of (replicate 8 0x00 ++ (0x01 ∷ replicate 3 0x00)) ∷ []; stated = 0x27220a95 ∷ [] }
    ∷ record { given = reported (0x05 ∷ 0x04 ∷ replicate 6 0x14); stated = 0 ∷ 1 ∷ [] }
    ∷ record { given = reported (0x04 ∷ 0x05 ∷ replicate 6 0x14); stated = 1 ∷ [] }
    ∷ record { given = reported (0x05 ∷ 0x04 ∷ 0x04 ∷ replicate 5 0x14); stated = 0 ∷ 1 ∷ 2 ∷ [] }
    ∷ record { given = total 1 1 16 ∷ []; stated = 96 ∷ [] }
    ∷ record { given = total 8 4 16 ∷ []; stated = 256 ∷ [] }
    ∷ record { given = total 255 255 65536 ∷ []; stated = 33488944 ∷ [] }
    ∷ []

-- What a contract sees of a `Line`: its bytes, or nothing where it is too long.
use Rattle.std.specs.Prelude.{ℕ, ◌+◌, ◌==◌, List, ◌++◌, length, take, Option, None, Some, nat_le, if◌then◌else◌, position}
use Rattle.std.specs.Option.{unwrap_or}

-- the bytes before the first newline; all of them if there is none
abbrev pub first_line : List ℕ → List ℕ
first_line bytes = take (unwrap_or (position (λ b. b == 10) bytes) (length bytes)) bytes

-- a line with more bytes behind it, under a limit
abbrev pub extended : ℕ → Option (List ℕ) → List ℕ → Option (List ℕ)
extended limit None more = None
extended limit (Some bytes) more = if nat_le (length bytes + length more) limit then Some (bytes ++ more) else None

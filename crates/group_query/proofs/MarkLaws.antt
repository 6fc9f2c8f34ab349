-- Going through the marks of a word, lowest first, for any width; and what the marks of empty positions tell of the first one.
-- By induction over the marks; a word that is not 0 has one. Assumes nothing.
use Rattle.std.proofs.Common.{◌≡◌, ℕ, zero, suc, ◌+◌, ◌-◌, ◌*◌, ◌/◌, ◌%◌, ◌^◌, ◌<◌, Bool, true, false, not, ◌&&◌, eqb, List, [], ◌∷◌, length, get_or, sym, refl, ap, ◌∙◌, ap₂, add-zero, add-suc, suc-add, zero-add, mul-one, arith, lit<, ne_eqb}
use mathlib.Core.Option.{Option, none, some}
use lib.Bits.{bit_and, and_block, and_self, shifted_half, shifted_even}
use lib.Count.{count_trailing_zeros, under}
use Rattle.rules.specs.Bytes.{byte_at}
use Rattle.rules.specs.First.{numbers, first_of, each_of, some_of}
use Rattle.rules.specs.Layout.{is_empty}
use Rattle.rules.specs.Group.{positions, first_empty}
use Rattle.group_query.specs.Marks.{bit, word, empties, others}

-- the lowest marked position, or the width where there is none
pub lowest : List Bool → ℕ
lowest [] = 0
lowest (true ∷ ms) = 0
lowest (false ∷ ms) = suc (lowest ms)

pub lowest_lt : (ms : List Bool) → 0 < word ms → lowest ms < length ms
unfolding lowest word
lowest_lt [] h = absurd (omega arith)
lowest_lt (true ∷ ms) h = omega arith
lowest_lt (false ∷ ms) h = omega (arith, lowest_lt ms (omega arith))

-- ---- where the lowest mark stands: its bit is the lowest of the word

shifted : (j k m : ℕ) → count_trailing_zeros (j + k) (m * 2 ^ j) ≡ j + count_trailing_zeros k m
unfolding count_trailing_zeros
shifted zero k m = ap₂ count_trailing_zeros (zero-add k) (mul-one m) ∙ sym (zero-add (count_trailing_zeros k m))
shifted (suc j) k m =
    ap (λ (n : ℕ). count_trailing_zeros n (m * 2 ^ suc j)) (suc-add j k)
    ∙ ap₂ (λ (d n : ℕ). under d (count_trailing_zeros (j + k) n)) (shifted_even m j) (shifted_half m j)
    ∙ ap suc (shifted j k m) ∙ sym (suc-add j (count_trailing_zeros k m))

odd : (k m : ℕ) → count_trailing_zeros (suc k) (m * 2 + 1) ≡ 0
unfolding count_trailing_zeros
odd k m = let e : (m * 2 + 1) % 2 ≡ 1 = omega arith in ap (λ (d : ℕ). under d (count_trailing_zeros k ((m * 2 + 1) / 2))) e

zeros : (ms : List Bool) → 0 < word ms → count_trailing_zeros (length ms * 8) (word ms) ≡ lowest ms * 8 + 7
unfolding word lowest
zeros [] h = absurd (omega arith)
zeros (true ∷ ms) h =
    let n : suc (length ms) * 8 ≡ 7 + suc (length ms * 8) = omega arith in
    let w : word ms * 256 + 128 ≡ (word ms * 2 + 1) * 2 ^ 7 = omega arith in
    ap₂ count_trailing_zeros n w ∙ shifted 7 (suc (length ms * 8)) (word ms * 2 + 1) ∙ ap (λ (x : ℕ). 7 + x) (odd (length ms * 8) (word ms))
zeros (false ∷ ms) h =
    let n : suc (length ms) * 8 ≡ 8 + length ms * 8 = omega arith in
    let w : word ms * 256 + 0 ≡ word ms * 2 ^ 8 = omega arith in
    ap₂ count_trailing_zeros n w ∙ shifted 8 (length ms * 8) (word ms) ∙ omega (arith, zeros ms (omega arith))

pub lowest_word : (ms : List Bool) → 0 < word ms → count_trailing_zeros (length ms * 8) (word ms) / 8 ≡ lowest ms
lowest_word ms h = omega (arith, zeros ms h)

-- ---- the other marks

pub others_word : (ms : List Bool) → 0 < word ms → bit_and (word ms) (word ms - 1) ≡ word (others ms)
unfolding word others
others_word [] h = absurd (omega arith)
others_word (true ∷ ms) h =
    let m : word ms * 256 + 128 - 1 ≡ word ms * 256 + 127 = omega arith in
    ap (bit_and (word ms * 256 + 128)) m ∙ and_block 8 (word ms) (word ms) 128 127 (lit< tt) (lit< tt) ∙ ap (λ (x : ℕ). x * 256 + 0) (and_self (word ms))
others_word (false ∷ ms) h =
    let m : word ms * 256 + 0 - 1 ≡ (word ms - 1) * 256 + 255 = omega arith in
    ap (bit_and (word ms * 256 + 0)) m
    ∙ and_block 8 (word ms) (word ms - 1) 0 255 (lit< tt) (lit< tt)
    ∙ ap (λ (x : ℕ). x * 256 + 0) (others_word ms (omega arith))

pub others_lt : (ms : List Bool) → 0 < word ms → word (others ms) < word ms
unfolding word others
others_lt [] h = absurd (omega arith)
others_lt (true ∷ ms) h = omega arith
others_lt (false ∷ ms) h = omega (arith, others_lt ms (omega arith))

pub length_others : (ms : List Bool) → length (others ms) ≡ length ms
unfolding others
length_others [] = refl
length_others (true ∷ ms) = refl
length_others (false ∷ ms) = ap suc (length_others ms)

-- ---- the marked positions: the lowest, then the others

pub positions_none : (ms : List Bool) (i : ℕ) → word ms ≡ 0 → positions i ms ≡ []
unfolding word positions
positions_none [] i e = refl
positions_none (true ∷ ms) i e = absurd (omega arith)
positions_none (false ∷ ms) i e = positions_none ms (suc i) (omega arith)

pub positions_some : (ms : List Bool) (i : ℕ) → 0 < word ms → positions i ms ≡ (i + lowest ms) ∷ positions i (others ms)
unfolding word positions lowest others
positions_some [] i h = absurd (omega arith)
positions_some (true ∷ ms) i h = rw add-zero
positions_some (false ∷ ms) i h = rw (add-suc, ← suc-add) (positions_some ms (suc i) (omega arith))

-- ---- the first empty position

head : List ℕ → Option ℕ
head [] = none
head (x ∷ xs) = some x

-- the first number that passes is the first marked position, where the marks are the test's
first_marked : (test : ℕ → Bool) (ms : List Bool) (i : ℕ) → ((m : ℕ) → m < length ms → test (i + m) ≡ get_or ms m false)
    → first_of test (numbers i (length ms)) ≡ head (positions i ms)
unfolding first_of numbers head positions
first_marked test [] i h = refl
first_marked test (true ∷ ms) i h = let t : test i ≡ true = ap test (sym (add-zero i)) ∙ h 0 (omega arith) in rw t
first_marked test (false ∷ ms) i h =
    let t : test i ≡ false = ap test (sym (add-zero i)) ∙ h 0 (omega arith) in
    rw t (first_marked test ms (suc i) (λ m l. ap test (suc-add i m ∙ sym (add-suc i m)) ∙ h (suc m) (omega arith)))

empty_at : (group : List ℕ) (m : ℕ) → m < length group → is_empty (byte_at group m) ≡ get_or (empties group) m false
unfolding empties
empty_at [] m l = absurd (omega arith)
empty_at (b ∷ bs) zero l = refl
empty_at (b ∷ bs) (suc m) l = empty_at bs m (omega arith)

pub length_empties : (group : List ℕ) → length (empties group) ≡ length group
unfolding empties
length_empties [] = refl
length_empties (b ∷ bs) = ap suc (length_empties bs)

by_marks : (group : List ℕ) → first_empty group ≡ head (positions 0 (empties group))
unfolding first_empty
by_marks group =
    let n = length_empties group in
    ap (λ (l : ℕ). first_of (λ m. is_empty (byte_at group m)) (numbers 0 l)) (sym n)
    ∙ first_marked (λ m. is_empty (byte_at group m)) (empties group) 0
    (λ m l. ap (λ (x : ℕ). is_empty (byte_at group x)) (zero-add m) ∙ empty_at group m (omega (arith, n)))

pub no_empty : (group : List ℕ) → word (empties group) ≡ 0 → first_empty group ≡ none
unfolding head
no_empty group e = by_marks group ∙ ap head (positions_none (empties group) 0 e)

pub some_empty : (group : List ℕ) → 0 < word (empties group) → first_empty group ≡ some (lowest (empties group))
unfolding head
some_empty group h = by_marks group ∙ ap head (positions_some (empties group) 0 h) ∙ ap some (zero-add (lowest (empties group)))

-- a word of no marks stays one with another byte of none before it
still_none : (w : ℕ) → eqb w 0 ≡ eqb (w * 256 + 0) 0
still_none zero = refl
still_none (suc w) = ne_eqb (suc w) 0 (λ z. omega arith) ∙ sym (ne_eqb (suc w * 256 + 0) 0 (λ z. omega arith))

none_empty : (group : List ℕ) → each_of (λ b. not (is_empty b)) group ≡ eqb (word (empties group)) 0
unfolding each_of empties word
none_empty [] = refl
none_empty (b ∷ bs) = go (is_empty b) (none_empty bs)
  where
    go : (q : Bool) → each_of (λ x. not (is_empty x)) bs ≡ eqb (word (empties bs)) 0
        → not q && each_of (λ x. not (is_empty x)) bs ≡ eqb (word (empties bs) * 256 + bit q) 0
    go true rest = sym (ne_eqb (word (empties bs) * 256 + 128) 0 (λ z. omega arith))
    go false rest = rest ∙ still_none (word (empties bs))

pub any_empty : (group : List ℕ) → some_of (λ b. is_empty b) group ≡ not (eqb (word (empties group)) 0)
unfolding some_of
any_empty group = ap not (none_empty group)

-- The number that the library makes of bytes is the one that they stand for, for any width.
-- By induction over the bytes. Assumes nothing.
use Rattle.std.proofs.Common.{◌≡◌, ℕ, zero, suc, ◌+◌, ◌*◌, ◌^◌, ◌≤◌, List, [], ◌∷◌, length, get_or, ap, sym, ◌∙◌, mul_assoc, arith}
use native.Mathlib.Nat.{pow-suc}
use Rattle.std.specs.Int.{byte_worth, sum_through, from_le_bytes, w16, w32, w64}
use Rattle.rules.specs.Bytes.{le, part}
use Rattle.rules.proofs.BytesLaws.{length_part}

-- what the first n + 1 bytes are worth
abbrev pub worth : List ℕ → ℕ → ℕ
worth bs n = sum_through (λ i. byte_worth i (get_or bs i 0)) n

worth_cons : (b : ℕ) (bs : List ℕ) (n : ℕ) → worth (b ∷ bs) (suc n) ≡ worth bs n * 256 + b
worth_cons b bs zero = omega arith
worth_cons b bs (suc n) =
    let p : ℕ = get_or bs (suc n) 0 in
    let e : p * 256 ^ suc (suc n) ≡ p * 256 ^ suc n * 256 = ap (λ (x : ℕ). p * x) (pow-suc 256 (suc n)) ∙ sym (mul_assoc p (256 ^ suc n) 256) in
    omega (arith, e, worth_cons b bs n)

pub worth_le : (bs : List ℕ) (n : ℕ) → length bs ≡ suc n → worth bs n ≡ le bs
unfolding le
worth_le [] n e = absurd (omega arith)
worth_le (b ∷ []) zero e = omega arith
worth_le (b ∷ c ∷ bs) zero e = absurd (omega arith)
worth_le (b ∷ bs) (suc n) e = worth_cons b bs n ∙ ap (λ (x : ℕ). x * 256 + b) (worth_le bs n (omega arith))

-- the same of the widths that are read
pub le_part_2 : (at : ℕ) (s : List ℕ) → at + 2 ≤ length s → le (part 2 at s) ≡ from_le_bytes w16 (part 2 at s)
le_part_2 at s h = sym (worth_le (part 2 at s) 1 (length_part 2 at s h))

pub le_part_4 : (at : ℕ) (s : List ℕ) → at + 4 ≤ length s → le (part 4 at s) ≡ from_le_bytes w32 (part 4 at s)
le_part_4 at s h = sym (worth_le (part 4 at s) 3 (length_part 4 at s h))

pub le_part_8 : (at : ℕ) (s : List ℕ) → at + 8 ≤ length s → le (part 8 at s) ≡ from_le_bytes w64 (part 8 at s)
le_part_8 at s h = sym (worth_le (part 8 at s) 7 (length_part 8 at s h))

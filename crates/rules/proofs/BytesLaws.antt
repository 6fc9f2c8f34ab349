-- Laws of bytes: the little-endian value of a part and its bound, once over the width, and when two lists are the same.
-- Assumes nothing.
use mathlib.Core.Path.{◌≡◌, refl, sym, ap, ap₂, ◌∙◌}
use mathlib.Core.Bool.{Bool, true, false, ◌&&◌}
use mathlib.Core.Logic.{dite}
use mathlib.Core.List.{List, [], ◌∷◌, ◌++◌}
use Prim.Native.Nat.{ℕ, zero, suc, ◌+◌, ◌*◌, ◌/◌, ◌^◌, ◌≤◌, ◌<◌}
use native.Mathlib.Nat.{add-zero, zero-add, mul-one, add_assoc, add-mul, mul_assoc, pow-suc}
use native.Mathlib.Omega.{arith}
use native.Mathlib.Decide.{ℕ_discrete}
use borrow.Author.Tests.{eqb-true, eq-eqb, ne_eqb}
use lib.Dec.{lit<, eqb}
use lib.ListN.{length, get_or, take, drop, length-take, length-drop}
use lib.Seq.{get_or-take, get_or-drop, take-add, take_all, take-take, drop-cons, length-take-le, ext_get_or}
use Rattle.rules.specs.Bytes.{byte_at, part, le, le_bytes, same_bytes}
use Rattle.rules.proofs.TestLaws.{both, and_false}

pub le_append : (xs ys : List ℕ) → le (xs ++ ys) ≡ le ys * 256 ^ length xs + le xs
unfolding le
le_append [] ys = sym (add-zero (le ys * 1) ∙ mul-one (le ys))
le_append (x ∷ xs) ys = rw (le_append xs ys, pow-suc) (simp (add-mul, mul_assoc, add_assoc))

-- a single byte is its own number
pub part_one : (at : ℕ) (s : List ℕ) → at < length s → le (part 1 at s) ≡ byte_at s at
unfolding le
part_one at s h = rw (drop-cons s at 0 h) (zero-add (get_or s at 0))

pub length_part : (n at : ℕ) (s : List ℕ) → at + n ≤ length s → length (part n at s) ≡ n
length_part n at s h =
    let fits : n ≤ length (drop at s) = simp length-drop (omega arith) in
    length-take-le n (drop at s) fits

-- a part's bytes are the list's, from its place on
pub part_at : (n at i : ℕ) (s : List ℕ) → i < n → byte_at (part n at s) i ≡ byte_at s (at + i)
part_at n at i s h = get_or-take n (drop at s) i 0 h ∙ get_or-drop at s i 0

-- lists of one length have the same part where they have the same bytes
pub same_part : (n at : ℕ) (s t : List ℕ) → length s ≡ length t → ((i : ℕ) → i < n → byte_at s (at + i) ≡ byte_at t (at + i)) → part n at s ≡ part n at t
same_part n at s t l e =
    ext_get_or 0 (part n at s) (part n at t) (simp (length-take, length-drop, l))
    (λ i h. let u : i < n = omega (arith, length-take n (drop at s)) in
    part_at n at i s u ∙ e i u ∙ sym (part_at n at i t u))

-- a part is a list whose bytes stand there
pub part_is : (at : ℕ) (s xs : List ℕ) → at + length xs ≤ length s → ((i : ℕ) → i < length xs → byte_at s (at + i) ≡ byte_at xs i) → part (length xs) at s ≡ xs
part_is at s xs h e =
    let l : length (part (length xs) at s) ≡ length xs = length_part (length xs) at s h in
    ext_get_or 0 (part (length xs) at s) xs l (λ i u. part_at (length xs) at i s (omega arith) ∙ e i (omega arith))

-- each element is a byte
abbrev pub Bytes : List ℕ → Type 0
Bytes xs = (i : ℕ) → get_or xs i 0 < 256

pub le_lt : (xs : List ℕ) → Bytes xs → le xs < 256 ^ length xs
unfolding le
le_lt [] h = lit< tt
le_lt (x ∷ xs) h = rw pow-suc (omega (arith, h 0, le_lt xs (λ i. h (suc i))))

pub bytes_drop : (n : ℕ) (xs : List ℕ) → Bytes xs → Bytes (drop n xs)
bytes_drop n xs h i = rw get_or-drop (h (n + i))

pub bytes_take : (n : ℕ) (xs : List ℕ) → Bytes xs → Bytes (take n xs)
bytes_take zero xs h i = lit< tt
bytes_take (suc n) [] h i = lit< tt
bytes_take (suc n) (x ∷ xs) h zero = h 0
bytes_take (suc n) (x ∷ xs) h (suc i) = bytes_take n xs (λ j. h (suc j)) i

pub bytes_part : (n at : ℕ) (xs : List ℕ) → Bytes xs → Bytes (part n at xs)
bytes_part n at xs h = bytes_take n (drop at xs) (bytes_drop at xs h)

-- ---- equality

pub same_is : (xs ys : List ℕ) → same_bytes xs ys ≡ true → xs ≡ ys
unfolding same_bytes
same_is [] [] e = refl
same_is [] (y ∷ ys) e = cc
same_is (x ∷ xs) [] e = cc
same_is (x ∷ xs) (y ∷ ys) e =
    let h = both (eqb x y) (same_bytes xs ys) e in
    ap₂ (λ (z : ℕ) (zs : List ℕ). z ∷ zs) (eqb-true x y h.0) (same_is xs ys h.1)

pub same_self : (xs : List ℕ) → same_bytes xs xs ≡ true
unfolding same_bytes
same_self [] = refl
same_self (x ∷ xs) = rw (eq-eqb x x refl, same_self xs)

same_digits : (a b x y : ℕ) → x < 256 → y < 256 → eqb (a * 256 + x) (b * 256 + y) ≡ eqb x y && eqb a b
same_digits a b x y hx hy =
    let differ : (a * 256 + x ≡ b * 256 + y → ⊥) → eqb (a * 256 + x) (b * 256 + y) ≡ false = ne_eqb (a * 256 + x) (b * 256 + y) in
    dite (ℕ_discrete x y)
    (λ e. dite (ℕ_discrete a b) (λ f. rw (eq-eqb x y e, eq-eqb a b f) (eq-eqb (a * 256 + x) (b * 256 + y) (omega arith)))
    (λ d. rw (eq-eqb x y e, ne_eqb a b d) (differ (λ h. d (omega arith)))))
    (λ d. rw (ne_eqb x y d) (differ (λ h. d (omega arith))))

-- of one length, bytes have the same number exactly when they are the same
pub same_number : (xs ys : List ℕ) → length xs ≡ length ys → Bytes xs → Bytes ys → eqb (le xs) (le ys) ≡ same_bytes xs ys
unfolding le same_bytes
same_number [] [] l hx hy = refl
same_number [] (y ∷ ys) l hx hy = absurd (omega arith)
same_number (x ∷ xs) [] l hx hy = absurd (omega arith)
same_number (x ∷ xs) (y ∷ ys) l hx hy =
    same_digits (le xs) (le ys) x y (hx 0) (hy 0)
    ∙ ap (λ (t : Bool). eqb x y && t) (same_number xs ys (omega arith) (λ i. hx (suc i)) (λ i. hy (suc i)))

-- lists of different lengths are not the same
pub same_lengths : (xs ys : List ℕ) → (length xs ≡ length ys → ⊥) → same_bytes xs ys ≡ false
unfolding same_bytes
same_lengths [] [] n = absurd (n refl)
same_lengths [] (y ∷ ys) n = refl
same_lengths (x ∷ xs) [] n = refl
same_lengths (x ∷ xs) (y ∷ ys) n = rw (same_lengths xs ys (λ e. n (ap suc e))) (and_false (eqb x y))

-- ---- equality by words of w bytes

module _ (w i : ℕ) (xs ys : List ℕ) where
  -- words that differ make lists that differ
  pub word_differs : (le (part w i xs) ≡ le (part w i ys) → ⊥) → same_bytes xs ys ≡ false
  word_differs n = go (same_bytes xs ys) refl
    where
      go : (q : Bool) → same_bytes xs ys ≡ q → q ≡ false
      go true e = absurd (n (ap (λ (s : List ℕ). le (part w i s)) (same_is xs ys e)))
      go false e = refl

  module _ (l : length xs ≡ length ys) (f : i + w ≤ length xs) (hx : Bytes xs) (hy : Bytes ys) where
    -- lists that agree before a word and have one number there agree as far as the word goes
    pub word_same : take i xs ≡ take i ys → le (part w i xs) ≡ le (part w i ys) → take (i + w) xs ≡ take (i + w) ys
    word_same t e =
        let n = length_part w i xs f ∙ sym (length_part w i ys (omega arith)) in
        let s = same_number (part w i xs) (part w i ys) n (bytes_part w i xs hx) (bytes_part w i ys hy) in
        let p = same_is (part w i xs) (part w i ys) (sym s ∙ eq-eqb _ _ e) in
        take-add i w xs ∙ ap₂ (λ (a b : List ℕ). a ++ b) t p ∙ sym (take-add i w ys)

    -- the word at the end decides, where the lists agree up to its start or further
    pub word_last : (j : ℕ) → i ≤ j → take j xs ≡ take j ys → length xs ≤ i + w → eqb (le (part w i xs)) (le (part w i ys)) ≡ same_bytes xs ys
    word_last j h t u =
        let before : take i xs ≡ take i ys = sym (take-take i j xs h) ∙ ap (take i) t ∙ take-take i j ys h in
        dite (ℕ_discrete (le (part w i xs)) (le (part w i ys)))
        (λ e. let same : xs ≡ ys = sym (take_all (i + w) xs u) ∙ word_same before e ∙ take_all (i + w) ys (omega arith) in
        eq-eqb _ _ e ∙ sym (same_self ys) ∙ ap (λ (s : List ℕ). same_bytes s ys) (sym same))
        (λ d. ne_eqb _ _ d ∙ sym (word_differs d))

-- ---- the bytes of a number

pub length_le_bytes : (w n : ℕ) → length (le_bytes w n) ≡ w
unfolding le_bytes
length_le_bytes zero n = refl
length_le_bytes (suc w) n = ap suc (length_le_bytes w (n / 256))

pub bytes_le_bytes : (w n : ℕ) → Bytes (le_bytes w n)
unfolding le_bytes
bytes_le_bytes zero n i = lit< tt
bytes_le_bytes (suc w) n zero = omega arith
bytes_le_bytes (suc w) n (suc i) = bytes_le_bytes w (n / 256) i

pub le_le_bytes : (w n : ℕ) → n < 256 ^ w → le (le_bytes w n) ≡ n
unfolding le le_bytes
le_le_bytes zero n h = omega arith
le_le_bytes (suc w) n h =
    let l : n < 256 ^ w * 256 = rw pow-suc at h in
    omega (arith, le_le_bytes w (n / 256) (omega arith))

-- w bytes have the number n exactly when they are the bytes of n
pub same_word : (w n : ℕ) (xs : List ℕ) → n < 256 ^ w → length xs ≡ w → Bytes xs → eqb (le xs) n ≡ same_bytes xs (le_bytes w n)
same_word w n xs h l b =
    ap (eqb (le xs)) (sym (le_le_bytes w n h)) ∙ same_number xs (le_bytes w n) (l ∙ sym (length_le_bytes w n)) b (bytes_le_bytes w n)

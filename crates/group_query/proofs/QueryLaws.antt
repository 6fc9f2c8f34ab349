-- The query's bit trick, for a group of any width: taking 1 from each byte of the group xored with the tag borrows at exactly the bytes that
-- the rule reports, by induction over the bytes with the borrow. Assumes nothing.
use Rattle.std.proofs.Common.{◌≡◌, ℕ, zero, suc, ◌+◌, ◌-◌, ◌*◌, ◌/◌, ◌%◌, ◌^◌, ◌<◌, ◌≤◌, Bool, true, false, ltb, leb, List, [], ◌∷◌, map, length, replicate, sym, refl, ap, ◌∙◌, subst, ap₂, add-zero, mod-eq_of_lt, mul_assoc, pow-suc, div-add-mod', arith, lit<, ltb-false, ltb-true, le-ltb, eq-eqb, ne_eqb, leb-false, leb-true}
use native.Mathlib.Nat.{add-mul-mod_self_right}
use lib.ListN.{length-map}
use lib.Bits.{bit_and, bit_xor, xor_block, and_block, and_high, and_shifted, and_le_l, xor_lt, xor_self, xor_comm, xor_assoc, xor_zero_r}
use Rattle.rules.specs.Bytes.{le}
use Rattle.rules.specs.Group.{hit, reports_after, reports}
use Rattle.group_query.specs.Marks.{bit, word, empties}
use Rattle.rules.proofs.BytesLaws.{Bytes, le_lt}

-- xor undoes itself
xor_cancel : (a b : ℕ) → bit_xor (bit_xor a b) b ≡ a
xor_cancel a b = xor_assoc a b b ∙ ap (bit_xor a) (xor_self b) ∙ xor_zero_r a

-- 1 for a borrow
abbrev pub num : Bool → ℕ
num true = 1
num false = 0

-- a byte is reported exactly where taking 1, and the borrow from below, off its xor with the tag borrows
module _ (t b : ℕ) where
  zero_case : bit_xor b t ≡ 0 → b ≡ t
  zero_case e = sym (xor_cancel b t) ∙ ap (λ (x : ℕ). bit_xor x t) e

  one_case : bit_xor b t ≡ 1 → b ≡ bit_xor t 1
  one_case e = sym (xor_cancel b t) ∙ ap (λ (x : ℕ). bit_xor x t) e ∙ xor_comm 1 t

  same : b ≡ t → bit_xor b t ≡ 0
  same e = ap (λ (x : ℕ). bit_xor x t) e ∙ xor_self t

  next : b ≡ bit_xor t 1 → bit_xor b t ≡ 1
  next e = ap (λ (x : ℕ). bit_xor x t) (e ∙ xor_comm t 1) ∙ xor_cancel 1 t

  borrows : (c : ℕ) → bit_xor b t ≡ c → (p : Bool) → hit t p b ≡ ltb c (1 + num p)
  unfolding hit
  borrows zero e true = simp (eq-eqb b t (zero_case e))
  borrows zero e false = simp (eq-eqb b t (zero_case e))
  borrows (suc zero) e true = simp (ne_eqb b t (λ q. omega (arith, e, same q)), eq-eqb b (bit_xor t 1) (one_case e))
  borrows (suc zero) e false = simp (ne_eqb b t (λ q. omega (arith, e, same q)))
  borrows (suc (suc c)) e true = simp (ne_eqb b t (λ q. omega (arith, e, same q)), ne_eqb b (bit_xor t 1) (λ q. omega (arith, e, next q)), le-ltb (suc (suc c)) 2 (omega arith))
  borrows (suc (suc c)) e false = simp (ne_eqb b t (λ q. omega (arith, e, same q)), le-ltb (suc (suc c)) 1 (omega arith))

pub hit_borrows : (t b : ℕ) (p : Bool) → hit t p b ≡ ltb (bit_xor b t) (1 + num p)
hit_borrows t b p = borrows t b (bit_xor b t) refl p

-- ---- the word less 1 in each byte, byte by byte with the borrow

-- c less n, with 256 lent where it borrows
abbrev less : ℕ → ℕ → Bool → ℕ
less c n q = (c + 256 * num q) - n

unfoldable pub lows : Bool → List ℕ → List ℕ
lows p [] = []
lows p (c ∷ cs) = less c (1 + num p) (ltb c (1 + num p)) ∷ lows (ltb c (1 + num p)) cs

unfoldable pub flags : Bool → List ℕ → List Bool
flags p [] = []
flags p (c ∷ cs) = ltb c (1 + num p) ∷ flags (ltb c (1 + num p)) cs

unfoldable pub out : Bool → List ℕ → ℕ
out p [] = num p
out p (c ∷ cs) = out (ltb c (1 + num p)) cs

reports_flags : (t : ℕ) (bs : List ℕ) (p : Bool) → reports_after p t bs ≡ flags p (map (λ (b : ℕ). bit_xor b t) bs)
unfolding reports_after flags
reports_flags t [] p = refl
reports_flags t (b ∷ bs) p =
    ap (λ (h : Bool). h ∷ reports_after h t bs) (hit_borrows t b p)
    ∙ ap (λ (l : List Bool). ltb (bit_xor b t) (1 + num p) ∷ l) (reports_flags t bs (ltb (bit_xor b t) (1 + num p)))

num_le : (p : Bool) → num p ≤ 1
num_le true = omega arith
num_le false = omega arith

-- nothing is cut off
roomy : (c : ℕ) (p q : Bool) → ltb c (1 + num p) ≡ q → 1 + num p ≤ c + 256 * num q
roomy c p true e = omega (arith, num_le p)
roomy c p false e = omega (arith, ltb-false c (1 + num p) e)

small : (c : ℕ) → c < 256 → (p q : Bool) → ltb c (1 + num p) ≡ q → less c (1 + num p) q < 256
small c h p true e = omega (arith, ltb-true c (1 + num p) e)
small c h p false e = omega arith

lows_le : (cs : List ℕ) (p : Bool) → le (lows p cs) + (le (replicate (length cs) 1) + num p) ≡ le cs + out p cs * 256 ^ length cs
unfolding le lows out
lows_le [] p = omega arith
lows_le (c ∷ cs) p =
    rw (pow-suc, ← mul_assoc)
    (omega (arith, roomy c p (ltb c (1 + num p)) refl, lows_le cs (ltb c (1 + num p))))

bytes_lows : (cs : List ℕ) → Bytes cs → (p : Bool) → Bytes (lows p cs)
unfolding lows
bytes_lows [] h p i = lit< tt
bytes_lows (c ∷ cs) h p zero = small c (h 0) p (ltb c (1 + num p)) refl
bytes_lows (c ∷ cs) h p (suc i) = bytes_lows cs (λ j. h (suc j)) (ltb c (1 + num p)) i

length_lows : (cs : List ℕ) (p : Bool) → length (lows p cs) ≡ length cs
unfolding lows
length_lows [] p = refl
length_lows (c ∷ cs) p = ap suc (length_lows cs (ltb c (1 + num p)))

-- ---- the masks

-- bit 0x80 of a byte
high_bit : (b : ℕ) → b < 256 → (q : Bool) → leb 128 b ≡ q → bit_and b 128 ≡ bit q
high_bit b h true e = and_high b 1 7 ∙ omega (arith, leb-true 128 b e)
high_bit b h false e = and_high b 1 7 ∙ omega (arith, leb-false 128 b e)

-- a byte that borrows has bit 0x80 afterwards and not before, and no other byte has
high_left : (c n : ℕ) → n ≤ c → 0 < n → (q : Bool) → ltb c 128 ≡ q → bit_and ((255 - c) / 128 % 2 * 128) (c - n) ≡ 0
high_left c n l o true e = and_shifted ((255 - c) / 128 % 2) 7 (c - n) (omega (arith, ltb-true c 128 e))
high_left c n l o false e =
    let z : (255 - c) / 128 % 2 * 128 ≡ 0 = omega (arith, ltb-false c 128 e) in
    ap (λ (x : ℕ). bit_and x (c - n)) z

lent : (c : ℕ) (p : Bool) → c < 1 + num p → bit_and (bit_and (255 - c) 128) (less c (1 + num p) true) ≡ 128
lent zero true l = refl
lent zero false l = refl
lent (suc zero) true l = refl
lent (suc zero) false l = omega arith
lent (suc (suc c)) true l = omega arith
lent (suc (suc c)) false l = omega arith

marked : (c : ℕ) → c < 256 → (p q : Bool) → ltb c (1 + num p) ≡ q → bit_and (bit_and (255 - c) 128) (less c (1 + num p) q) ≡ bit q
marked c h p true e = lent c p (ltb-true c (1 + num p) e)
marked c h p false e =
    ap (λ (x : ℕ). bit_and x (less c (1 + num p) false)) (and_high (255 - c) 1 7)
    ∙ ap (λ (x : ℕ). bit_and ((255 - c) / 128 % 2 * 128) (x - (1 + num p))) (add-zero c)
    ∙ high_left c (1 + num p) (ltb-false c (1 + num p) e) (omega arith) (ltb c 128) refl

masks : (cs : List ℕ) → Bytes cs → (p : Bool)
    → bit_and (bit_and ((256 ^ length cs - 1) - le cs) (le (replicate (length cs) 128))) (le (lows p cs)) ≡ word (flags p cs)
unfolding le lows flags word
masks [] h p = refl
masks (c ∷ cs) h p =
    let n = length cs in
    let q = ltb c (1 + num p) in
    let a : ℕ = (256 ^ n - 1) - le cs in
    let r : ℕ = le (replicate n 128) in
    let l : ℕ = le (lows q cs) in
    let s : ℕ = less c (1 + num p) q in
    let e : (256 ^ suc n - 1) - (le cs * 256 + c) ≡ a * 256 + (255 - c) = rw pow-suc (omega (arith, le_lt cs (λ i. h (suc i)), h 0)) in
    ap (λ (x : ℕ). bit_and (bit_and x (r * 256 + 128)) (l * 256 + s)) e
    ∙ ap (λ (x : ℕ). bit_and x (l * 256 + s)) (and_block 8 a r (255 - c) 128 (omega arith) (lit< tt))
    ∙ and_block 8 (bit_and a r) l (bit_and (255 - c) 128) s (omega (arith, and_le_l (255 - c) 128)) (small c (h 0) p q refl)
    ∙ ap₂ (λ (x y : ℕ). x * 256 + y) (masks cs (λ i. h (suc i)) q) (marked c (h 0) p q refl)

-- the empty positions
pub empties_word : (bs : List ℕ) → Bytes bs → bit_and (le bs) (le (replicate (length bs) 128)) ≡ word (empties bs)
unfolding le empties word
empties_word [] h = refl
empties_word (b ∷ bs) h =
    and_block 8 (le bs) (le (replicate (length bs) 128)) b 128 (h 0) (lit< tt)
    ∙ ap₂ (λ (x y : ℕ). x * 256 + y) (empties_word bs (λ i. h (suc i))) (high_bit b (h 0) (leb 128 b) refl)

-- the tag in each byte of a word, xored in
xor_le : (t : ℕ) → t < 256 → (bs : List ℕ) → Bytes bs → bit_xor (le bs) (le (replicate (length bs) t)) ≡ le (map (λ (b : ℕ). bit_xor b t) bs)
unfolding le
xor_le t ht [] h = refl
xor_le t ht (b ∷ bs) h =
    xor_block 8 (le bs) (le (replicate (length bs) t)) b t (h 0) ht ∙ ap (λ (x : ℕ). x * 256 + bit_xor b t) (xor_le t ht bs (λ i. h (suc i)))

bytes_xor : (t : ℕ) → t < 256 → (bs : List ℕ) → Bytes bs → Bytes (map (λ (b : ℕ). bit_xor b t) bs)
bytes_xor t ht [] h i = lit< tt
bytes_xor t ht (b ∷ bs) h zero = xor_lt 8 b t (h 0) ht
bytes_xor t ht (b ∷ bs) h (suc i) = bytes_xor t ht bs (λ j. h (suc j)) i

-- ---- the query

-- a difference that wraps at P is the one number below P that gives x
settle : (P r l o x q : ℕ) → r < P → l < P → (r + o) % P ≡ x → l + o ≡ x + q * P → r ≡ l
settle P r l o x q hr hl e f =
    let g : r + q * P ≡ l + (r + o) / P * P = omega (arith, div-add-mod' (r + o) P) in
    sym (mod-eq_of_lt hr) ∙ sym (add-mul-mod_self_right r q P) ∙ ap (λ (y : ℕ). y % P) g
    ∙ add-mul-mod_self_right l ((r + o) / P) P ∙ mod-eq_of_lt hl

-- the bit trick: r is the word xored with the tag in each byte, less 1 in each byte, modulo the word's power
pub query_word : (t : ℕ) → t < 256 → (bs : List ℕ) → Bytes bs → (r x : ℕ) → x ≡ bit_xor (le bs) (le (replicate (length bs) t))
    → r < 256 ^ length bs → (r + le (replicate (length bs) 1)) % 256 ^ length bs ≡ x
    → bit_and (bit_and ((256 ^ length bs - 1) - x) (le (replicate (length bs) 128))) r ≡ word (reports t bs)
unfolding reports
query_word t ht bs h r x ex hr e =
    let cs = map (λ (b : ℕ). bit_xor b t) bs in
    let n : length cs ≡ length bs = length-map bs (λ (b : ℕ). bit_xor b t) in
    let w : x ≡ le cs = ex ∙ xor_le t ht bs h in
    let hc = bytes_xor t ht bs h in
    let hl : le (lows false cs) < 256 ^ length bs = rw (← n, ← length_lows cs false) (le_lt (lows false cs) (bytes_lows cs hc false)) in
    let d : le (lows false cs) + le (replicate (length bs) 1) ≡ x + out false cs * 256 ^ length bs
    = rw (w, ← n) (ap (λ (y : ℕ). le (lows false cs) + y) (sym (add-zero (le (replicate (length cs) 1)))) ∙ lows_le cs false) in
    rw (settle (256 ^ length bs) r (le (lows false cs)) (le (replicate (length bs) 1)) x (out false cs) hr hl e d, w, ← n, reports_flags t bs false)
    (masks cs hc false)

-- the same where the width is given as a number
pub query_at : (n : ℕ) (t : ℕ) → t < 256 → (bs : List ℕ) → length bs ≡ n → Bytes bs → (r x : ℕ) → x ≡ bit_xor (le bs) (le (replicate n t))
    → r < 256 ^ n → (r + le (replicate n 1)) % 256 ^ n ≡ x
    → bit_and (bit_and ((256 ^ n - 1) - x) (le (replicate n 128))) r ≡ word (reports t bs)
query_at n t ht bs e h =
    subst
    (λ (n : ℕ). (r x : ℕ) → x ≡ bit_xor (le bs) (le (replicate n t)) → r < 256 ^ n → (r + le (replicate n 1)) % 256 ^ n ≡ x
    → bit_and (bit_and ((256 ^ n - 1) - x) (le (replicate n 128))) r ≡ word (reports t bs))
    e (query_word t ht bs h)

pub empties_at : (n : ℕ) (bs : List ℕ) → length bs ≡ n → Bytes bs → bit_and (le bs) (le (replicate n 128)) ≡ word (empties bs)
empties_at n bs e h = rw (← e) (empties_word bs h)

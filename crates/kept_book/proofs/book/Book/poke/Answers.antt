-- What is written over a part of the room is written over that part of the book, where the part lies in the book.
use Rattle.std.proofs.Common.{◌≡◌, ℕ, suc, ◌+◌, ◌-◌, ◌≤◌, List, [], ◌∷◌, length, take, refl, sym, ap, ◌∙◌, append_assoc, arith}
use Rattle.std.proofs.Math.ListN.{set}
use Rattle.std.proofs.Math.Seq.{take-set-lt}
use Rattle.std.proofs.lemmas.List.Edits.{sets, sets-eq, paste_all}
use Rattle.std.proofs.lemmas.Slice.{put_mid-paste}
use borrow.Rule.Slice.PartMut.{put_mid}
use Rattle.kept_book.proofs.book.Book.poke.Goals as goal

take-sets : (n : ℕ) (xs bs : List ℕ) (at : ℕ) → at + length bs ≤ n → take n (sets xs at bs) ≡ sets (take n xs) at bs
take-sets n xs [] at h = refl
take-sets n xs (b ∷ bs) at h =
    take-sets n (set xs at b) bs (suc at) (omega arith)
    ∙ ap (λ ys. sets ys (suc at) bs) (take-set-lt n xs at b (omega arith))

put_mid-sets : (xs bs : List ℕ) (at k : ℕ) → k ≡ length bs → at + length bs ≤ length xs → put_mid at k xs bs ≡ sets xs at bs
put_mid-sets xs bs at k is h =
    put_mid-paste at k xs bs bs (length bs) refl (sym is) refl
    ∙ paste_all xs at bs (length bs) refl
    ∙ sym (append_assoc (take at xs) bs _)
    ∙ sym (sets-eq bs xs at h)

pub returns-clause-poked : goal.returns-clause-poked
returns-clause-poked c = rw c.copy_from_slice.ensures.after (
    let room = c.self.inside.room in
    let len = c.self.inside.len in
    let bytes = c.args.bytes.now in
    let at = c.args.at in
    ap (take len) (put_mid-sets room bytes at (at + length bytes - at) (omega arith) (omega arith))
    ∙ take-sets len room bytes at (omega arith)
    ∙ ap (λ book. sets book at bytes) c.self.view_is
    )

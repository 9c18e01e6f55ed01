-- Texts that are copied into a block.
use borrow.Rule.Slice.PartMut.{put_mid}
use Rattle.std.proofs.Common.{◌≡◌, ◌+◌, ◌≤◌, ℕ, List, ◌++◌, length, take, sym, ap, ◌∙◌, arith, take-take}
use Rattle.std.proofs.Math.Seq.{take-append-add}
use Rattle.std.proofs.lemmas.List.{length-take-le}
use Rattle.std.proofs.lemmas.Slice.{take-put_mid}

-- the first bytes of a chunk behind a text
pub front_put : (xs ys bytes : List ℕ) (f k n count : ℕ) → f ≤ length xs → ys ≡ take n bytes → n ≤ length bytes → count ≤ n
    → take (f + count) (put_mid f k xs ys) ≡ take f xs ++ take count bytes
front_put xs ys bytes f k n count inside same least few =
    let long : length ys ≡ n = ap length same ∙ length-take-le n bytes least in
    sym (take-take (f + count) (f + n) (put_mid f k xs ys) (omega (arith, few)))
    ∙ ap (take (f + count)) (take-put_mid f k xs ys (f + n) (omega (arith, long)) inside)
    ∙ ap (λ m. take (m + count) (take f xs ++ ys)) (sym (length-take-le f xs inside)) ∙ take-append-add (take f xs) ys count
    ∙ ap (λ l. take f xs ++ l) (ap (take count) same ∙ take-take count n bytes few)

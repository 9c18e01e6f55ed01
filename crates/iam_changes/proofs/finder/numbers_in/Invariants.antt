use Rattle.std.proofs.Common.{List, ℕ, map, take}
use Rattle.std.specs.HashMap.{get_by}
use Rattle.std.specs.List.{AllZip}
use Rattle.std.specs.Str.{bytes_eq}
use Rattle.iam_changes.specs.Code.Found.{IsNumberIn}
use Rattle.iam_changes.proofs.finder.numbers_in.Given as goal

-- the map has the places of the texts so far
abbrev pub invariant-loop-n : goal.invariant-loop-n
invariant-loop-n l = (q : List ℕ) → IsNumberIn (take l.n (map (λ t. t.now) l.others)) q (get_by (λ k. bytes_eq q k.now) l.places)

abbrev pub invariant-loop-text : goal.invariant-loop-text
invariant-loop-text l =
    ((q : List ℕ) → IsNumberIn (map (λ t. t.now) l.others) q (get_by (λ k. bytes_eq q k.now) l.places)) × AllZip (IsNumberIn (map (λ t. t.now) l.others)) (take l.text-index (map (λ t. t.now) l.texts)) l.numbers.items

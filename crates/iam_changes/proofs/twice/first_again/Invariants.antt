use Rattle.std.proofs.Common.{◌≡◌, ◌<◌, List, ℕ, map, take}
use Rattle.std.specs.List.{list_any}
use Rattle.std.specs.Str.{bytes_eq}
use Rattle.std.specs.HashSet.{contains_by}
use Rattle.iam_changes.specs.Twice.{StandsBefore}
use Rattle.iam_changes.proofs.twice.first_again.Given as goal

-- the set has the texts so far, none of which stands at an earlier place
abbrev pub invariant-loop-n : goal.invariant-loop-n
invariant-loop-n l = ((text : List ℕ) → contains_by (λ k. bytes_eq text k.now) l.seen ≡ list_any (bytes_eq text) (take l.n (map (λ t. t.now) l.texts)))
    × ((m : ℕ) → m < l.n → ¬ StandsBefore (map (λ t. t.now) l.texts) m)

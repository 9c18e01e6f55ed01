use Rattle.std.proofs.Common.{◌≡◌, [], List, ℕ, map, take}
use Rattle.std.specs.List.{list_any}
use Rattle.std.specs.Str.{bytes_eq}
use Rattle.std.specs.HashSet.{contains_by}
use Rattle.iam_every.specs.OwnGroups.{AreFirsts}
use Rattle.iam_every_changes.proofs.distinct.distinct_texts.Given as goal

-- the set has the texts so far
abbrev pub invariant-loop-text : goal.invariant-loop-text
invariant-loop-text l = record {
  seen : (text : List ℕ) → contains_by (λ k. bytes_eq text k.now) l.seen ≡ list_any (bytes_eq text) (take l.text-index (map (λ t. t.now) l.texts));
  firsts : AreFirsts [] (take l.text-index (map (λ t. t.now) l.texts)) (map (λ t. t.now) l.firsts.items);
}

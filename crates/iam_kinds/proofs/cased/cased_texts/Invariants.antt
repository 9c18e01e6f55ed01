use Rattle.std.proofs.Common.{◌≡◌, ℕ, List, map, take}
use Rattle.std.specs.List.{Contains}
use Rattle.iam_glob.specs.Glob.{folded}
use Rattle.iam_kinds.specs.Walk.{IsCasedFor}
use Rattle.iam_kinds.proofs.cased.cased_texts.Given as goal

abbrev pub invariant-loop-text : goal.invariant-loop-text
invariant-loop-text l = record {
  same : map (λ t. map folded t.items) l.cased.items ≡ map (λ t. t.items) (take l.text-index l.texts);
  cased : (text : List ℕ) → Contains (map (λ t. t.items) l.cased.items) text → IsCasedFor l.asked l.own.patterns.items text;
}

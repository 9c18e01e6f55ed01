-- The Sids that the walk over the statements has seen.
use Rattle.std.specs.Prelude.{◌≡◌, ℕ, List, Bool}
use Rattle.std.specs.Ordering.{nat_cmp}
use Rattle.std.specs.Borrow.{Bor}
use Rattle.std.specs.BTreeSet.{BTreeSet, contains_by}
use Rattle.std.specs.Cmp.Lexicographic.{slice_cmp}
use Rattle.iam_json.specs.Look.{is_one_of}

-- whether the set has the text
abbrev pub contains_str : BTreeSet (Bor (List ℕ)) → List ℕ → Bool
contains_str set text = contains_by (λ k. slice_cmp nat_cmp text k.now) set

-- the set has these texts
abbrev pub HasSids : BTreeSet (Bor (List ℕ)) → List (List ℕ) → Type 0
HasSids set sids = (text : List ℕ) → contains_str set text ≡ is_one_of sids text

-- Texts that the statements read alike are alike, and are decided alike.
use Rattle.std.proofs.Common.{ℕ, List, true, false, subst}
use Rattle.iam_match.specs.Statement.{AccessValue}
use Rattle.iam_decision.specs.Applicable.{ApplicableValue}
use Rattle.iam_decision.specs.Matched.{Placed}
use Rattle.iam_every.specs.Alike.{AlikeTextsDecideAlike, AreAlike, Concerns, GroupMeets, IsAllowAt, IsDeny, IsGrant}
use Rattle.iam_open_every.specs.Alike.{AreReadAlikeBy, ReadAlikeDecideAlike, ReadsAlike}

-- a group that matches the one text matches the other
meets_too : (a : ApplicableValue) (access : AccessValue) (action one other : List ℕ) → AreReadAlikeBy a access action one other
    → (P : Placed → Type 0) → GroupMeets a access action P one → GroupMeets a access action P other
meets_too a access action one other alike P (k, s, below, at, (concerns, belongs, meets)) =
    let reads = subst (λ (x : Placed). Concerns access action x → ReadsAlike access.context one other x) at (alike k s below) in
    (k, s, below, at, (concerns, belongs, (reads concerns false).0 meets))

other_way : (a : ApplicableValue) (access : AccessValue) (action one other : List ℕ) → AreReadAlikeBy a access action one other
    → AreReadAlikeBy a access action other one
other_way a access action one other alike = λ k s below concerns negated. let both = alike k s below concerns negated in (both.1, both.0)

are_alike : (a : ApplicableValue) (access : AccessValue) (action one other : List ℕ) → AreReadAlikeBy a access action one other
    → AreAlike a access action one other
are_alike a access action one other alike =
    let there = meets_too a access action one other alike in
    let back = meets_too a access action other one (other_way a access action one other alike) in record {
      denies = (there IsDeny, back IsDeny);
      allows = λ layer level. (there (IsAllowAt layer level), back (IsAllowAt layer level));
      grants = λ grant. (there (IsGrant access.requester grant), back (IsGrant access.requester grant));
      negated = λ k s below concerns. alike k s below concerns true;
    }

pub read_alike : AlikeTextsDecideAlike → ReadAlikeDecideAlike
read_alike decided a access action one other decision alike = decided a access action one other decision (are_alike a access action one other alike)

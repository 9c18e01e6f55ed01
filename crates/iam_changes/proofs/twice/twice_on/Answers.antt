use Rattle.std.proofs.Common.{◌≡◌, ◌<◌, List, ℕ, Bor, map, refl, ap, subst, ◌∙◌}
use Rattle.std.proofs.lemmas.Option.{MatchOption-at_none, MatchOption-at_some}
use Rattle.iam_changes.specs.Twice.{StandOnce, StandsBefore, axis_texts}
use Rattle.iam_changes.proofs.twice.twice_on.Goals as goal

pub returns-in-Some : goal.returns-in-Some
returns-in-Some c =
    let now : Bor (List ℕ) → List ℕ = λ text. text.now in
    let First : List (List ℕ) → ℕ → Type 0 = λ texts n. StandsBefore texts n × ((m : ℕ) → m < n → ¬ StandsBefore texts m) in
    let texts = map now c.as_slice.result.now in
    let all : texts ≡ axis_texts c.args.axis c.args.world.now = ap (map now) c.as_slice.ensures.value ∙ c.in_ok-texts.ensures in
    let first = subst (λ (ts : List (List ℕ)). First ts c.in-Some.n) all (MatchOption-at_some (StandOnce texts) (First texts) c.in-Some.n c.in-Some.is c.in_ok-n.ensures) in
    (refl, first.0, first.1)

pub returns : goal.returns
returns c =
    let now : Bor (List ℕ) → List ℕ = λ text. text.now in
    let First : List (List ℕ) → ℕ → Type 0 = λ texts n. StandsBefore texts n × ((m : ℕ) → m < n → ¬ StandsBefore texts m) in
    let texts = map now c.as_slice.result.now in
    let all : texts ≡ axis_texts c.args.axis c.args.world.now = ap (map now) c.as_slice.ensures.value ∙ c.in_ok-texts.ensures in
    subst StandOnce all (MatchOption-at_none (StandOnce texts) (First texts) c.in-None.is c.in_ok-n.ensures)

use Rattle.std.proofs.Common.{◌≡◌, ◌≤◌, ◌/◌, ◌++◌, ◌∷◌, [], List, length, map, take, ap, subst, ◌∙◌, arith}
use Rattle.std.proofs.lemmas.List.{take_all}
use Rattle.iam_decision.specs.Code.Scan.{placed_value}
use Rattle.iam_decision.specs.Living.{LivingValue, living_of, living_value}
use Rattle.iam_decision.specs.Matched.{Placed}
use Rattle.iam_decision.specs.declared.scan.Standing.{Standing}
use Rattle.iam_living.specs.Word.{TakesBits}
use Rattle.iam_index.proofs.IndexLemmas.{one_behind}
use Rattle.iam_living.proofs.WordLemmas.{takes_set, takes_unset}
use Rattle.iam_living.proofs.listing.add_of_bits.Goals as goal
use Rattle.iam_living.proofs.listing.add_of_bits.Goals.{then-bits-eq1+in_ok-push_living, else-bits-eq1}

pub loop-standing-preserved : goal.loop-standing-preserved
loop-standing-preserved c =
    let statements = c.args.statements.now in
    let requester = c.args.requester.now in
    let i = c.loop-standing.standing-index in
    let before : List Placed = map placed_value (take i statements) in
    let s : Placed = placed_value c.standing-item.result in
    let old : List LivingValue = map living_value c.args.living.now.items in
    let now : List LivingValue = map living_value c.loop-standing.living.items in
    let new : List LivingValue = map living_value c.if-bits-eq1.living.items in
    let bits = c.loop-standing.bits in
    let P : List Placed → Type 0 = λ z. TakesBits requester z c.args.word old new (bits / 2) in
    let Q : List LivingValue → Type 0 = λ z. TakesBits requester (before ++ (s ∷ [])) c.args.word old z (bits / 2) in
    subst P (one_behind [] statements i c.standing-item.result c.loop-standing-test.true c.standing-item.is)
    (
    elim c.if-bits-eq1.branch [
      | then-bits-eq1+in_ok-push_living w ↦
          let pushed : new ≡ now ++ (living_of requester s ∷ []) = ap (λ v. map living_value v.items) w.living-is ∙ w.in_ok-push_living.ensures in
          takes_set requester before s c.args.word old now new bits w.if-bits-eq1.true pushed c.loop-standing.invariant
      | else-bits-eq1 w ↦
          let same : new ≡ now = ap (λ v. map living_value v.items) w.living-is in
          takes_unset requester before s c.args.word old now new bits w.if-bits-eq1.false same c.loop-standing.invariant
    ]
    )

pub returns : goal.returns
returns c =
    let P : List Standing → Type 0 = λ z.
    TakesBits c.args.requester.now (map placed_value z) c.args.word (map living_value c.args.living.now.items) (map living_value c.loop-standing.living.items)
    c.loop-standing.bits in
    let past : length c.args.statements.now ≤ c.loop-standing.standing-index = omega (arith, c.loop-standing-test.false) in
    subst P (take_all c.loop-standing.standing-index c.args.statements.now past) c.loop-standing.invariant

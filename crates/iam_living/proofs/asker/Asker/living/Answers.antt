use Rattle.std.proofs.Common.{◌++◌, inl, inr, IfOk, List, map, sym, subst}
use Rattle.std.proofs.lemmas.Result.{IfOk-weaker}
use Rattle.iam_decision.specs.Code.Scan.{placed_value}
use Rattle.iam_decision.specs.Living.{AreLiving, living_value}
use Rattle.iam_decision.specs.Matched.{Placed}
use Rattle.iam_decision.specs.declared.scan.Standing.{Standing}
use Rattle.iam_living.specs.Word.{AreBits}
use Rattle.iam_living.proofs.WordLemmas.{living_around, none_lives}
use Rattle.iam_living.proofs.asker.Asker.living.Goals as goal

pub returns : goal.returns
returns c = λ access statements are.
    let listing = c.args.self.now.listing in
    let bits = c.args.bits in
    elim (c.list_of-between.ensures statements are.list) [
      | inl (unset, empty) ↦
          let B : List Standing → Type 0 = λ z. AreBits access (map placed_value z) bits.resource in
          let L : List Standing → Type 0 =
          λ z. IfOk c.living.result (λ living. AreLiving access (listing.org ++ (map placed_value z ++ listing.own)) (map living_value living.items)) in
          IfOk-weaker c.living.result _ _
          (λ living lives. living_around access listing.org statements listing.own (map living_value living.items)
          (none_lives access statements bits.resource unset are.resource) lives)
          (subst L empty (c.living.ensures access are.asks are.principal (subst B (sym empty) unset)))
      | inr same ↦
          let B : List Placed → Type 0 = λ z. AreBits access z bits.resource in
          let L : List Placed → Type 0 =
          λ z. IfOk c.living.result (λ living. AreLiving access (listing.org ++ (z ++ listing.own)) (map living_value living.items)) in
          subst L (sym same) (c.living.ensures access are.asks are.principal (subst B same are.resource))
    ]

use Rattle.std.proofs.Common.{◌≡◌, map, refl, sym, subst, ◌∙◌}
use Rattle.iam_decision.specs.Living.{SharedValue, living_value}
use Rattle.iam_index.proofs.ListLemmas.{some_same}
use Rattle.iam_living.specs.declared.asker.Asker.{Asker}
use Rattle.iam_classes.specs.Words.{LiveByBits}
use Rattle.iam_classes.proofs.words.Words.shared_by.Goals as goal

pub returns-in_ok-living-in-Some : goal.returns-in_ok-living-in-Some
returns-in_ok-living-in-Some c = λ asker is.
    let same = some_same c.in-Some.asker asker (sym c.in-Some.is ∙ is) in
    let P : SharedValue → Type 0 = λ s. (s.frame ≡ c.args.frame) × LiveByBits asker c.args.bits s.living in
    let A : Asker → Type 0 = λ a. LiveByBits a c.args.bits (map living_value c.in_ok-living-in-Some.living.items) in
    subst P (sym c.of.ensures) (refl, subst A same c.in_ok-living-in-Some.ensures)

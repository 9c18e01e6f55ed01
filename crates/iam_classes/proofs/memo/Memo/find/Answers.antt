use Rattle.std.proofs.Common.{◌≡◌, ◌<◌, Bool, Bor, List, Some, length, map, sym, ◌∙◌, ap, subst}
use Rattle.std.proofs.lemmas.Option.{slice_get-get_or}
use Rattle.std.specs.List.{slice_get}
use Rattle.iam_decision.specs.Living.{AreActing, IsShared, LivingValue, SharedValue, living_value}
use Rattle.iam_layers.specs.Cell.{IsAction}
use Rattle.iam_index.specs.Elements.{ActAlike, AreActRows}
use Rattle.iam_classes.specs.Memo.{FindsAlike, MemoValue}
use Rattle.iam_classes.specs.declared.memo.Class.{Class}
use Rattle.iam_index.proofs.ListLemmas.{some_same}
use Rattle.iam_classes.proofs.SignLemmas.{same_acting}
use Rattle.iam_classes.proofs.memo.Memo.find.Goals as goal

pub returns : goal.returns
returns c = λ it.
    let own = c.self.inside in
    let world = own.world.now in
    let classes = own.classes.items in
    let class = c.index-class.result.now in
    let n = c.args.class in
    let text = c.args.text.now in
    let found = c.put_acting.new.found.items in
    let living : List LivingValue = map living_value c.living.result.now in
    let K : MemoValue → Type 0 = λ memo. n < length memo.classes in
    let there : slice_get classes n ≡ Some class =
    slice_get-get_or classes n class (subst K (sym c.self.view_is) c.requires) ∙ ap Some (sym c.index-class.ensures) in
    let own_living = c.living.ensures ∙ ap (λ (s : SharedValue). s.living) c.get-shared.ensures in
    let L : List LivingValue → Type 0 = λ l. AreActRows world l class.rows.items in
    let R : List (Bor (List Bool)) → Type 0 = λ r. AreActRows world living r in
    let rows = subst R (sym c.as_slice-rows.ensures.value) (subst L (sym own_living) (c.self.invariant.rows_are n class there)) in
    let A : List LivingValue → Type 0 = λ l. AreActing text l found in
    let G : MemoValue → Type 0 = λ memo. slice_get memo.classes n ≡ Some it → IsAction memo.world c.args.a text → FindsAlike memo.world it.shared text c.frame.result found in
    subst G c.self.view_is
    (λ at asked other among alike applicable access shared.
    let same : class ≡ it = some_same class it (sym there ∙ at) in
    let acting = subst A own_living (c.in_ok-put_acting.ensures world rows asked) in
    let K : Class → Type 0 = λ k. ActAlike text other k.shared.living in
    let acts = same_acting text other class.shared.living found (subst K (sym same) alike) acting in
    let S : Class → Type 0 = λ k. IsShared world.actions applicable access k.shared in (
      c.frame.ensures ∙ ap (λ (s : SharedValue). s.frame) c.get-shared.ensures ∙ ap (λ (k : Class). k.shared.frame) same,
      c.acting_are_found.ensures.found world.actions applicable access other class.shared found among (subst S (sym same) shared) acts,
    ))

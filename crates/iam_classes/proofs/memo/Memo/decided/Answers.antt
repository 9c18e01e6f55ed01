use Rattle.std.proofs.Common.{◌≡◌, ◌*◌, ◌+◌, ◌<◌, ◌≤◌, All, Bool, Bor, IfSome, List, Some, length, map, sym, ap, ◌∙◌, subst, arith}
use Rattle.std.proofs.lemmas.List.{length-map}
use Rattle.std.proofs.lemmas.Option.{slice_get-get_or}
use Rattle.std.specs.List.{slice_get}
use Rattle.iam_decision.specs.Living.{LivingValue, SharedValue, living_value}
use Rattle.iam_decision.specs.declared.living.Matched.{Matched}
use Rattle.iam_classes.specs.Span.{count_of}
use Rattle.iam_classes.specs.Batches.{IsBatch, RowsTell}
use Rattle.iam_classes.specs.declared.memo.Class.{Class}
use Rattle.iam_classes.specs.Memo.{MemoValue}
use Rattle.iam_index.proofs.ListLemmas.{some_same}
use Rattle.iam_classes.proofs.BatchLemmas.{batch_of, matched_values}
use Rattle.iam_classes.proofs.memo.Memo.decided.Goals as goal

pub returns-clause-some : goal.returns-clause-some
returns-clause-some c =
    let own = c.self.inside in
    let world = own.world.now in
    let classes = own.classes.items in
    let class = c.index-class.result.now in
    let n = c.args.class in
    let statements : List Matched = map (λ l. l.matched) c.living.result.now in
    let K : MemoValue → Type 0 = λ memo. n < length memo.classes in
    let there : slice_get classes n ≡ Some class =
    slice_get-get_or classes n class (subst K (sym c.self.view_is) c.requires.class) ∙ ap Some (sym c.index-class.ensures) in
    let own_living = c.living.ensures ∙ ap (λ (s : SharedValue). s.living) c.get-shared.ensures in
    let frame = c.frame.ensures ∙ ap (λ (s : SharedValue). s.frame) c.get-shared.ensures in
    let same : statements ≡ map (λ (l : LivingValue). l.matched) class.shared.living =
    matched_values c.living.result.now ∙ ap (map (λ (l : LivingValue). l.matched)) own_living in
    let count : c.min-count.result ≡ count_of world c.args.number = omega (arith, c.min-count.ensures, c.actions-actions.ensures) in
    let M : MemoValue → Type 0 = λ memo. IfSome c.decided.result (IsBatch memo.world memo.classes n c.args.number) in
    subst M c.self.view_is
    (batch_of world classes n c.args.number (c.args.number * 64) c.min-count.result (length c.living.result.now) class c.frame.result statements c.as_slice.result.now c.decided.result
    there (c.self.invariant.rows_are n class there) frame same c.as_slice.ensures.value (omega (arith)) count c.decided.ensures.some c.decided.ensures.reach)

pub returns-clause-none : goal.returns-clause-none
returns-clause-none c = λ it found nothing tell.
    let own = c.self.inside in
    let world = own.world.now in
    let classes = own.classes.items in
    let class = c.index-class.result.now in
    let n = c.args.class in
    let number = c.args.number in
    let K : MemoValue → Type 0 = λ memo. n < length memo.classes in
    let F : MemoValue → Type 0 = λ memo. slice_get memo.classes n ≡ Some it in
    let W : MemoValue → Type 0 = λ memo. RowsTell memo.world it number in
    let R : Class → Type 0 = λ k. RowsTell world k number in
    let there : slice_get classes n ≡ Some class =
    slice_get-get_or classes n class (subst K (sym c.self.view_is) c.requires.class) ∙ ap Some (sym c.index-class.ensures) in
    let same : it ≡ class = some_same it class (sym (subst F (sym c.self.view_is) found) ∙ there) in
    let (reach, many) = subst R same (subst W (sym c.self.view_is) tell) in
    let own_living = c.living.ensures ∙ ap (λ (s : SharedValue). s.living) c.get-shared.ensures in
    let count : c.min-count.result ≡ count_of world number = omega (arith, c.min-count.ensures, c.actions-actions.ensures) in
    let L : List (Bor (List Bool)) → Type 0 = λ rows. All (λ row. number * 64 + c.min-count.result ≤ length row.now) rows in
    let all : L class.rows.items = λ k d below. let far = reach k d below in omega (arith, far, count) in
    c.decided.ensures.none nothing (
      subst L (sym c.as_slice.ensures.value) all,
      ap length c.as_slice.ensures.value ∙ many ∙ sym (ap length own_living) ∙ length-map c.living.result.now living_value,
    )

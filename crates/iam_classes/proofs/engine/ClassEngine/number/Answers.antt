use Rattle.std.proofs.Common.{◌≡◌, ◌<◌, List, length, sym, subst}
use Rattle.std.proofs.lemmas.Result.{IfOk-weaker}
use Rattle.iam_world.specs.World.{WorldValue}
use Rattle.iam_classes.specs.Span.{IsSpan}
use Rattle.iam_classes.specs.Batches.{AreBatches}
use Rattle.iam_classes.specs.Engine.{EngineValue}
use Rattle.iam_classes.specs.Memo.{MemoValue}
use Rattle.iam_classes.specs.Words.{AreWords}
use Rattle.iam_classes.specs.declared.memo.Class.{Class}
use Rattle.iam_classes.proofs.EngineLemmas.{of_number}
use Rattle.iam_classes.proofs.engine.ClassEngine.number.Goals as goal

same_both : (P : WorldValue → List Class → Type 0) (old new : MemoValue) → new.world ≡ old.world → new.classes ≡ old.classes
    → P old.world old.classes → P new.world new.classes
same_both P old new world classes holds =
    let W : WorldValue → Type 0 = λ w. P w new.classes in
    let C : List Class → Type 0 = λ cs. P old.world cs in subst W (sym world) (subst C (sym classes) holds)

pub invariant_of-self : goal.invariant_of-self
invariant_of-self c =
    let own = c.self.inside in
    same_both (λ w cs. (own.source.world ≡ w) × AreWords w cs own.words × AreBatches w cs own.batches × IsSpan w own.span) own.memo c.number.new.self
    c.number.ensures.same.0 c.number.ensures.classes c.self.invariant

pub returns-clause-number : goal.returns-clause-number
returns-clause-number c =
    let memo = c.number.new.self in
    let engine : EngineValue = record { world = memo.world; classes = memo.classes; rulings = memo.rulings; surveyed = c.self.inside.source.surveyed } in
    let A : EngineValue → Type 0 = λ e. c.args.a < length e.world.actions in
    let W : WorldValue → Type 0 = λ w. c.args.a < length w.actions in
    let below = subst W (sym c.number.ensures.same.0) (subst A (sym c.self.view_is) c.requires.action) in
    IfOk-weaker c.number.result _ _ (λ number is. of_number engine c.args.class c.args.a number below is) c.number.ensures.number

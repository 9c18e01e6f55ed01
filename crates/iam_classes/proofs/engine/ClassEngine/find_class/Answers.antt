use Rattle.std.proofs.Common.{◌≡◌, ap, sym, ◌∙◌, subst}
use Rattle.iam_columns.proofs.SlotLemmas.{all_empty}
use Rattle.iam_world.specs.World.{WorldValue}
use Rattle.iam_classes.specs.Span.{IsSpan}
use Rattle.iam_classes.specs.declared.span.Span.{Span}
use Rattle.iam_classes.specs.Batches.{IsBatch}
use Rattle.iam_classes.specs.Engine.{SourceValue}
use Rattle.iam_classes.specs.declared.batches.Batch.{Batch}
use Rattle.iam_classes.proofs.BatchLemmas.{batches_kept}
use Rattle.iam_classes.proofs.engine.ClassEngine.find_class.Goals as goal

span_kept : (old new : WorldValue) (span : Span) → new ≡ old → IsSpan old span → IsSpan new span
span_kept old new span same is = let W : WorldValue → Type 0 = λ w. IsSpan w span in subst W (sym same) is

pub invariant_of-self : goal.invariant_of-self
invariant_of-self c =
    let memo = c.class_at.new.memo in
    let (world, words, batches, span) = c.self.invariant in (
      ap (λ (s : SourceValue). s.world) c.in-Ok.ensures.source ∙ world ∙ sym c.in-Ok.ensures.same.0,
      c.in-Ok.ensures.words,
      all_empty (λ (b : Batch). IsBatch memo.world memo.classes b.class b.number b.decided) c.forget.new.self.slots.items c.forget.ensures,
      span_kept c.self.inside.memo.world memo.world c.self.inside.span c.in-Ok.ensures.same.0 span,
    )

pub invariant_of-self-else-found : goal.invariant_of-self-else-found
invariant_of-self-else-found c =
    let (world, words, batches, span) = c.self.invariant in (
      ap (λ (s : SourceValue). s.world) c.in-Ok.ensures.source ∙ world ∙ sym c.in-Ok.ensures.same.0,
      c.in-Ok.ensures.words,
      batches_kept c.self.inside.memo c.class_at.new.memo c.self.inside.batches c.in-Ok.ensures.same.0 (c.in-Ok.ensures.kept c.if-found.false) batches,
      span_kept c.self.inside.memo.world c.class_at.new.memo.world c.self.inside.span c.in-Ok.ensures.same.0 span,
    )

pub invariant_of-self-in-Err : goal.invariant_of-self-in-Err
invariant_of-self-in-Err c =
    let memo = c.class_at.new.memo in
    let (world, words, batches, span) = c.self.invariant in (
      ap (λ (s : SourceValue). s.world) c.in-Err.ensures.source ∙ world ∙ sym c.in-Err.ensures.same.0,
      c.in-Err.ensures.words,
      all_empty (λ (b : Batch). IsBatch memo.world memo.classes b.class b.number b.decided) c.forget-in-Err.new.self.slots.items c.forget-in-Err.ensures,
      span_kept c.self.inside.memo.world memo.world c.self.inside.span c.in-Err.ensures.same.0 span,
    )

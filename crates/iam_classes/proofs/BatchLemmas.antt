-- What is decided on a batch of actions is a batch of a class, and stays one.
use Rattle.std.proofs.Common.{◌≡◌, ◌*◌, ◌+◌, ◌≤◌, ℕ, Bool, Bor, List, [], ◌∷◌, ◌++◌, All, IfSome, Option, None, Some, length, map, refl, ap, sym, subst, arith}
use Rattle.std.specs.List.{slice_get}
use Rattle.iam_decision.specs.Living.{LivingValue, living_value}
use Rattle.iam_decision.specs.declared.frame.Frame.{Frame}
use Rattle.iam_decision.specs.declared.living.Living.{Living}
use Rattle.iam_decision.specs.declared.living.Matched.{Matched}
use Rattle.iam_classes.specs.Batch.{AreDecided}
use Rattle.iam_classes.specs.declared.lanes.Decided.{Decided}
use Rattle.iam_world.specs.World.{WorldValue}
use Rattle.iam_index.specs.Elements.{AreActRows}
use Rattle.iam_index.proofs.ListLemmas.{get_more}
use Rattle.iam_columns.proofs.SlotLemmas.{all_weaker}
use Rattle.iam_classes.specs.Span.{IsBatchOf, count_of}
use Rattle.iam_classes.specs.Batches.{AreBatches, IsBatch}
use Rattle.iam_classes.specs.Memo.{HasMore, MemoValue}
use Rattle.iam_classes.specs.declared.batches.Batch.{Batch}
use Rattle.iam_classes.specs.declared.batches.Batches.{Batches}
use Rattle.iam_classes.specs.declared.memo.Class.{Class}

pub matched_values : (living : List Living) → map (λ l. l.matched) living ≡ map (λ (l : LivingValue). l.matched) (map living_value living)
matched_values [] = refl
matched_values (l ∷ living) = ap (λ (z : List Matched). l.matched ∷ z) (matched_values living)

-- what is decided by the frame, the statements and the rows of a class is a batch of it
pub batch_of : (world : WorldValue) (classes : List Class) (n number from count many : ℕ) (class : Class) (frame : Frame) (statements : List Matched)
    (rows : List (Bor (List Bool))) (o : Option Decided) → slice_get classes n ≡ Some class → AreActRows world class.shared.living class.rows.items
    → frame ≡ class.shared.frame → statements ≡ map (λ l. l.matched) class.shared.living → rows ≡ class.rows.items → from ≡ 64 * number
    → count ≡ count_of world number → IfSome o (AreDecided frame statements rows from count)
    → IfSome o (λ decided. All (λ row. from + count ≤ length row.now) rows × (length rows ≡ many)) → IfSome o (IsBatch world classes n number)
batch_of world classes n number from count many class frame statements rows None at tell framed are reads begins counts decided reach = tt
batch_of world classes n number from count many class frame statements rows (Some d) at tell framed are reads begins counts decided reach =
    let living : List Matched = map (λ l. l.matched) class.shared.living in
    let own = class.rows.items in
    let F : Frame → Type 0 = λ f. AreDecided f statements rows from count d in
    let S : List Matched → Type 0 = λ l. AreDecided class.shared.frame l rows from count d in
    let R : List (Bor (List Bool)) → Type 0 = λ r. AreDecided class.shared.frame living r from count d in
    let B : ℕ → Type 0 = λ b. AreDecided class.shared.frame living own b count d in
    let C : ℕ → Type 0 = λ k. AreDecided class.shared.frame living own (64 * number) k d in
    let A : List (Bor (List Bool)) → Type 0 = λ r. All (λ row. from + count ≤ length row.now) r in
    let all = subst A reads reach.0 in
    let batch : IsBatchOf world class.shared number d = record {
      rows = own;
      tell = tell;
      reach = λ i row there. omega (arith, all i row there, begins, counts);
      are = subst C counts (subst B begins (subst R reads (subst S are (subst F framed decided))));
    } in
    (class, at, batch)

-- with more classes a batch is that of the same class
pub batches_kept : (old new : MemoValue) (batches : Batches) → new.world ≡ old.world → HasMore old.classes new.classes
    → AreBatches old.world old.classes batches → AreBatches new.world new.classes batches
batches_kept old new batches world (more, is) all =
    let W : WorldValue → Type 0 = λ w. AreBatches w new.classes batches in
    let C : List Class → Type 0 = λ cs. AreBatches old.world cs batches in
    subst W (sym world)
    (
    subst C (sym is)
    (
    all_weaker (λ (b : Batch). IsBatch old.world old.classes b.class b.number b.decided)
    (λ (b : Batch). IsBatch old.world (old.classes ++ more) b.class b.number b.decided) batches.slots.items
    (λ b (class, at, batch). (class, get_more old.classes more b.class class at, batch)) all
    )
    )

use Rattle.std.proofs.Common.{◌≡◌, ◌∙◌, ℕ, IfSome, Option, Some, sym, ap, subst}
use Rattle.iam_layers.specs.Cell.{IsSharedAt}
use Rattle.iam_world.specs.World.{WorldValue}
use Rattle.iam_index.proofs.ListLemmas.{if_some, some_same}
use Rattle.iam_columns.specs.Slots.{Keeps}
use Rattle.iam_living.specs.Asker.{AreBitsAt, IsAsker}
use Rattle.iam_living.specs.Listing.{AreAlikes, statements_of}
use Rattle.iam_living.specs.declared.asker.Asker.{Asker}
use Rattle.iam_classes.specs.Told.{IsTold}
use Rattle.iam_classes.specs.Words.{IsFoundAmong}
use Rattle.iam_classes.specs.declared.source.Told.{Told}
use Rattle.iam_classes.specs.declared.words.Words.{Words}
use Rattle.iam_classes.proofs.WordsLemmas.{alikes_kept, asker_of}
use Rattle.iam_classes.proofs.words.Words.told_class.Goals as goal

pub told-requires-clause-asker : goal.told-requires-clause-asker
told-requires-clause-asker c =
    let memo = c.args.memo.now in
    let (asker, is, same) = c.requires.asker in
    let A : WorldValue → Type 0 = λ w. IsAsker w c.args.p asker in
    (asker, is, subst A (sym c.requires.world) (asker_of memo.world memo.classes c.args.self.now asker c.args.p is c.requires.words same))

pub class_by-requires-clause-bits : goal.class_by-requires-clause-bits
class_by-requires-clause-bits c =
    let (asker, is, same) = c.requires.asker in
    let T : Told → Type 0 = IsTold c.args.source.now.world c.args.p c.args.r asker in
    let W : WorldValue → Type 0 = λ w. AreBitsAt w c.args.p c.args.r asker c.in-Words.bits in
    let still = ap (λ (w : Words). w.asker) c.in_ok-bits.ensures.same ∙ is in
    (asker, still, same, subst W c.requires.world (subst T c.in-Words.is (c.in_ok-bits.ensures.told asker is)))

pub class_with-requires-clause-shared : goal.class_with-requires-clause-shared
class_with-requires-clause-shared c =
    let (asker, is, same) = c.requires.asker in
    let T : Told → Type 0 = IsTold c.args.source.now.world c.args.p c.args.r asker in
    let W : WorldValue → Type 0 = λ w. IsSharedAt w c.args.p c.args.r c.in-Shared.shared in
    subst W c.requires.world (subst T c.in-Shared.is (c.in_ok-bits.ensures.told asker is))

pub returns-in_ok-found-in-Words-clause-words : goal.returns-in_ok-found-in-Words-clause-words
returns-in_ok-found-in-Words-clause-words c =
    let new = c.class_by.new.memo in
    let words = c.class_by.new.self in
    let made = c.in_ok-found-in-Words.ensures in
    let kept = c.keep_alike.ensures in
    let n = c.in_ok-found-in-Words.found.class in
    let (asker, is, same) = c.requires.asker in
    let still = ap (λ (w : Words). w.asker) c.in_ok-bits.ensures.same ∙ is in
    let F : ℕ → Type 0 = λ q. IsFoundAmong new.world new.classes q c.args.r (statements_of asker.listing) n in
    let O : Option ℕ → Type 0 =
    λ o. IfSome o (λ m. (a : Asker) × (c.args.self.now.asker ≡ Some a) × Keeps a.listing.alikes c.args.r m × AreAlikes a.listing) in
    let found =
    if_some _ (λ i. Keeps asker.listing.alikes c.args.r i × IsFoundAmong new.world new.classes asker.principal c.args.r (statements_of asker.listing) n)
    c.alike_by.result
    (λ i (numbered, unset).
    let (other, here, keeps, alike) = subst O numbered c.number-number.ensures in
    let K : Asker → Type 0 = λ a. Keeps a.listing.alikes c.args.r i in
    (subst K (some_same other asker (sym here ∙ is)) keeps, subst F (sym same) (made.found asker still unset)))
    c.alike_by.ensures in
    alikes_kept new.world new.classes words c.keep_alike.new.self asker c.alike_by.result c.args.r n (made.asker ∙ still) made.words kept.asker
    kept.slots kept.gains found

use Rattle.std.proofs.Common.{◌≡◌, ◌∙◌, ℕ, IfSome, Option, Some, sym, ap, subst}
use Rattle.iam_world.specs.World.{WorldValue}
use Rattle.iam_index.proofs.ListLemmas.{some_same}
use Rattle.iam_columns.specs.Slots.{Keeps}
use Rattle.iam_living.specs.Asker.{IsAsker}
use Rattle.iam_living.specs.Listing.{AreAlikes}
use Rattle.iam_living.specs.Living.{NoneConcerns}
use Rattle.iam_living.specs.declared.asker.Asker.{Asker}
use Rattle.iam_classes.specs.Memo.{HasClass, MemoValue}
use Rattle.iam_classes.specs.Words.{AreWords}
use Rattle.iam_classes.specs.declared.words.Words.{Words}
use Rattle.iam_classes.proofs.WordsLemmas.{class_of_number, words_of}
use Rattle.iam_classes.proofs.words.Words.class_at.Goals as goal

-- the class that is kept for the number of a resource is that of the principal's requests for it
number_serves : (memo : MemoValue) (words : Words) (it : Asker) (number : Option ℕ) (p r n class : ℕ) → words.asker ≡ Some it → it.principal ≡ p
    → AreWords memo.world memo.classes words
    → IfSome number (λ m. (asker : Asker) × (words.asker ≡ Some asker) × Keeps asker.listing.alikes r m × AreAlikes asker.listing)
    → number ≡ Some n → Keeps words.alikes.items n class
    → ((world : WorldValue) (asker : Asker) → words.asker ≡ Some asker → IsAsker world asker.principal asker → NoneConcerns world asker.principal r)
    → HasClass memo.world memo.classes p r class
number_serves memo words it number p r n class is same are told numbered at concerns =
    let O : Option ℕ → Type 0 =
    λ o. IfSome o (λ m. (asker : Asker) × (words.asker ≡ Some asker) × Keeps asker.listing.alikes r m × AreAlikes asker.listing) in
    let (asker, there, has, alike) = subst O numbered told in
    let asks = ap (λ (a : Asker). a.principal) (some_same asker it (sym there ∙ is)) ∙ same in
    let (asked, all, alikes) = words_of memo.world memo.classes words asker there are in
    class_of_number memo.world memo.classes words asker p r n class there are asks alike has at (concerns memo.world asker there asked)

pub alike_class-requires : goal.alike_class-requires
alike_class-requires c =
    let memo = c.args.memo.now in
    let words = c.turn_to.new.self in
    let (it, is, same) = c.turn_to.ensures.asker in
    let world = c.index.ensures ∙ c.requires.world in
    let W : WorldValue → Type 0 = λ w. AreWords w memo.classes c.args.self.now in
    let V : WorldValue → Type 0 = λ w. AreWords w memo.classes words in
    let right = subst V world (c.turn_to.ensures.right memo.classes (subst W (sym world) c.requires.words)) in
    (it, memo.world, is, (words_of memo.world memo.classes words it is right).0, c.requires.resource)

pub keep_class-requires : goal.keep_class-requires
keep_class-requires c =
    let memo = c.args.memo.now in
    let words = c.turn_to.new.self in
    let (it, is, same) = c.turn_to.ensures.asker in
    let (n, numbered, at, concerns) = c.in-Some.ensures.class in
    let world = c.index.ensures ∙ c.requires.world in
    let W : WorldValue → Type 0 = λ w. AreWords w memo.classes c.args.self.now in
    let V : WorldValue → Type 0 = λ w. AreWords w memo.classes words in
    let right = subst V world (c.turn_to.ensures.right memo.classes (subst W (sym world) c.requires.words)) in
    number_serves memo words it c.number-number.result c.args.p c.args.r n c.in-Some.class is same right c.number-number.ensures numbered at concerns

pub returns-in-Some-clause-class : goal.returns-in-Some-clause-class
returns-in-Some-clause-class c =
    let memo = c.args.memo.now in
    let words = c.turn_to.new.self in
    let (it, is, same) = c.turn_to.ensures.asker in
    let (n, numbered, at, concerns) = c.in-Some.ensures.class in
    let world = c.index.ensures ∙ c.requires.world in
    let W : WorldValue → Type 0 = λ w. AreWords w memo.classes c.args.self.now in
    let V : WorldValue → Type 0 = λ w. AreWords w memo.classes words in
    let right = subst V world (c.turn_to.ensures.right memo.classes (subst W (sym world) c.requires.words)) in
    let M : MemoValue → Type 0 = λ m. HasClass m.world m.classes c.args.p c.args.r c.in-Some.class in
    subst M (sym c.keep_class.ensures)
    (number_serves memo words it c.number-number.result c.args.p c.args.r n c.in-Some.class is same right c.number-number.ensures numbered at concerns)

pub told_class-requires-clause-asker : goal.told_class-requires-clause-asker
told_class-requires-clause-asker c =
    let (asker, is, same) = c.turn_to.ensures.asker in (asker, ap (λ (w : Words). w.asker) c.alike_class.ensures.same ∙ is, same)

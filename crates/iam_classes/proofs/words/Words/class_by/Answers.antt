use Rattle.std.proofs.Common.{◌≡◌, ◌∙◌, sym, subst}
use Rattle.std.proofs.lemmas.Option.{slice_get_within}
use Rattle.iam_decision.specs.Applicable.{ApplicableValue, frame_of}
use Rattle.iam_decision.specs.Living.{SharedValue}
use Rattle.iam_layers.specs.Cell.{IsApplicableAt, IsSharedAt}
use Rattle.iam_world.specs.World.{WorldValue}
use Rattle.iam_index.proofs.ListLemmas.{some_same}
use Rattle.iam_living.specs.Asker.{AreBitsAt}
use Rattle.iam_living.specs.Listing.{statements_of}
use Rattle.iam_living.specs.declared.asker.Asker.{Asker}
use Rattle.iam_classes.specs.Memo.{HasClass, HasShared, MemoValue}
use Rattle.iam_classes.specs.Words.{IsFoundAmong}
use Rattle.iam_classes.specs.declared.words.Word.{Word}
use Rattle.iam_classes.proofs.WordsLemmas.{asker_of, class_by_bits, class_is_word, found_by_bits, frame_of_class, shared_by_bits, words_kept, words_of}
use Rattle.iam_classes.proofs.words.Words.class_by.Goals as goal

pub frame-requires : goal.frame-requires
frame-requires c =
    let memo = c.args.memo.now in
    let (asker, is, same, told) = c.requires.bits in
    let (asked, all, alikes) = words_of memo.world memo.classes c.args.self.now asker is c.requires.words in
    let (slot, at) = c.in-Some.ensures in
    let kept : Word = record { bits = c.args.bits; class = c.in-Some.class } in
    let word = all slot kept at in
    slice_get_within memo.classes c.in-Some.class word.class word.at

pub keep_class-requires : goal.keep_class-requires
keep_class-requires c =
    let memo = c.args.memo.now in
    let p = c.args.p in
    let r = c.args.r in
    let (asker, is, same, told) = c.requires.bits in
    let (asked, all, alikes) = words_of memo.world memo.classes c.args.self.now asker is c.requires.words in
    let (slot, at) = c.in-Some.ensures in
    let kept : Word = record { bits = c.args.bits; class = c.in-Some.class } in
    let F : WorldValue → Type 0 = λ w. (a : ApplicableValue) → IsApplicableAt w p r a → c.frame-frame.result ≡ frame_of a in
    class_by_bits memo.world memo.classes p r asker kept c.frame-frame.result
    (asker_of memo.world memo.classes c.args.self.now asker p is c.requires.words same) (all slot kept at) told
    (subst F c.requires.world c.frame-frame.ensures) (λ it there. sym (c.frame.ensures it there) ∙ c.are_same.ensures c.if-are_same.true)

pub returns-then-are_same-clause-class : goal.returns-then-are_same-clause-class
returns-then-are_same-clause-class c =
    let memo = c.args.memo.now in
    let p = c.args.p in
    let r = c.args.r in
    let (asker, is, same, told) = c.requires.bits in
    let (asked, all, alikes) = words_of memo.world memo.classes c.args.self.now asker is c.requires.words in
    let (slot, at) = c.in-Some.ensures in
    let kept : Word = record { bits = c.args.bits; class = c.in-Some.class } in
    let F : WorldValue → Type 0 = λ w. (a : ApplicableValue) → IsApplicableAt w p r a → c.frame-frame.result ≡ frame_of a in
    let M : MemoValue → Type 0 = λ memo. HasClass memo.world memo.classes p r c.in-Some.class in
    subst M (sym c.keep_class.ensures)
    (class_by_bits memo.world memo.classes p r asker kept c.frame-frame.result
    (asker_of memo.world memo.classes c.args.self.now asker p is c.requires.words same) (all slot kept at) told
    (subst F c.requires.world c.frame-frame.ensures) (λ it there. sym (c.frame.ensures it there) ∙ c.are_same.ensures c.if-are_same.true))

pub returns-then-are_same-clause-found : goal.returns-then-are_same-clause-found
returns-then-are_same-clause-found c = λ asker is unset.
    let memo = c.args.memo.now in
    let p = c.args.p in
    let r = c.args.r in
    let (other, there, same, told) = c.requires.bits in
    let (asked, all, alikes) = words_of memo.world memo.classes c.args.self.now other there c.requires.words in
    let (slot, at) = c.in-Some.ensures in
    let kept : Word = record { bits = c.args.bits; class = c.in-Some.class } in
    let F : WorldValue → Type 0 = λ w. (a : ApplicableValue) → IsApplicableAt w p r a → c.frame-frame.result ≡ frame_of a in
    let M : MemoValue → Type 0 = λ memo. IsFoundAmong memo.world memo.classes p r (statements_of asker.listing) c.in-Some.class in
    let O : Asker → Type 0 = λ it. IsFoundAmong memo.world memo.classes p r (statements_of it.listing) c.in-Some.class in
    subst M (sym c.keep_class.ensures)
    (subst O (some_same other asker (sym there ∙ is))
    (found_by_bits memo.world memo.classes p r other kept c.frame-frame.result (all slot kept at) told unset
    (subst F c.requires.world c.frame-frame.ensures) (λ it here. sym (c.frame.ensures it here) ∙ c.are_same.ensures c.if-are_same.true)))

pub class_with-requires-clause-shared : goal.class_with-requires-clause-shared
class_with-requires-clause-shared c =
    let memo = c.args.memo.now in
    let p = c.args.p in
    let r = c.args.r in
    let (asker, is, same, told) = c.requires.bits in
    let (framed, living) = c.in_ok-shared.ensures asker is in
    let F : WorldValue → Type 0 = λ w. (a : ApplicableValue) → IsApplicableAt w p r a → c.frame-frame.result ≡ frame_of a in
    let S : SharedValue → Type 0 = IsSharedAt memo.world p r in
    subst S (sym c.own.ensures)
    (shared_by_bits memo.world p r asker c.args.bits c.frame-frame.result c.in_ok-shared.shared
    (asker_of memo.world memo.classes c.args.self.now asker p is c.requires.words same) told (subst F c.requires.world c.frame-frame.ensures) framed living)

pub returns-clause-words : goal.returns-clause-words
returns-clause-words c =
    let new = c.class_with.new.memo in
    let n = c.in_ok-found.found.class in
    let (asker, is, same, told) = c.requires.bits in
    let (framed, living) = c.in_ok-shared.ensures asker is in
    let S : SharedValue → Type 0 = λ s. HasShared new.classes s n in
    let word = class_is_word new.classes asker c.args.bits n c.in_ok-shared.shared (subst S c.own.ensures c.in_ok-found.ensures.shared) living in
    words_kept new.world new.classes c.class_with.new.self c.keep.new.self asker (record { bits = c.args.bits; class = n })
    (c.in_ok-found.ensures.asker ∙ is) c.in_ok-found.ensures.words c.keep.ensures.asker c.keep.ensures.alikes c.keep.ensures.gains word

pub returns-clause-found : goal.returns-clause-found
returns-clause-found c = λ asker is unset.
    let new = c.class_with.new.memo in
    let p = c.args.p in
    let r = c.args.r in
    let n = c.in_ok-found.found.class in
    let (other, there, same, told) = c.requires.bits in
    let (framed, living) = c.in_ok-shared.ensures other there in
    let kept = c.in_ok-found.ensures.same.0 in
    let W : WorldValue → Type 0 = λ w. AreBitsAt w p r other c.args.bits in
    let F : WorldValue → Type 0 = λ w. (a : ApplicableValue) → IsApplicableAt w p r a → c.frame-frame.result ≡ frame_of a in
    let S : SharedValue → Type 0 = λ s. HasShared new.classes s n in
    let O : Asker → Type 0 = λ it. IsFoundAmong new.world new.classes p r (statements_of it.listing) n in
    let has = subst S c.own.ensures c.in_ok-found.ensures.shared in
    subst O (some_same other asker (sym there ∙ is))
    (found_by_bits new.world new.classes p r other (record { bits = c.args.bits; class = n }) c.frame-frame.result
    (class_is_word new.classes other c.args.bits n c.in_ok-shared.shared has living) (subst W (sym kept) told) unset
    (subst F (c.requires.world ∙ sym kept) c.frame-frame.ensures) (frame_of_class new.classes n c.in_ok-shared.shared c.frame-frame.result has framed))

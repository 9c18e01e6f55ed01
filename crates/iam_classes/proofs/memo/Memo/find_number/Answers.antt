use Rattle.std.proofs.Common.{◌≡◌, List, ℕ, Some, sym, subst}
use Rattle.std.specs.List.{slice_get}
use Rattle.iam_decision.specs.declared.living.Matched.{Matched}
use Rattle.iam_layers.specs.Cell.{IsAction}
use Rattle.iam_world.specs.World.{WorldValue}
use Rattle.iam_classes.specs.Memo.{HasNumber, HasRuling, HasSigned, IsSign, MemoValue}
use Rattle.iam_index.specs.Elements.{ActAlike}
use Rattle.iam_index.proofs.ListLemmas.{if_some}
use Rattle.iam_classes.proofs.MemoLemmas.{numbered}
use Rattle.iam_classes.proofs.SignLemmas.{alike_named, alike_signed}
use Rattle.iam_classes.specs.declared.memo.Class.{Class}
use Rattle.iam_classes.proofs.memo.Memo.find_number.Goals as goal
use Rattle.iam_classes.proofs.memo.Memo.find_number.Goals.{In_ok-number}

-- the verdict of the number is the one on the requests of the class for each action on which the same statements act
is_number : (c : In_ok-number) (b : ℕ)
    → ((it : Class) (other : List ℕ) → slice_get c.args.self.now.classes c.args.class ≡ Some it → IsAction c.args.self.now.world b other
    → ActAlike c.action_text.result.now other it.shared.living)
    → let memo = c.ruling.new.self in HasNumber memo.world memo.classes memo.rulings c.args.class b c.in_ok-number.number
is_number c b alike =
    let new = c.ruling.new.self in
    let text = c.action_text.result.now in
    let number = c.in_ok-number.number in
    let A : MemoValue → Type 0 = λ memo. IsAction memo.world c.args.a text in
    let R : List Matched → Type 0 = λ found. HasRuling new.rulings c.in_ok-frame.frame found number in
    numbered c.args.self.now new c.args.class c.args.a b number text c.in_ok-frame.frame c.find.new.found.items c.requires.class
    (subst A c.self.view_is c.action_text.ensures) c.in_ok-frame.ensures alike (subst R c.as_slice.ensures.value c.in_ok-number.ensures.number)
    c.in_ok-number.ensures.classes c.in_ok-number.ensures.same.0

own_number : (c : In_ok-number) → let memo = c.ruling.new.self in HasNumber memo.world memo.classes memo.rulings c.args.class c.args.a c.in_ok-number.number
own_number c =
    let text = c.action_text.result.now in
    let world = c.args.self.now.world in
    let A : MemoValue → Type 0 = λ memo. IsAction memo.world c.args.a text in
    is_number c c.args.a
    (λ it other there asked. alike_named world c.args.a text other it.shared.living (subst A c.self.view_is c.action_text.ensures) asked)

pub keep_number-requires-2-clause-number : goal.keep_number-requires-2-clause-number
keep_number-requires-2-clause-number c = own_number (goal.at.keep_number-requires-2-clause-number c).In_ok-number

pub keep_number-requires-2-clause-sign : goal.keep_number-requires-2-clause-sign
keep_number-requires-2-clause-sign c =
    let old = c.args.self.now in
    let new = c.ruling.new.self in
    let n = c.args.class in
    let text = c.action_text.result.now in
    let number = c.in_ok-number.number in
    let A : MemoValue → Type 0 = λ memo. IsAction memo.world c.args.a text in
    let named = subst A c.self.view_is c.action_text.ensures in
    if_some (IsSign old.world old.classes n c.args.a) (λ w. HasSigned new.world new.classes new.rulings n w number) c.signature-word.result
    (λ w sign b signed.
    is_number (goal.at.keep_number-requires-2-clause-sign c).In_ok-number b
    (λ it other there asked.
    let C : List Class → Type 0 = λ cs. slice_get cs n ≡ Some it in
    let W : WorldValue → Type 0 = λ world. IsAction world b other in
    alike_signed text other it.shared.living w (sign it text there named)
    (signed it other (subst C (sym c.in_ok-number.ensures.classes) there) (subst W (sym c.in_ok-number.ensures.same.0) asked)))) c.signature-word.ensures

pub returns-clause-number : goal.returns-clause-number
returns-clause-number c =
    let M : MemoValue → Type 0 = λ memo. HasNumber memo.world memo.classes memo.rulings c.args.class c.args.a c.in_ok-number.number in
    subst M (sym c.keep_number-2.ensures) (own_number (goal.at.returns-clause-number c).In_ok-number)

pub returns-in-Some-clause-number : goal.returns-in-Some-clause-number
returns-in-Some-clause-number c =
    let M : MemoValue → Type 0 = λ memo. HasNumber memo.world memo.classes memo.rulings c.args.class c.args.a c.in-Some.number in
    subst M (sym c.keep_number.ensures) (c.in-Some.ensures c.args.a c.signature-word.ensures)

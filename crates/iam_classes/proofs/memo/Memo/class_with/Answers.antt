use Rattle.std.proofs.Common.{sym, subst}
use Rattle.iam_classes.specs.Memo.{HasClass, HasShared, MemoValue}
use Rattle.iam_classes.proofs.MemoLemmas.{shared_class}
use Rattle.iam_classes.proofs.memo.Memo.class_with.Goals as goal

pub keep_class-requires : goal.keep_class-requires
keep_class-requires c =
    shared_class c.args.self.now c.class_sharing.new.self c.args.p c.args.r c.in_ok-found.found.class c.args.shared c.in_ok-found.ensures.same.0 c.requires
    c.in_ok-found.ensures.class

pub returns-clause-class : goal.returns-clause-class
returns-clause-class c =
    let n = c.in_ok-found.found.class in
    let M : MemoValue → Type 0 = λ memo. HasClass memo.world memo.classes c.args.p c.args.r n in
    subst M (sym c.keep_class.ensures)
    (shared_class c.args.self.now c.class_sharing.new.self c.args.p c.args.r n c.args.shared c.in_ok-found.ensures.same.0 c.requires c.in_ok-found.ensures.class)

pub returns-clause-shared : goal.returns-clause-shared
returns-clause-shared c =
    let M : MemoValue → Type 0 = λ memo. HasShared memo.classes c.args.shared c.in_ok-found.found.class in
    subst M (sym c.keep_class.ensures) c.in_ok-found.ensures.class

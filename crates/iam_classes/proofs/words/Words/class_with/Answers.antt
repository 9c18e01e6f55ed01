use Rattle.std.proofs.Common.{sym, subst}
use Rattle.iam_world.specs.World.{WorldValue}
use Rattle.iam_classes.specs.Words.{AreWords}
use Rattle.iam_classes.proofs.WordsLemmas.{words_forgotten, words_more}
use Rattle.iam_classes.proofs.words.Words.class_with.Goals as goal

pub returns-then-found-clause-words : goal.returns-then-found-clause-words
returns-then-found-clause-words c =
    let old = c.args.memo.now in
    let new = c.class_with.new.self in
    let W : WorldValue → Type 0 = λ w. AreWords w new.classes c.forget.new.self in
    subst W (sym c.in-Ok.ensures.same.0)
    (words_forgotten old.world old.classes new.classes c.args.self.now c.forget.new.self c.requires.words c.forget.ensures.asker c.forget.ensures.empty
    c.forget.ensures.alikes)

pub returns-else-found-clause-words : goal.returns-else-found-clause-words
returns-else-found-clause-words c =
    let old = c.args.memo.now in
    let new = c.class_with.new.self in
    let W : WorldValue → Type 0 = λ w. AreWords w new.classes c.args.self.now in
    subst W (sym c.in-Ok.ensures.same.0)
    (words_more old.world old.classes new.classes c.args.self.now (c.in-Ok.ensures.kept c.if-found.false) c.requires.words)

pub returns-in-Err-clause-words : goal.returns-in-Err-clause-words
returns-in-Err-clause-words c =
    let old = c.args.memo.now in
    let new = c.class_with.new.self in
    let W : WorldValue → Type 0 = λ w. AreWords w new.classes c.forget-in-Err.new.self in
    subst W (sym c.in-Err.ensures.same.0)
    (words_forgotten old.world old.classes new.classes c.args.self.now c.forget-in-Err.new.self c.requires.words c.forget-in-Err.ensures.asker
    c.forget-in-Err.ensures.empty c.forget-in-Err.ensures.alikes)

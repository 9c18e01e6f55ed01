use Rattle.std.proofs.Common.{map}
use Rattle.iam_kinds.proofs.SpelledLemmas.{added_one}
use Rattle.iam_kinds.proofs.letters.Behind.add_unwaited.Goals as goal

pub returns-in_ok-push-in-Some-clause-exact : goal.returns-in_ok-push-in-Some-clause-exact
returns-in_ok-push-in-Some-clause-exact c =
    added_one c.args.self.now.stage c.args.self.now.waited.now
    (map (λ t. t.now) c.args.self.now.tails.now) c.args.letters.now.items c.push.new.self.items
    c.in-Some.letter (rw c.in-Some.is at c.free_letter.ensures.some) c.in_ok-push-in-Some.ensures.items

use Rattle.std.proofs.Common.{◌++◌, ◌∙◌, List, ap, map, ℕ}
use Rattle.iam_kinds.specs.Letters.{IsAdded}
use Rattle.iam_kinds.proofs.LetterLemmas.{sorted_exact, stands}
use Rattle.iam_kinds.proofs.letters.Behind.letters.Goals as goal

pub returns-clause-stand : goal.returns-clause-stand
returns-clause-stand c =
    let waited = c.args.self.now.waited.now in
    let copied = c.in_ok-extend_from_slice.ensures.items ∙ ap (λ (l : List ℕ). l ++ waited) c.in_ok-letters.ensures.items in
    stands c.args.self.now.stage waited (map (λ t. t.now) c.args.self.now.tails.now) c.extend_from_slice.new.self.items
    c.add_unwaited.new.letters.items c.sorted_letters.result.items copied c.in_ok-add_unwaited.ensures.kept
    c.in_ok-add_unwaited.ensures.others c.sorted_letters.ensures.same

pub returns-clause-exact : goal.returns-clause-exact
returns-clause-exact c =
    let waited = c.args.self.now.waited.now in
    let copied = c.in_ok-extend_from_slice.ensures.items ∙ ap (λ (l : List ℕ). l ++ waited) c.in_ok-letters.ensures.items in
    sorted_exact (IsAdded c.args.self.now.stage waited (map (λ t. t.now) c.args.self.now.tails.now)) waited
    c.extend_from_slice.new.self.items c.add_unwaited.new.letters.items c.sorted_letters.result.items copied
    c.in_ok-add_unwaited.ensures.exact c.sorted_letters.ensures.same

use Rattle.std.proofs.Common.{ℕ, IfSome, List, Option, map, refl, subst}
use Rattle.iam_match.specs.Request.{access_of}
use Rattle.iam_decision.specs.Code.Scan.{placed_value}
use Rattle.iam_columns.specs.Slots.{Keeps}
use Rattle.iam_living.specs.Word.{AreBits}
use Rattle.iam_living.proofs.ListWordLemmas.{lists_told_more}
use Rattle.iam_living.proofs.lists.list_word.Goals as goal

pub returns-in-Some-clause-word : goal.returns-in-Some-clause-word
returns-in-Some-clause-word c = λ p r derived listed at told there.
    let K : List (Option ℕ) → Type 0 = λ slots. Keeps slots c.args.n c.in-Some.word in
    told c.args.n c.in-Some.word listed (subst K c.as_slice.ensures.value c.in-Some.ensures.found) there r (access_of c.args.access) refl at

pub returns-in-Some-free_word-clause-told : goal.returns-in-Some-free_word-clause-told
returns-in-Some-free_word-clause-told c = λ p r derived at told.
    let statements = c.statements-statements.result.now in
    let (is, free) = c.in-Some-free_word.ensures in
    let O : Option ℕ → Type 0 = λ o. IfSome o (AreBits (access_of c.args.access) (map placed_value statements)) in
    lists_told_more c.args.index.now p r c.args.n derived (access_of c.args.access) c.args.lists.now.lists.items statements c.args.told.now.items
    c.tell.new.told.items c.in-Some-free_word.word c.statements-statements.ensures at (subst O is c.in_ok-word.ensures) free c.tell.ensures told

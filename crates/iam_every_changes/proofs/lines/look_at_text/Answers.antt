use Rattle.std.proofs.Common.{◌≡◌, [], inl, inr, true, get_or, refl, subst}
use Rattle.std.proofs.lemmas.Result.{on_ok_weaker}
use Rattle.std.specs.List.{slice_get}
use Rattle.iam_every.specs.Every.{IsFirst, LineValue, line_of}
use Rattle.iam_every.proofs.LineLemmas.{line_there}
use Rattle.iam_every.proofs.NamesLemmas.{one_some}
use Rattle.iam_every_changes.specs.Made.{AreOfTarget, TargetValue}
use Rattle.iam_every_changes.specs.States.{both_of}
use Rattle.iam_every_changes.proofs.CodeLemmas.{now_there, scenes_at, was_there}
use Rattle.iam_every_changes.proofs.JoinLemmas.{gains_nothing}
use Rattle.iam_every_changes.proofs.lines.look_at_text.Goals as goal

pub returns-then-not-is_first_line : goal.returns-then-not-is_first_line
returns-then-not-is_first_line c = λ was now was_at now_at. (
  [],
  inr (
    λ first. let yes = c.is_first_line.ensures.1 (now, first) in let no = c.if-not-is_first_line.true in let wrong : ⊥ = cc in wrong,
    refl,
  ),
  gains_nothing c.args.looked.now,
)

pub look_at-requires-clause-was : goal.look_at-requires-clause-was
look_at-requires-clause-was c = was_there c.args.given c.args.k c.index-both-k.result c.requires.given c.requires.line

pub look_at-requires-clause-now : goal.look_at-requires-clause-now
look_at-requires-clause-now c = now_there c.args.given c.args.k c.index-both-k-2.result c.requires.given c.requires.line

pub look_at-requires-clause-scenes : goal.look_at-requires-clause-scenes
look_at-requires-clause-scenes c =
    scenes_at c.args.given c.args.k c.index-both-k.result c.index-both-k-2.result c.args.scenes.now c.requires.given c.requires.line c.requires.scenes

pub returns : goal.returns
returns c =
    let both = both_of c.args.given.both in
    let k = c.args.k in
    let action = c.args.action.now in
    let text = c.args.text.now in
    let old = get_or c.args.given.both.before.asked.lines.now k c.index-both-k.result in
    let new = get_or c.args.given.both.after.asked.lines.now k c.index-both-k-2.result in
    let target : TargetValue = record { text = text; was = old.unnamed; now = new.unnamed } in
    let is : c.is_first_line.result ≡ true = c.if-not-is_first_line.false in
    on_ok_weaker c.look_at.result
    (λ adds was now was_at now_at.
    let (more, of, gains) = adds in
    let (line, first) = c.is_first_line.ensures.0 is in
    let own : IsFirst both.after.every.lines text k now =
    subst (IsFirst both.after.every.lines text k) (one_some (slice_get both.after.every.lines k) line now first.at now_at) first in
    let old_is = line_there c.args.given.both.before.asked.lines.now k c.index-both-k.result was was_at in
    let new_is = line_there c.args.given.both.after.asked.lines.now k c.index-both-k-2.result now now_at in
    let Of : LineValue → LineValue → Type 0 = λ a b. AreOfTarget both action (record { text = text; was = a.unnamed; now = b.unnamed }) more in
    (more, inl (own, subst (λ b. Of was b) new_is (subst (λ a. Of a (line_of new)) old_is of)), gains)) c.look_at.ensures

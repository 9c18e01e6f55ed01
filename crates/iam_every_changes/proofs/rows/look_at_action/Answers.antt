use Rattle.std.proofs.Common.{◌++◌, ℕ, refl, subst, sym}
use Rattle.std.proofs.lemmas.List.{length-map}
use Rattle.std.proofs.lemmas.Result.{on_ok_weaker}
use Rattle.std.specs.List.{range_with_len}
use Rattle.iam_every.specs.Every.{line_of}
use Rattle.iam_every_changes.specs.Made.{AreJoined, AreOfLine}
use Rattle.iam_every_changes.specs.States.{both_of}
use Rattle.iam_every_changes.proofs.JoinLemmas.{gains_both}
use Rattle.iam_every_changes.proofs.rows.look_at_action.Goals as goal

pub returns-clause-looked : goal.returns-clause-looked
returns-clause-looked c =
    let (own, are_own, first) = c.in_ok-look_at_targets.ensures in
    let Of = AreOfLine (both_of c.args.given.both) c.args.action.now in
    let lines = c.args.given.both.after.asked.lines.now in
    on_ok_weaker c.look_at_lines.result
    (λ (lined, are_lined, gains). (
      own ++ lined,
      record {
        own = own;
        are_own = are_own;
        lined = lined;
        are_lined = subst (λ (n : ℕ). AreJoined Of (range_with_len 0 n) lined) (sym (length-map lines line_of)) are_lined;
        are = refl;
      },
      gains_both c.args.looked.now c.look_at_targets.new.looked c.look_at_lines.new.looked own lined first gains,
    )) c.look_at_lines.ensures.looked

use Rattle.std.proofs.Common.{◌∷◌, [], inl, inr, List, String, chars, get_or, map, refl, string_bytes, subst, sym}
use Rattle.std.proofs.lemmas.Result.{on_ok_weaker}
use Rattle.std.specs.Global.{Global}
use Rattle.iam_kinds.specs.Shown.{AreKinds}
use Rattle.iam_kinds.specs.declared.kinds.Kinds.TheVariants.{NotShown, Shown}
use Rattle.iam_every.specs.Every.{LineValue, line_of, line_question}
use Rattle.iam_every.specs.Made.{AreShown}
use Rattle.iam_every.proofs.LineLemmas.{line_read}
use Rattle.iam_every.proofs.MadeLemmas.{all_utf8, spelled}
use Rattle.iam_every_changes.specs.Changes.{ChangedValue}
use Rattle.iam_every_changes.specs.Code.Scenes.{AreKindsOf}
use Rattle.iam_every_changes.specs.Made.{unshown_row}
use Rattle.iam_every_changes.specs.States.{both_of, joint}
use Rattle.iam_every_changes.proofs.CodeLemmas.{before_line, line_scenes, now_there, was_there}
use Rattle.iam_every_changes.proofs.lines.look_at_line.Goals as goal

pub keys_of-requires-clause-was : goal.keys_of-requires-clause-was
keys_of-requires-clause-was c = was_there c.args.given c.args.k c.index-both-k.result c.requires.given c.requires.line

pub keys_of-requires-clause-now : goal.keys_of-requires-clause-now
keys_of-requires-clause-now c = now_there c.args.given c.args.k c.index-both-k-2.result c.requires.given c.requires.line

pub scenes_of-requires-clause-was : goal.scenes_of-requires-clause-was
scenes_of-requires-clause-was c = was_there c.args.given c.args.k c.index-both-k.result c.requires.given c.requires.line

pub scenes_of-requires-clause-now : goal.scenes_of-requires-clause-now
scenes_of-requires-clause-now c = now_there c.args.given c.args.k c.index-both-k-2.result c.requires.given c.requires.line

pub line_kinds-requires-clause-scenes : goal.line_kinds-requires-clause-scenes
line_kinds-requires-clause-scenes c =
    line_scenes c.args.given c.args.k c.index-both-k.result c.index-both-k-2.result c.in_ok-scenes.scenes c.in_ok-scenes.ensures

pub look_at_texts-requires-clause-scenes : goal.look_at_texts-requires-clause-scenes
look_at_texts-requires-clause-scenes c =
    line_scenes c.args.given c.args.k c.index-both-k.result c.index-both-k-2.result c.in_ok-scenes.scenes c.in_ok-scenes.ensures

pub returns-in-Shown-clause-looked : goal.returns-in-Shown-clause-looked
returns-in-Shown-clause-looked c =
    let given = c.args.given in
    let both = both_of given.both in
    let k = c.args.k in
    let action = c.args.action.now in
    let was : LineValue = line_of (get_or given.both.before.asked.lines.now k c.index-both-k.result) in
    let now : LineValue = line_of (get_or given.both.after.asked.lines.now k c.index-both-k-2.result) in
    let was_at = line_read given.both.before.asked.lines.now k c.index-both-k.result (before_line given k c.requires.given c.requires.line) in
    let now_at = line_read given.both.after.asked.lines.now k c.index-both-k-2.result c.requires.line in
    let texts = c.as_slice.result.now in
    let told : AreKindsOf both action k (Shown c.in-Shown.texts) = subst (AreKindsOf both action k) c.in-Shown.is c.in_ok-texts.ensures.kinds in
    let (groups, own, answer) = told now now_at in
    let question = line_question (joint both) k now groups in
    let shown : AreShown question (map string_bytes texts) = record {
      utf8 = all_utf8 texts;
      kinds = subst (λ (xs : List (String Global)). AreKinds question (map chars (map string_bytes xs))) (sym c.as_slice.ensures.value)
          (subst (AreKinds question) (spelled c.in-Shown.texts.items) answer.0);
      all = answer.1;
    } in
    on_ok_weaker c.look_at_texts.result
    (λ adds.
    let (more, joined, gains) = adds was now was_at now_at in (
      more,
      record {
        was = was;
        now = now;
        was_at = was_at;
        now_at = now_at;
        either = inr (record { groups = groups; own = own; texts = map string_bytes texts; shown = shown; are = joined });
      },
      gains,
    )) c.look_at_texts.ensures

pub returns-clause-looked : goal.returns-clause-looked
returns-clause-looked c =
    let given = c.args.given in
    let both = both_of given.both in
    let k = c.args.k in
    let action = c.args.action.now in
    let was : LineValue = line_of (get_or given.both.before.asked.lines.now k c.index-both-k.result) in
    let now : LineValue = line_of (get_or given.both.after.asked.lines.now k c.index-both-k-2.result) in
    let was_at = line_read given.both.before.asked.lines.now k c.index-both-k.result (before_line given k c.requires.given c.requires.line) in
    let now_at = line_read given.both.after.asked.lines.now k c.index-both-k-2.result c.requires.line in
    let told : AreKindsOf both action k NotShown = subst (AreKindsOf both action k) c.in-NotShown.is c.in_ok-texts.ensures.kinds in
    let (groups, own, answer) = told now now_at in
    let rows : List ChangedValue = unshown_row action now ∷ [] in
    on_ok_weaker c.add.result
    (λ gains. (
      rows,
      record {
        was = was;
        now = now;
        was_at = was_at;
        now_at = now_at;
        either = inl (record { at = now_at; groups = groups; own = own; passes = answer }, refl);
      },
      gains,
    )) c.add.ensures

use Rattle.std.proofs.Common.{◌∙◌, inl, inr, ℕ, List, MatchOption, String, ap, codes, map, refl, string_bytes, subst, sym}
use Rattle.std.proofs.lemmas.Str.{chars-IsAscii}
use Rattle.std.specs.Global.{Global}
use Rattle.iam_glob.specs.Glob.{wild_sign}
use Rattle.iam_glob.specs.Signs.{signs_in}
use Rattle.iam_every.proofs.LineLemmas.{ascii}
use Rattle.iam_every_changes.specs.Changes.{ActionsPassIn}
use Rattle.iam_every_changes.specs.Code.Given.{target_of}
use Rattle.iam_every_changes.specs.Made.{AreAsked, AreMade, AreTargets, TargetValue, unshown_row}
use Rattle.iam_every_changes.specs.States.{both_of}
use Rattle.iam_every_changes.proofs.TargetLemmas.{all_changes}
use Rattle.iam_every_changes.proofs.rows.changes_of.Goals as goal

pub returns-in_default-clause-changes : goal.returns-in_default-clause-changes
returns-in_default-clause-changes c =
    let both = both_of c.args.both in
    let passes : ActionsPassIn both =
    subst (λ o. MatchOption o (ActionsPassIn both) (λ actions. AreAsked both (map string_bytes actions.items))) c.in_default.is c.in_ok-actions.ensures in
    let (rows, are, gains) = c.in_ok-tell_lines.ensures in
    let made : AreMade both rows =
    inl (passes, are ∙ ap (λ (w : List ℕ). map (unshown_row w) both.after.every.lines) c.action_text.ensures) in
    all_changes c.one_request.ensures c.one_decision_at.ensures.request c.own_groups_tell_apart.ensures.actions both c.nothing-looked.result c.tell_lines.new.looked
    c.requires.both c.in_ok-targets.ensures.utf8 c.nothing-looked.ensures.rows c.nothing-looked.ensures.some (rows, made, gains)

pub look_at_all-requires-clause-given : goal.look_at_all-requires-clause-given
look_at_all-requires-clause-given c = record {
  both = c.requires.both;
  arn = c.signs.ensures ∙ c.in_ok-arn.ensures ∙ ap (map wild_sign) (chars-IsAscii (codes "arn:*:*:*:*:*") (ascii (codes "arn:*:*:*:*:*") refl));
  none = c.new-none.ensures.items;
  patterns = ap (λ patterns. map signs_in patterns) c.as_slice.ensures.value ∙ c.in_ok-patterns.ensures;
  targets = subst (λ l. AreTargets (both_of c.args.both) (map target_of l)) (sym c.as_slice-2.ensures.value) c.in_ok-targets.ensures.targets;
}

pub returns-clause-changes : goal.returns-clause-changes
returns-clause-changes c =
    let both = both_of c.args.both in
    let targets : List TargetValue = map target_of c.as_slice-2.result.now in
    let are : AreTargets both targets =
    subst (λ l. AreTargets both (map target_of l)) (sym c.as_slice-2.ensures.value) c.in_ok-targets.ensures.targets in
    let asked : AreAsked both (map string_bytes c.as_slice-3.result.now) =
    subst (λ (l : List (String Global)). AreAsked both (map string_bytes l)) (sym c.as_slice-3.ensures.value)
    (subst (λ o. MatchOption o (ActionsPassIn both) (λ actions. AreAsked both (map string_bytes actions.items))) c.in-Some.is c.in_ok-actions.ensures) in
    let (rows, joined, gains) = c.in_ok-look_at_all.ensures.looked in
    let made : AreMade both rows = inr (targets, map string_bytes c.as_slice-3.result.now, are, asked, joined) in
    all_changes c.one_request.ensures c.one_decision_at.ensures.request c.own_groups_tell_apart.ensures.actions both c.nothing-looked.result c.look_at_all.new.looked
    c.requires.both c.in_ok-targets.ensures.utf8 c.nothing-looked.ensures.rows c.nothing-looked.ensures.some (rows, made, gains)

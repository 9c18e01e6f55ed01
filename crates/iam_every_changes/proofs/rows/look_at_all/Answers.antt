use Rattle.std.proofs.Common.{◌≡◌, ◌+◌, ◌∷◌, [], ◌++◌, ◌∙◌, ℕ, List, String, ap, get_or, map, string_bytes, subst, sym, take}
use Rattle.std.proofs.lemmas.List.{map_more}
use Rattle.std.specs.Global.{Global}
use Rattle.iam_every_changes.specs.Code.Given.{target_of}
use Rattle.iam_every_changes.specs.Code.Looked.{Adds}
use Rattle.iam_every_changes.specs.Made.{AreJoined, AreOfAction}
use Rattle.iam_every_changes.specs.States.{both_of}
use Rattle.iam_every_changes.proofs.JoinLemmas.{adds_more}
use Rattle.iam_every_changes.proofs.rows.look_at_all.Goals as goal

pub loop-action-preserved : goal.loop-action-preserved
loop-action-preserved c =
    let actions = c.args.actions.now in
    let i = c.loop-action.action-index in
    let action = c.as_str.result.now in
    let before = map string_bytes (take i actions) in
    let Of = AreOfAction (both_of c.args.given.both) (map target_of c.args.given.targets.now) in
    let is : action ≡ string_bytes (get_or actions i c.action-item.result) =
    c.as_str.ensures.value ∙ ap (λ (x : String Global). string_bytes x) c.action-item.is in
    let taken : before ++ (action ∷ []) ≡ map string_bytes (take (i + 1) actions) =
    ap (λ (x : List ℕ). before ++ (x ∷ [])) is ∙ sym (map_more string_bytes actions i c.action-item.result c.loop-action-test.true) in
    record {
      walks = c.look_at_action.ensures.walks;
      looked = subst (λ (l : List (List ℕ)). Adds c.args.looked.now (AreJoined Of l) c.look_at_action.new.looked) taken
          (adds_more Of before action c.args.looked.now c.loop-action.looked c.look_at_action.new.looked c.loop-action.invariant.looked
          c.in_ok-look_at_action.ensures.looked);
    }

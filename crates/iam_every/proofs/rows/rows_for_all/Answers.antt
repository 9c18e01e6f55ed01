use Rattle.std.proofs.Common.{◌≡◌, inr, ◌+◌, ◌<◌, ◌∷◌, [], ◌++◌, List, ℕ, Some, String, arith, get_or, length, map, sym, ap, subst, take, ◌∙◌, string_bytes}
use Rattle.std.proofs.lemmas.List.{get_or-map, length-map, map-append, map_more, take_all}
use Rattle.std.proofs.lemmas.Option.{slice_get_read}
use Rattle.std.specs.Arc.{arc_value}
use Rattle.std.specs.Global.{Global}
use Rattle.iam_every.specs.Every.{IsMeantAction, every_of, row_of}
use Rattle.iam_every.specs.Made.{AreJoined, AreOfAction}
use Rattle.iam_every.proofs.MadeLemmas.{joined_more}
use Rattle.iam_every.proofs.RowLemmas.{AreRowsOfActions, actions_all, actions_more}
use Rattle.iam_every.proofs.WalkLemmas.{at_map}
use Rattle.iam_every.proofs.rows.rows_for_all.Goals as goal

pub rows_for-requires-clause-told : goal.rows_for-requires-clause-told
rows_for-requires-clause-told c =
    let actions = c.args.actions.now in
    let i = c.loop-i.i in
    let all = map string_bytes actions in
    let x = c.index-actions-i.result in
    let is : string_bytes x ≡ get_or all i (string_bytes x) = at_map string_bytes actions i x c.loop-i-test.true c.index-actions-i.is in
    let at = slice_get_read all (length actions) i (string_bytes x) (sym (length-map actions (λ (x : String Global). string_bytes x))) c.loop-i-test.true is in
    (all, at ∙ ap (λ (t : List ℕ). Some t) (sym (c.in_ok-shared.ensures ∙ c.as_str.ensures.value)), c.requires.named, c.requires.star, c.requires.lined)

pub loop-i-preserved : goal.loop-i-preserved
loop-i-preserved c =
    let given = c.args.given in
    let every = every_of given.asked in
    let p = given.p in
    let actions = c.args.actions.now in
    let i = c.loop-i.i in
    let action = string_bytes (arc_value c.in_ok-shared.shared) in
    let before = map string_bytes (take i actions) in
    let rows = map row_of c.loop-i.rows.items in
    let more = map row_of c.in_ok-further.further.items in
    let is : action ≡ string_bytes (get_or actions i c.index-actions-i.result) = c.in_ok-shared.ensures ∙ c.as_str.ensures.value ∙ ap (λ (x : String Global). string_bytes x) c.index-actions-i.is in
    let within : i < length (map string_bytes actions) = omega (arith, c.loop-i-test.true, length-map actions (λ (x : String Global). string_bytes x)) in
    let meant : IsMeantAction every action =
    subst (IsMeantAction every) (get_or-map string_bytes actions i c.index-actions-i.result action c.loop-i-test.true ∙ sym is)
    (c.requires.actions.meant i action within) in
    let joined : map row_of c.append.new.self.items ≡ rows ++ more =
    ap (map row_of) c.in_ok-append.ensures.items ∙ map-append row_of c.loop-i.rows.items c.in_ok-further.further.items in
    let taken : before ++ (action ∷ []) ≡ map string_bytes (take (i + 1) actions) =
    ap (λ (x : List ℕ). before ++ (x ∷ [])) is ∙ sym (map_more string_bytes actions i c.index-actions-i.result c.loop-i-test.true) in
    let now = map row_of c.append.new.self.items in
    let Made = AreOfAction every p in
    record {
      rows = subst (λ (xs : List (List ℕ)). AreRowsOfActions every p xs now) taken
          (subst (AreRowsOfActions every p (before ++ (action ∷ []))) (sym joined)
          (actions_more every p before rows more action c.loop-i.invariant.rows meant c.in_ok-further.ensures.rows));
      made = subst (λ (xs : List (List ℕ)). AreJoined Made xs now) taken
          (subst (AreJoined Made (before ++ (action ∷ []))) (sym joined)
          (joined_more Made before action rows more c.loop-i.invariant.made c.in_ok-further.ensures.made));
    }

pub returns : goal.returns
returns c =
    let given = c.args.given in
    let every = every_of given.asked in
    let actions = c.args.actions.now in
    let rows = map row_of c.loop-i.rows.items in
    let all = take_all c.loop-i.i actions (omega (arith, c.loop-i-test.false)) in
    actions_all every given.p (map string_bytes actions) rows c.requires.actions
    (subst (λ (xs : List (String Global)). AreRowsOfActions every given.p (map string_bytes xs) rows) all c.loop-i.invariant.rows)
    (inr (
      map string_bytes actions,
      c.requires.asked,
      subst (λ (xs : List (String Global)). AreJoined (AreOfAction every given.p) (map string_bytes xs) rows) all c.loop-i.invariant.made,
    ))

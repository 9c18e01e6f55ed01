use Rattle.std.proofs.Common.{◌≡◌, ◌+◌, ◌∷◌, [], ◌++◌, ◌∙◌, ℕ, List, String, arith, ap, get_or, map, string_bytes, subst, sym, take}
use Rattle.std.proofs.lemmas.List.{map_more, take_all}
use Rattle.std.specs.Global.{Global}
use Rattle.iam_every_changes.specs.Code.Looked.{Adds}
use Rattle.iam_every_changes.specs.Made.{AreJoined, AreOfText}
use Rattle.iam_every_changes.specs.States.{both_of}
use Rattle.iam_every_changes.proofs.JoinLemmas.{adds_more}
use Rattle.iam_every_changes.proofs.lines.look_at_texts.Goals as goal

pub loop-text-preserved : goal.loop-text-preserved
loop-text-preserved c = λ was now was_at now_at.
    let texts = c.args.texts.now in
    let i = c.loop-text.text-index in
    let text = c.as_str.result.now in
    let before = map string_bytes (take i texts) in
    let Of = AreOfText (both_of c.args.given.both) c.args.action.now c.args.k was now in
    let is : text ≡ string_bytes (get_or texts i c.text-item.result) =
    c.as_str.ensures.value ∙ ap (λ (x : String Global). string_bytes x) c.text-item.is in
    let taken : before ++ (text ∷ []) ≡ map string_bytes (take (i + 1) texts) =
    ap (λ (x : List ℕ). before ++ (x ∷ [])) is ∙ sym (map_more string_bytes texts i c.text-item.result c.loop-text-test.true) in
    subst (λ (l : List (List ℕ)). Adds c.args.looked.now (AreJoined Of l) c.look_at_text.new.looked) taken
    (adds_more Of before text c.args.looked.now c.loop-text.looked c.look_at_text.new.looked (c.loop-text.invariant was now was_at now_at)
    (c.in_ok-look_at_text.ensures was now was_at now_at))

pub returns : goal.returns
returns c = λ was now was_at now_at.
    let texts = c.args.texts.now in
    let Of = AreOfText (both_of c.args.given.both) c.args.action.now c.args.k was now in
    let all = take_all c.loop-text.text-index texts (omega (arith, c.loop-text-test.false)) in
    subst (λ (l : List (String Global)). Adds c.args.looked.now (AreJoined Of (map string_bytes l)) c.loop-text.looked) all
    (c.loop-text.invariant was now was_at now_at)

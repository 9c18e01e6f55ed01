use Rattle.std.proofs.Common.{◌≡◌, ◌+◌, ◌∷◌, [], ◌++◌, ◌∙◌, ℕ, Bor, IfNone, IfSome, List, arith, ap, get_or, map, subst, sym, take}
use Rattle.std.proofs.lemmas.List.{get_or-map, length-map, map-append, map_more}
use Rattle.std.specs.List.{AllZip}
use Rattle.iam_every_changes.specs.Code.Given.{target_of}
use Rattle.iam_every_changes.specs.Made.{IsAsked, IsTarget}
use Rattle.iam_every_changes.specs.States.{both_of}
use Rattle.iam_every_changes.proofs.JoinLemmas.{both_more}
use Rattle.iam_every_changes.proofs.own.targets_of.Goals as goal
use Rattle.iam_every_changes.proofs.own.targets_of.Goals.{in-Some+in_ok-push, in_default}

pub loop-text-preserved : goal.loop-text-preserved
loop-text-preserved c =
    let both = both_of c.args.both in
    let now : Bor (List ℕ) → List ℕ = λ text. text.now in
    let empty : Bor (List ℕ) = record { ref_ptr = (0, 0); now = [] } in
    let i = c.loop-text.text-index in
    let text = (get_or c.args.texts.now i empty).now in
    let before = map now (take i c.args.texts.now) in
    let more : before ++ (text ∷ []) ≡ map now (take (i + 1) c.args.texts.now) = sym (map_more now c.args.texts.now i empty c.loop-text-test.true) in
    let Fit : List (List ℕ) → Type 0 = λ l. AllZip (IsTarget both) l (map target_of c.match-target_in.targets.items) in
    elim c.match-target_in.branch [
      | in-Some+in_ok-push w ↦
          let target = w.in-Some.target in
          let is : IsTarget both text (target_of target) =
          subst (λ o. IfSome o (λ t. IsTarget both text (target_of t))) w.in-Some.is c.target_in.ensures.some in
          let pushed : map target_of c.match-target_in.targets.items ≡ map target_of c.loop-text.targets.items ++ (target_of target ∷ []) =
          ap (λ v. map target_of v.items) w.targets-is ∙ ap (map target_of) w.in_ok-push.ensures.items
          ∙ map-append target_of c.loop-text.targets.items (target ∷ []) in
          subst Fit more (subst (AllZip (IsTarget both) (before ++ (text ∷ []))) (sym pushed)
          (both_more (IsTarget both) before (map target_of c.loop-text.targets.items) text (target_of target) c.loop-text.invariant is))
      | in_default w ↦
          let never = subst (λ o. IfNone o (¬ IsAsked both.after.every.lines text)) w.in_default.is c.target_in.ensures.none in
          let count = length-map c.args.texts.now now in
          let asked : IsAsked both.after.every.lines text =
          subst (IsAsked both.after.every.lines) (get_or-map now c.args.texts.now i empty text c.loop-text-test.true)
          (c.requires.asked i text (omega (arith, c.loop-text-test.true, count))) in
          absurd (never asked)
    ]

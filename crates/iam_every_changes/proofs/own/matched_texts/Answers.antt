use Rattle.std.proofs.Common.{◌≡◌, ◌<◌, ◌+◌, ◌∷◌, [], ◌++◌, ◌∙◌, ℕ, Bor, List, arith, ap, get_or, length, map, subst, sym, take}
use Rattle.std.proofs.lemmas.List.{get_or-map, length-map, map-append}
use Rattle.iam_decision.specs.Matched.{Selects}
use Rattle.iam_every.specs.Every.{line_of}
use Rattle.iam_every.proofs.WalkLemmas.{select_more, select_skip}
use Rattle.iam_every_changes.specs.Made.{IsAsked}
use Rattle.iam_every_changes.proofs.CodeLemmas.{asked_if, unasked_if}
use Rattle.iam_every_changes.proofs.own.matched_texts.Goals as goal
use Rattle.iam_every_changes.proofs.own.matched_texts.Goals.{then-is_some+in_ok-push, else-is_some}

pub loop-text-preserved : goal.loop-text-preserved
loop-text-preserved c =
    let now : Bor (List ℕ) → List ℕ = λ text. text.now in
    let empty : Bor (List ℕ) = record { ref_ptr = (0, 0); now = [] } in
    let lines = map line_of c.args.lines.now in
    let i = c.loop-text.text-index in
    let texts = map now c.args.texts.now in
    let item = get_or c.args.texts.now i empty in
    let text = item.now in
    let matched = map now c.loop-text.matched.items in
    let count = length-map c.args.texts.now now in
    let inside : i < length texts = omega (arith, c.loop-text-test.true, count) in
    let is = sym (get_or-map now c.args.texts.now i empty text c.loop-text-test.true) in
    let So : List (List ℕ) → Type 0 = λ l. Selects (IsAsked lines) (take (i + 1) texts) l in
    elim c.if-is_some.branch [
      | then-is_some+in_ok-push w ↦
          let pushed : map now c.if-is_some.matched.items ≡ matched ++ (text ∷ []) =
          ap (λ v. map now v.items) w.matched-is ∙ ap (map now) w.in_ok-push.ensures.items ∙ map-append now c.loop-text.matched.items (item ∷ []) in
          let asked = asked_if lines text c.first_line.result c.first_line.ensures (sym c.is_some.ensures ∙ w.if-is_some.true) in
          subst So (sym pushed) (select_more (IsAsked lines) texts i text matched inside is c.loop-text.invariant asked)
      | else-is_some w ↦
          let never = unasked_if lines text c.first_line.result c.first_line.ensures (sym c.is_some.ensures ∙ w.if-is_some.false) in
          subst So (ap (λ v. map now v.items) (sym w.matched-is)) (select_skip (IsAsked lines) texts i text matched inside is c.loop-text.invariant never)
    ]

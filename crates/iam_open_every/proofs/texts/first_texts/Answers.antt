use Rattle.std.proofs.Common.{◌∷◌, [], ◌++◌, ◌∙◌, ℕ, List, String, append_assoc, ap, map, string_bytes, subst, sym}
use Rattle.std.specs.Global.{Global}
use Rattle.iam_decision.specs.Matched.{Selects}
use Rattle.iam_every.specs.Code.Rows.{IsFirstOf}
use Rattle.iam_every.specs.Every.{line_of}
use Rattle.iam_open_every.proofs.TextLemmas.{next_passed, next_pushed}
use Rattle.iam_open_every.proofs.texts.first_texts.Goals as goal

pub loop-text-preserved-in-Continue-1 : goal.loop-text-preserved-in-Continue-1
loop-text-preserved-in-Continue-1 c =
    let P = λ (text : List ℕ). IsFirstOf (map line_of c.args.lines.now) text c.args.k in
    let done = c.loop-text.yielded in
    let text = c.in-Some.text in
    let it = subst P c.as_str.ensures.value (c.is_first_line.ensures.0 c.if-is_first_line.true) in
    record {
      parts = append_assoc done (text ∷ []) c.next.new.self.rest.items ∙ ap (λ (t : List (String Global)). done ++ t) (sym c.in-Some.ensures.steps.0) ∙ c.loop-text.invariant.parts;
      first = subst (λ (l : List (String Global)). Selects P (map string_bytes (done ++ text ∷ [])) (map string_bytes l)) (sym {A = List (String Global)} c.in_ok-push.ensures.items)
          (next_pushed P done c.loop-text.first.items text c.loop-text.invariant.first it);
    }

pub loop-text-preserved : goal.loop-text-preserved
loop-text-preserved c =
    let P = λ (text : List ℕ). IsFirstOf (map line_of c.args.lines.now) text c.args.k in
    let done = c.loop-text.yielded in
    let text = c.in-Some.text in
    let never : ¬ P (string_bytes text) = λ it.
    let yes = c.is_first_line.ensures.1 (subst P (sym c.as_str.ensures.value) it) in
    let no = c.if-is_first_line.false in let wrong : ⊥ = cc in wrong in
    record {
      parts = append_assoc done (text ∷ []) c.next.new.self.rest.items ∙ ap (λ (t : List (String Global)). done ++ t) (sym c.in-Some.ensures.steps.0) ∙ c.loop-text.invariant.parts;
      first = next_passed P done c.loop-text.first.items text c.loop-text.invariant.first never;
    }

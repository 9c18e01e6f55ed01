use Rattle.std.proofs.Common.{◌≡◌, ◌++◌, ◌∙◌, [], ◌∷◌, List, ℕ, ap, append-nil, sym}
use Rattle.iam_kinds.specs.Code.{waited_at, waited_in}
use Rattle.iam_kinds.proofs.GrammarLemmas.{no_colon}
use Rattle.iam_kinds.proofs.Members.{same_as}
use Rattle.iam_kinds.proofs.asked.Asked.waited.Goals as goal
use Rattle.iam_kinds.proofs.asked.Asked.waited.Goals.{in-Service+in_ok-push, in_default}

pub returns : goal.returns
returns c =
    let at = waited_at c.args.self.now.table.now.patterns.items c.args.node.now.places.items in
    let before = c.in_ok-waited.ensures ∙ ap (λ l. waited_at c.args.self.now.table.now.patterns.items l) c.deref.ensures.value in
    let all : c.match-node.waited.items ≡ at ++ waited_in c.args.node.now.stage.part = elim c.match-node.branch [
      | in-Service+in_ok-push w ↦
          ap (λ v. v.items) w.waited-is ∙ w.in_ok-push.ensures.items ∙ ap (λ (l : List ℕ). l ++ (58 ∷ [])) before
          ∙ ap (λ s. at ++ waited_in s) (sym w.in-Service.is)
      | in_default w ↦
          ap (λ v. v.items) w.waited-is ∙ before ∙ sym (append-nil at) ∙ ap (λ (l : List ℕ). at ++ l) (sym (no_colon c.args.node.now.stage.part w.in_default.not-Service))
    ] in
    same_as _ _ _ c.sorted_letters.ensures.same all

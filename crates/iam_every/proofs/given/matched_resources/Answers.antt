use Rattle.std.proofs.Common.{◌≡◌, ◌+◌, ◌∷◌, [], ◌++◌, ◌∙◌, ℕ, Any, List, ap, arith, chars, map, subst, sym}
use Rattle.std.proofs.lemmas.List.Elements.{All-push}
use Rattle.std.specs.List.{All, range_with_len, slice_get}
use Rattle.iam_glob.specs.Glob.{Matches}
use Rattle.iam_decision.specs.Matched.{Selects}
use Rattle.iam_world.specs.World.{ResourceValue}
use Rattle.iam_layers.specs.Cell.{IsResource}
use Rattle.iam_every.specs.Code.Rows.{IsFirstOf}
use Rattle.iam_every.specs.Every.{IsFirst, IsMatched, line_of}
use Rattle.iam_every.proofs.LineLemmas.{first_some}
use Rattle.iam_every.proofs.MeantLemmas.{next_chosen, next_passed}
use Rattle.iam_every.proofs.NamesLemmas.{one_some}
use Rattle.iam_every.proofs.given.matched_resources.Goals as goal
use Rattle.iam_every.proofs.given.matched_resources.Goals.{then-has_line+in_ok-push, else-has_line}

pub loop-r-preserved : goal.loop-r-preserved
loop-r-preserved c =
    let world = c.args.world.now in
    let lines = map line_of c.args.lines.now in
    let r = c.loop-r.r in
    let text = c.resource_text.result.now in
    let (resource, at, is) = c.resource_text.ensures in
    let before = c.loop-r.matched.items in
    let P = IsMatched world lines in
    let First : ℕ → Type 0 = λ s. IsResource world s (λ found. (k : ℕ) × IsFirstOf lines found.arn k) in
    let Are : List ℕ → Type 0 = λ l. Selects P (range_with_len 0 (r + 1)) l × All First l in
    let both : Are c.if-has_line.matched.items = elim c.if-has_line.branch [
      | then-has_line+in_ok-push w ↦
          let (k, (line, first)) = c.has_line.ensures.some.0 w.if-has_line.true in
          let its : IsFirst lines resource.arn k line = subst (λ (t : List ℕ). IsFirst lines t k line) is first in
          let pushed : c.if-has_line.matched.items ≡ before ++ r ∷ [] = ap (λ v. v.items) w.matched-is ∙ w.in_ok-push.ensures.items in
          subst Are (sym pushed) (
            next_chosen P r before c.loop-r.invariant.selected (resource, at, first_some lines resource.arn k line its),
            All-push First before r c.loop-r.invariant.first (resource, at, (k, (line, its))),
          )
      | else-has_line w ↦
          let unmatched : ¬ P r = λ (found, there, some).
          let same : found.arn ≡ text = ap (λ (x : ResourceValue). x.arn) (one_some (slice_get world.resources r) found resource there at) ∙ sym is in
          c.has_line.ensures.none w.if-has_line.false (subst (λ (x : List ℕ). Any (λ line. Matches line.pattern (chars x)) lines) same some) in
          subst Are (ap (λ v. v.items) (sym w.matched-is)) (next_passed P r before c.loop-r.invariant.selected unmatched, c.loop-r.invariant.first)
    ] in
    record { selected = both.0; first = both.1 }

pub returns : goal.returns
returns c =
    let world = c.args.world.now in
    let lines = map line_of c.args.lines.now in
    let end : c.loop-r.r ≡ c.resources-r-end.result = omega (arith, c.loop-r-test.false, c.loop-r.auto.r-end) in
    record {
      selected = subst (λ (n : ℕ). Selects (IsMatched world lines) (range_with_len 0 n) c.loop-r.matched.items) (end ∙ c.resources-r-end.ensures) c.loop-r.invariant.selected;
      first = c.loop-r.invariant.first;
    }

use Rattle.std.proofs.Common.{◌∷◌, [], ℕ, List, map, ap, sym, ◌∙◌, subst}
use Rattle.std.proofs.lemmas.Result.{IfOk-weaker}
use Rattle.iam_decision.specs.Code.Scan.{placed_value}
use Rattle.iam_decision.specs.Living.{AreCandidates}
use Rattle.iam_decision.specs.Matched.{placed}
use Rattle.iam_decision.specs.declared.scan.Standing.{Standing}
use Rattle.iam_layers.specs.Cell.{IsAction, IsAccessAt, IsCell}
use Rattle.iam_world.specs.World.{WorldValue}
use Rattle.iam_index.proofs.IndexLemmas.{access_applies, places_map}
use Rattle.iam_index.proofs.index.Index.candidates.Goals as goal

pub returns : goal.returns
returns c =
    let world = c.args.self.now in
    let (p, a, r) = c.triple-p.result in
    let found = c.in_ok-candidates.candidates.items in
    IfOk-weaker c.places_of.result _ _
    (λ places is q b s applicable request cell (access, action, at, named, request_is).
    let C : WorldValue → Type 0 = λ w. IsCell w c.args.cell q b s in
    let same = c.triple-p.ensures.only q b s (subst C (sym c.self.view_is) cell) in
    let P : (ℕ × ℕ × ℕ) → Type 0 = λ t. IsAccessAt world t.0 t.2 applicable access in
    let N : (ℕ × ℕ × ℕ) → Type 0 = λ t. IsAction world t.1 action in
    let chosen = c.in_ok-candidates.ensures.are action applicable (subst N (sym same) named) (access_applies world p r applicable access (subst P (sym same) at)) in
    let A : List ℕ → Type 0 = λ x. AreCandidates (x ∷ []) (placed applicable) (map placed_value found) in (
      map placed_value found,
      subst A (sym (ap (λ x. x.action) request_is)) chosen,
      is ∙ ap (map (λ (x : Standing). x.place)) c.as_slice.ensures.value ∙ sym (places_map found),
    ))
    c.places_of.ensures

use Rattle.std.proofs.Common.{chars, map, ap, sym, ◌∙◌}
use Rattle.std.proofs.lemmas.Simd.{map-map}
use Rattle.iam_open_every.proofs.crew.PrincipalsCrew.tools.Goals as goal

pub returns : goal.returns
returns c = record {
  found = c.in_ok-walks.ensures.found;
  names =
      c.in_ok-walks.ensures.named ∙ ap (map (λ text. chars text.now)) c.as_slice.ensures.value
      ∙ sym (map-map chars (λ name. name.now) c.in_ok-names.names.items) ∙ ap (map chars) c.in_ok-names.ensures.are;
}

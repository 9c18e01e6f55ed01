use Rattle.std.proofs.Common.{◌∷◌, [], ◌++◌, ◌∙◌, List, String, ap, append_assoc, map, string_bytes, sym}
use Rattle.std.proofs.lemmas.List.{map-append}
use Rattle.std.specs.Global.{Global}
use Rattle.iam_open_every.specs.Spots.{SpotValue, spot_of, text_spot}
use Rattle.iam_open_every.proofs.spots.texts_spots.Goals as goal

pub loop-text-preserved : goal.loop-text-preserved
loop-text-preserved c =
    let done = c.loop-text.yielded in
    let text = c.in-Some.text in
    let f = text_spot c.args.unnamed in
    let spots = map spot_of c.loop-text.spots.items in record {
      parts = append_assoc done (text ∷ []) c.next.new.self.rest.items ∙ ap (λ (t : List (String Global)). done ++ t) (sym c.in-Some.ensures.steps.0)
          ∙ c.loop-text.invariant.parts;
      spots = ap (map spot_of) c.in_ok-push.ensures.items ∙ map-append spot_of c.loop-text.spots.items _
          ∙ ap (λ (x : SpotValue). spots ++ (x ∷ [])) c.in_ok-text_spot.ensures
          ∙ ap (λ xs. xs ++ (f (string_bytes text) ∷ [])) c.loop-text.invariant.spots
          ∙ sym (ap (map f) (map-append string_bytes done (text ∷ [])) ∙ map-append f (map string_bytes done) (string_bytes text ∷ []));
    }

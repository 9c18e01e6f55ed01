use Rattle.std.proofs.Common.{◌≡◌, ◌∙◌, Bor, List, ℕ, Option, Some, ap, cond}
use Rattle.std.specs.HashMap.{get_by}
use Rattle.std.specs.Str.{bytes_eq}
use Rattle.std.proofs.lemmas.Map.Text.{hash_map_updates_str}
use Rattle.iam_asked.specs.Code.Found.{place_behind}
use Rattle.iam_asked.specs.declared.places.Place.{Place}
use Rattle.iam_asked.proofs.TextPlaces.{place_put}
use Rattle.iam_asked.proofs.places.add.Goals as goal

pub returns : goal.returns
returns c = λ texts count has.
    let key = c.args.text.now in
    let old : List ℕ → Option Place = λ q. get_by (λ (k : Bor (List ℕ)). bytes_eq q k.now) c.args.places.now in
    let new : List ℕ → Option Place = λ q. get_by (λ (k : Bor (List ℕ)). bytes_eq q k.now) c.insert.new.self in
    let place : c.place_behind-place.result ≡ place_behind (old key) c.args.n =
    c.place_behind-place.ensures ∙ ap (λ o. place_behind o c.args.n) c.get.ensures.value in
    place_put texts c.args.n key old new count has
    (λ q. hash_map_updates_str key c.args.places.now c.insert.new.self _ c.in_ok-insert.ensures.updates q ∙ ap (λ p. cond (bytes_eq key q) (Some p) (old q)) place)

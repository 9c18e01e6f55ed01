use Rattle.std.proofs.Common.{◌≡◌, ◌++◌, ◌∙◌, ℕ, ap, length, map, subst, sym}
use Rattle.std.proofs.lemmas.List.{length-map, map-append}
use Rattle.std.specs.List.{range_with_len}
use Rattle.iam_every.specs.Code.Rows.{IsLinedBelow}
use Rattle.iam_every.specs.Every.{every_of, line_of}
use Rattle.iam_open_every.specs.Code.Spots.{AreSpotsOn}
use Rattle.iam_open_every.specs.Made.{AreJoined, AreOfLine}
use Rattle.iam_open_every.specs.Spots.{AreSpots, spot_of}
use Rattle.iam_open_every.proofs.SpotLemmas.{all_spots}
use Rattle.iam_open_every.proofs.spots.spots_of.Goals as goal

pub returns-clause-spots : goal.returns-clause-spots
returns-clause-spots c =
    let given = c.args.given in
    let every = every_of given.asked in
    let p = given.p in
    let named = map spot_of c.in_ok-spots.spots.items in
    let star = map spot_of c.in_ok-star.star.items in
    let lined = map spot_of c.in_ok-lined.lined.items in
    let first : map spot_of c.append.new.self.items ≡ named ++ star =
    ap (map spot_of) c.in_ok-append.ensures.items ∙ map-append spot_of c.in_ok-spots.spots.items c.in_ok-star.star.items in
    let all : map spot_of c.append-2.new.self.items ≡ (named ++ star) ++ lined =
    ap (map spot_of) c.in_ok-append-2.ensures.items ∙ map-append spot_of c.append.new.self.items c.in_ok-lined.lined.items
    ∙ ap (λ xs. xs ++ lined) first in
    let below : AreSpotsOn every p (IsLinedBelow every (length every.lines)) lined =
    subst (λ (n : ℕ). AreSpotsOn every p (IsLinedBelow every n) lined) (sym (length-map given.asked.lines.now line_of)) c.in_ok-lined.ensures.spots in
    subst (AreSpots every p) (sym all)
    (all_spots every p given.matched.now named star lined c.requires.given.matched c.in_ok-spots.ensures.spots c.in_ok-star.ensures.spots below)

pub returns-clause-made : goal.returns-clause-made
returns-clause-made c =
    let given = c.args.given in
    let every = every_of given.asked in
    let named = map spot_of c.in_ok-spots.spots.items in
    let star = map spot_of c.in_ok-star.star.items in
    let lined = map spot_of c.in_ok-lined.lined.items in
    record {
      named = named;
      are_named = (given.matched.now, c.requires.given.matched.selected, c.in_ok-spots.ensures.made);
      star = star;
      is_star = c.in_ok-star.ensures.made;
      lined = lined;
      are_lined = subst (λ (n : ℕ). AreJoined (AreOfLine every given.p) (range_with_len 0 n) lined) (sym (length-map given.asked.lines.now line_of))
          c.in_ok-lined.ensures.made;
      are = ap (map spot_of) c.in_ok-append-2.ensures.items ∙ map-append spot_of c.append.new.self.items c.in_ok-lined.lined.items
          ∙ ap (λ xs. xs ++ lined) (ap (map spot_of) c.in_ok-append.ensures.items ∙ map-append spot_of c.in_ok-spots.spots.items c.in_ok-star.star.items);
    }

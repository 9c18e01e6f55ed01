use Rattle.std.proofs.Common.{◌≡◌, ◌<◌, ◌+◌, ◌∷◌, [], ◌++◌, ◌∙◌, ℕ, List, ap, arith, get_or, length, map, refl, slice_index, subst, sym, take}
use Rattle.std.proofs.lemmas.Grind.{get_or_default_zero}
use Rattle.std.proofs.lemmas.List.{map-append, take_all}
use Rattle.iam_every.specs.Code.Rows.{IsNamedAmong}
use Rattle.iam_every.specs.Every.{every_of}
use Rattle.iam_every.proofs.LineLemmas.{matched_first, matched_there}
use Rattle.iam_every.proofs.NamesLemmas.{one_some}
use Rattle.iam_every.proofs.WalkLemmas.{taken_more}
use Rattle.iam_layers.specs.declared.unnamed.Unnamed.TheVariants.{Like}
use Rattle.iam_open_every.specs.Code.Spots.{AreSpotsOn}
use Rattle.iam_open_every.specs.Made.{IsOfResource}
use Rattle.iam_open_every.specs.Spots.{SpotValue, spot_of, text_spot}
use Rattle.iam_open_every.proofs.MadeLemmas.{zipped_more}
use Rattle.iam_open_every.proofs.SpotLemmas.{named_more}
use Rattle.iam_open_every.proofs.spots.named_spots.Goals as goal
use Rattle.iam_world.specs.World.{ResourceValue}
use Rattle.std.specs.List.{AllZip, slice_get}

pub resource_text-requires : goal.resource_text-requires
resource_text-requires c =
    let matched = c.args.given.matched.now in
    let i = c.loop-i.i in
    let inside : i < length matched = omega (arith, c.loop-i-test.true, c.loop-i.auto.i-end) in
    let r = slice_index matched i in
    matched_there (every_of c.args.given.asked) matched i r c.requires.given.matched inside (sym (get_or_default_zero matched i r inside))

pub loop-i-preserved : goal.loop-i-preserved
loop-i-preserved c =
    let every = every_of c.args.given.asked in
    let p = c.args.given.p in
    let matched = c.args.given.matched.now in
    let i = c.loop-i.i in
    let inside : i < length matched = omega (arith, c.loop-i-test.true, c.loop-i.auto.i-end) in
    let r = slice_index matched i in
    let is : r ≡ get_or matched i r = sym (get_or_default_zero matched i r inside) in
    let (resource, at, (k, first)) = matched_first every matched i r c.requires.given.matched inside is in
    let (its, there, named) = c.resource_text.ensures in
    let one : its ≡ resource = one_some (slice_get every.world.resources r) its resource there at in
    let spots = map spot_of c.loop-i.spots.items in
    let spot : spot_of c.in_ok-text_spot.field-0 ≡ text_spot (Like r) resource.arn =
    c.in_ok-text_spot.ensures
    ∙ ap (text_spot (Like r)) (c.in_ok-text.ensures.ok ∙ named ∙ ap (λ (x : ResourceValue). x.arn) one) in
    let now : map spot_of c.push.new.self.items ≡ spots ++ (text_spot (Like r) resource.arn ∷ []) =
    ap (map spot_of) c.in_ok-push.ensures.items ∙ map-append spot_of c.loop-i.spots.items _ ∙ ap (λ (x : SpotValue). spots ++ (x ∷ [])) spot in
    record {
      spots = subst (AreSpotsOn every p (IsNamedAmong every (take (i + 1) matched))) (sym now)
          (subst (λ (done : List ℕ). AreSpotsOn every p (IsNamedAmong every done) (spots ++ (text_spot (Like r) resource.arn ∷ [])))
          (sym (taken_more matched i r inside is)) (named_more every p (take i matched) r resource k spots c.loop-i.invariant.spots at first));
      made = subst (λ (l : List SpotValue). AllZip (IsOfResource every) (take (i + 1) matched) l) (sym now)
          (zipped_more (IsOfResource every) matched i r spots (text_spot (Like r) resource.arn) inside is c.loop-i.invariant.made (resource, at, refl));
    }

pub returns : goal.returns
returns c =
    let every = every_of c.args.given.asked in
    let all = take_all c.loop-i.i c.args.given.matched.now (omega (arith, c.loop-i-test.false)) in
    let spots = map spot_of c.loop-i.spots.items in record {
      spots = subst (λ done. AreSpotsOn every c.args.given.p (IsNamedAmong every done) spots) all c.loop-i.invariant.spots;
      made = subst (λ (done : List ℕ). AllZip (IsOfResource every) done spots) all c.loop-i.invariant.made;
    }

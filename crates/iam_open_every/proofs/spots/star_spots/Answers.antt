use Rattle.std.proofs.Common.{◌∷◌, [], ◌∙◌, inl, inr, List, ℕ, Contains, ap, codes, map, subst, sym}
use Rattle.std.proofs.lemmas.Result.{IfOk-weaker}
use Rattle.iam_every.specs.Code.Rows.{IsStar}
use Rattle.iam_every.specs.Every.{IsNamed, LineValue, every_of}
use Rattle.iam_every.proofs.LineLemmas.{in_named, line_there, named_in}
use Rattle.iam_open_every.specs.Code.Spots.{AreSpotsOn}
use Rattle.iam_open_every.specs.Spots.{spot_of, text_spot}
use Rattle.iam_open_every.proofs.SpotLemmas.{star_alone, star_named, star_unlined}
use Rattle.iam_open_every.proofs.spots.star_spots.Goals as goal

pub returns-then-is_among : goal.returns-then-is_among
returns-then-is_among c =
    let every = every_of c.args.given.asked in
    let star : List ℕ = codes "*" in
    let named = in_named every.world star (subst (λ (xs : List (List ℕ)). Contains xs star) c.requires.given.names.are (c.is_among.ensures.0 c.if-is_among.true)) in
    record {
      spots = subst (λ spots. AreSpotsOn every c.args.given.p (IsStar every) (map spot_of spots)) (sym c.new.ensures.items)
          (star_named every c.args.given.p named);
      made = inr (inl named, ap (map spot_of) c.new.ensures.items);
    }

pub returns-in-Some : goal.returns-in-Some
returns-in-Some c =
    let every = every_of c.args.given.asked in
    let p = c.args.given.p in
    let star : List ℕ = codes "*" in
    let never : ¬ IsNamed every.world star = λ named.
    let among = subst (λ (xs : List (List ℕ)). Contains xs star) (sym c.requires.given.names.are) (named_in every.world star named) in
    let found = c.is_among.ensures.1 among in
    let off = c.if-is_among.false in
    let wrong : ⊥ = cc in wrong in
    let (line, first) = c.in-Some.ensures in
    let same = line_there c.args.given.asked.lines.now c.in-Some.k c.index-given-k.result line first.at in
    let its = ap (λ (x : LineValue). text_spot x.unnamed star ∷ []) same in
    record {
      spots = IfOk-weaker c.one_spot.result _ _
          (λ spots is. subst (AreSpotsOn every p (IsStar every)) (sym (is ∙ its)) (star_alone every p c.in-Some.k line never first)) c.one_spot.ensures;
      made = IfOk-weaker c.one_spot.result _ _ (λ spots is. inl (never, (c.in-Some.k, line, first, is ∙ its))) c.one_spot.ensures;
    }

pub returns-in-None : goal.returns-in-None
returns-in-None c =
    let every = every_of c.args.given.asked in
    record {
      spots = subst (λ spots. AreSpotsOn every c.args.given.p (IsStar every) (map spot_of spots)) (sym c.new-in-None.ensures.items)
          (star_unlined every c.args.given.p c.in-None.ensures);
      made = inr (inr c.in-None.ensures, ap (map spot_of) c.new-in-None.ensures.items);
    }

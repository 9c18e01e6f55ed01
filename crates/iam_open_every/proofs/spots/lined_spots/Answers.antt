use Rattle.std.proofs.Common.{◌≡◌, ◌++◌, ◌+◌, ◌∙◌, List, ap, arith, length, map, subst, sym}
use Rattle.std.proofs.lemmas.List.{map-append}
use Rattle.std.specs.List.{range_with_len}
use Rattle.iam_every.specs.Code.Rows.{IsLinedBelow}
use Rattle.iam_every.specs.Every.{every_of}
use Rattle.iam_open_every.specs.Code.Spots.{AreSpotsOn}
use Rattle.iam_open_every.specs.Made.{AreJoined, AreOfLine}
use Rattle.iam_open_every.specs.Spots.{SpotValue, spot_of}
use Rattle.iam_open_every.proofs.MadeLemmas.{joined_next}
use Rattle.iam_open_every.proofs.SpotLemmas.{lined_more}
use Rattle.iam_open_every.proofs.spots.lined_spots.Goals as goal

pub loop-k-preserved : goal.loop-k-preserved
loop-k-preserved c =
    let every = every_of c.args.given.asked in
    let p = c.args.given.p in
    let k = c.loop-k.k in
    let spots = map spot_of c.loop-k.spots.items in
    let more = map spot_of c.in_ok-more.more.items in
    let now : map spot_of c.append.new.self.items ≡ spots ++ more =
    ap (map spot_of) c.in_ok-append.ensures.items ∙ map-append spot_of c.loop-k.spots.items c.in_ok-more.more.items in
    record {
      walks = c.in_ok-more.ensures.walks;
      spots = subst (AreSpotsOn every p (IsLinedBelow every (k + 1))) (sym now) (lined_more every p k spots more c.loop-k.invariant.spots c.in_ok-more.ensures.spots);
      made = subst (λ (l : List SpotValue). AreJoined (AreOfLine every p) (range_with_len 0 (k + 1)) l) (sym now)
          (joined_next (AreOfLine every p) k spots more c.loop-k.invariant.made c.in_ok-more.ensures.made);
    }

pub returns-clause-spots : goal.returns-clause-spots
returns-clause-spots c =
    let every = every_of c.args.given.asked in
    let done : c.loop-k.k ≡ length c.args.given.asked.lines.now = omega (arith, c.loop-k-test.false, c.loop-k.auto.k-end) in
    subst (λ n. AreSpotsOn every c.args.given.p (IsLinedBelow every n) (map spot_of c.loop-k.spots.items)) done c.loop-k.invariant.spots

pub returns-clause-made : goal.returns-clause-made
returns-clause-made c =
    let every = every_of c.args.given.asked in
    let done : c.loop-k.k ≡ length c.args.given.asked.lines.now = omega (arith, c.loop-k-test.false, c.loop-k.auto.k-end) in
    subst (λ n. AreJoined (AreOfLine every c.args.given.p) (range_with_len 0 n) (map spot_of c.loop-k.spots.items)) done c.loop-k.invariant.made

use Rattle.std.proofs.Common.{ap, arith, get_or, map, subst, sym}
use Rattle.std.proofs.lemmas.List.{length-map}
use Rattle.std.proofs.lemmas.Option.{slice_get_within}
use Rattle.iam_layers.specs.Unnamed.{IsThere}
use Rattle.iam_every.specs.Code.Told.{IsAbout, IsSaidOf}
use Rattle.iam_every.specs.Every.{LineValue, every_of, line_of}
use Rattle.iam_every.specs.declared.told.About.{About}
use Rattle.iam_every.proofs.LineLemmas.{line_has, line_there}
use Rattle.iam_every.proofs.told.unnamed_of.Goals as goal

pub returns-in-Line-clause-there : goal.returns-in-Line-clause-there
returns-in-Line-clause-there c =
    let asked = c.args.given.asked in
    let lines = asked.lines.now in
    let about = subst (λ (x : About). IsAbout (every_of asked) x) c.in-Line.is c.requires.about in
    line_has (λ (line : LineValue). IsThere asked.world.now line.unnamed) lines c.in-Line.k c.index-given-k.result c.requires.given.there
    (omega (arith, about, length-map lines line_of))

pub returns-in-Star-clause-said : goal.returns-in-Star-clause-said
returns-in-Star-clause-said c =
    let asked = c.args.given.asked in
    let k = c.in-Star.k in
    let d = c.index-given-k-in-Star.result in
    subst (λ (x : About). IsSaidOf (every_of asked) x (get_or asked.lines.now k d).unnamed) (sym c.in-Star.is)
    (λ line at. sym (ap (λ (x : LineValue). x.unnamed) (line_there asked.lines.now k d line at)))

pub returns-in-Star-clause-there : goal.returns-in-Star-clause-there
returns-in-Star-clause-there c =
    let asked = c.args.given.asked in
    let lines = asked.lines.now in
    let k = c.in-Star.k in
    let (never, (line, first)) = subst (λ (x : About). IsAbout (every_of asked) x) c.in-Star.is c.requires.about in
    let inside = slice_get_within (map line_of lines) k line first.at in
    line_has (λ (line : LineValue). IsThere asked.world.now line.unnamed) lines k c.index-given-k-in-Star.result c.requires.given.there
    (omega (arith, inside, length-map lines line_of))

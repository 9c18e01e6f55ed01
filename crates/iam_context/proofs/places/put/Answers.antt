use Rattle.std.proofs.Common.{◌∙◌, ℕ, Some, subst, sym}
use Rattle.std.specs.BTreeMap as tree
use Rattle.std.specs.Ordering.{nat_cmp}
use Rattle.iam_context.specs.Code.Places.{place_of}
use Rattle.iam_context.proofs.PlaceLemmas.{no_place, places_kept, places_more}
use Rattle.iam_context.proofs.places.put.Goals as goal

pub returns-then-contains_key : goal.returns-then-contains_key
returns-then-contains_key c = λ before entry has here is.
    places_kept c.args.places.now before entry c.args.print is has (sym c.contains_key.ensures ∙ c.if-contains_key.true)

pub returns : goal.returns
returns c = λ before entry has here is.
    let U : ℕ → Type 0 = λ n. tree.Updates nat_cmp c.args.places.now c.insert.new.self c.args.print (Some n) in
    places_more c.args.places.now c.insert.new.self before entry c.args.print is has
    (no_place (place_of c.args.places.now c.args.print) (sym c.contains_key.ensures ∙ c.if-contains_key.false))
    (subst U here c.in_ok-insert.ensures.updates)

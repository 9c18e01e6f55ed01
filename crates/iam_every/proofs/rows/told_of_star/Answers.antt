use Rattle.std.proofs.Common.{inl, List, ℕ, Contains, codes, subst, sym}
use Rattle.iam_every.specs.Every.{IsNamed}
use Rattle.iam_every.proofs.LineLemmas.{in_named, named_in}
use Rattle.iam_every.proofs.rows.told_of_star.Goals as goal

pub returns-then-is_among-clause-told : goal.returns-then-is_among-clause-told
returns-then-is_among-clause-told c =
    let star : List ℕ = codes "*" in
    inl (in_named c.args.given.asked.world.now star
    (subst (λ (xs : List (List ℕ)). Contains xs star) c.requires.given.names.are (c.is_among.ensures.0 c.if-is_among.true)))

pub told_of-requires-clause-about : goal.told_of-requires-clause-about
told_of-requires-clause-about c =
    let given = c.args.given in
    let world = given.asked.world.now in
    let star : List ℕ = codes "*" in
    let never : ¬ IsNamed world star = λ named.
    let among = subst (λ (xs : List (List ℕ)). Contains xs star) (sym c.requires.given.names.are) (named_in world star named) in
    let found = c.is_among.ensures.1 among in
    let off = c.if-is_among.false in
    let wrong : ⊥ = cc in wrong in
    (never, c.in-Some.ensures)

pub returns-in_ok-told_of-in-Some-clause-told : goal.returns-in_ok-told_of-in-Some-clause-told
returns-in_ok-told_of-in-Some-clause-told c =
    let given = c.args.given in
    let world = given.asked.world.now in
    let star : List ℕ = codes "*" in
    let never : ¬ IsNamed world star = λ named.
    let among = subst (λ (xs : List (List ℕ)). Contains xs star) (sym c.requires.given.names.are) (named_in world star named) in
    let found = c.is_among.ensures.1 among in
    let off = c.if-is_among.false in
    let wrong : ⊥ = cc in wrong in
    (c.in-Some.k, (never, c.in-Some.ensures), c.in_ok-told_of-in-Some.ensures.told)

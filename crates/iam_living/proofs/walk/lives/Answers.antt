use Rattle.std.proofs.Common.{◌≡◌, ◌↔◌, ◌<◌, Bool, true, IfOk, IfSome, IsTrue, List, Option, Some, refl, get_or, length, ap, sym, subst, ◌∙◌}
use Rattle.std.proofs.lemmas.Option.{slice_get-get_or}
use Rattle.std.proofs.lemmas.Result.{IfOk-weaker}
use Rattle.std.specs.List.{slice_get}
use Rattle.iam_match.specs.Request.{access_of}
use Rattle.iam_match.specs.Statement.{ResourceMatches}
use Rattle.iam_decision.specs.Code.Scan.{placed_value}
use Rattle.iam_decision.specs.Living.{Lives}
use Rattle.iam_decision.specs.declared.scan.Standing.{Standing}
use Rattle.iam_index.proofs.ListLemmas.{some_same}
use Rattle.iam_living.proofs.KnownLemmas.{known_matches}
use Rattle.iam_living.proofs.MarkLemmas.{is_known}
use Rattle.iam_living.proofs.walk.lives.Goals as goal

pub rest_matches_with-requires : goal.rest_matches_with-requires
rest_matches_with-requires c =
    let statements = c.statements.result.now in
    let i = c.args.i in
    let standing : Standing = get_or statements i c.index-statements-i.result in
    let B : List Standing → Type 0 = λ z. i < length z in
    let at : slice_get statements i ≡ Some standing =
    slice_get-get_or statements i c.index-statements-i.result (subst B (sym c.statements.ensures) c.requires.statement) in
    known_matches c.args.known.now statements i c.args.r standing (access_of c.args.access) c.matches-matched.result c.statements.ensures at
    c.requires.resource c.matches-matched.ensures

pub returns-clause-lives : goal.returns-clause-lives
returns-clause-lives c = λ standing there.
    let statements = c.statements.result.now in
    let i = c.args.i in
    let found : Standing = get_or statements i c.index-statements-i.result in
    let B : List Standing → Type 0 = λ z. i < length z in
    let at : slice_get statements i ≡ Some found =
    slice_get-get_or statements i c.index-statements-i.result (subst B (sym c.statements.ensures) c.requires.statement) in
    let same = some_same found standing (sym at ∙ (ap (λ (z : List Standing). slice_get z i) c.statements.ensures ∙ there)) in
    let P : Standing → Type 0 = λ s. IfOk c.rest_matches_with.result (λ lives. IsTrue lives ↔ Lives (access_of c.args.access) (placed_value s)) in
    subst P same c.rest_matches_with.ensures

pub returns-then-not-is_empty-clause-told : goal.returns-then-not-is_empty-clause-told
returns-then-not-is_empty-clause-told c = λ p derived at told. c.lives_by_conditions.ensures.told p c.args.r derived at told

pub returns-then-not-is_empty-clause-lives : goal.returns-then-not-is_empty-clause-lives
returns-then-not-is_empty-clause-lives c = λ standing there.
    let (p, derived, at, told) = c.requires.told in
    let access = access_of c.args.access in
    let matches =
    known_matches c.args.known.now c.args.known.now.statements c.args.i c.args.r standing access c.matches-matched.result refl there c.requires.resource
    c.matches-matched.ensures in
    let known : c.matches-matched.result ≡ Some true = is_known c.matches-matched.result (sym c.eq.ensures ∙ c.if-eq.true) in
    let Q : Bool → Type 0 = λ is. IsTrue is ↔ ResourceMatches standing.statement.now.resource access.resource access.context in
    let M : Option Bool → Type 0 = λ found. IfSome found Q in
    let resource = (subst M known matches).0 refl in
    IfOk-weaker c.lives_by_conditions.result _ _
    (λ lives is. (
      λ yes. let both = is.0 yes in record { principal = both.0; resource = resource; conditions = both.1 },
      λ all. is.1 (all.principal, all.conditions),
    ))
    (c.lives_by_conditions.ensures.lives p c.args.r derived standing at told there)

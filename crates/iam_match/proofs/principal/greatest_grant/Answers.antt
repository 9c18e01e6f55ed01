use Rattle.std.proofs.Common.{◌∙◌, ◌++◌, [], ◌∷◌, ap, sym, map, take}
use Rattle.std.proofs.lemmas.List.{map_more}
use Rattle.iam_match.proofs.GrantLemmas.{greatest_push, max_is}
use Rattle.iam_match.specs.Principal.{grant_of_text, greatest, higher}
use Rattle.iam_match.proofs.principal.greatest_grant.Goals as goal

pub loop-principal-preserved : goal.loop-principal-preserved
loop-principal-preserved c =
    let f = grant_of_text c.args.requester.now in
    let grants = map f (take c.loop-principal.principal-index c.args.principals.now) in
    let principal = c.principal-item.result in
    c.max-greatest.ensures
    ∙ max_is c.loop-principal.greatest c.grant_of_text.result
    ∙ ap (higher c.grant_of_text.result) c.loop-principal.invariant
    ∙ ap (λ g. higher g (greatest grants)) c.grant_of_text.ensures
    ∙ sym (
    ap greatest (map_more f c.args.principals.now c.loop-principal.principal-index principal c.loop-principal-test.true)
    ∙ ap (λ x. greatest (grants ++ f x ∷ [])) (sym c.principal-item.is)
    ∙ greatest_push grants (f principal)
    )

use Rattle.std.proofs.Common.{◌∙◌, All, Any, List, Some, subst, sym}
use Rattle.std.proofs.lemmas.Result.{IfOk-weaker}
use Rattle.iam_match.specs.Code.Compared.{TextDiffers}
use Rattle.iam_match.specs.Statement.{ResourceMatches, TextMatches}
use Rattle.iam_open.specs.Code.Certain.{Tells}
use Rattle.iam_open.specs.Code.Known.{AgreeOn}
use Rattle.iam_open.specs.declared.certain.Certain.{Certain}
use Rattle.iam_open.proofs.CertainLemmas.{tells_same}
use Rattle.iam_open.proofs.FitLemmas.{negated_same, plain_same}
use Rattle.iam_open.proofs.resource.element_certain.Goals as goal
use Rattle.iam_text.specs.declared.draft.Piece.{Piece}

pub returns-then-is_negated-clause-told : goal.returns-then-is_negated-clause-told
returns-then-is_negated-clause-told c =
    let Are = AgreeOn c.args.known.now c.args.context.now in
    let element = c.args.element.now in
    let resource = c.args.resource.now in
    let negated = sym c.is_negated.ensures ∙ c.if-is_negated.true in
    IfOk-weaker c.all_differ.result _ _
    (λ (certain : Certain) told.
    tells_same certain Are (λ other. All (TextDiffers other resource) element.texts) (λ other. ResourceMatches (Some element) resource other)
    (λ other agree. negated_same element resource other negated)
    (subst (λ (ts : List (List Piece)). Tells certain Are (λ other. All (TextDiffers other resource) ts)) c.texts.ensures told))
    c.all_differ.ensures.told

pub returns-else-is_negated-clause-told : goal.returns-else-is_negated-clause-told
returns-else-is_negated-clause-told c =
    let Are = AgreeOn c.args.known.now c.args.context.now in
    let element = c.args.element.now in
    let resource = c.args.resource.now in
    let plain = sym c.is_negated.ensures ∙ c.if-is_negated.false in
    IfOk-weaker c.some_matches.result _ _
    (λ (certain : Certain) told.
    tells_same certain Are (λ other. Any (TextMatches other resource) element.texts) (λ other. ResourceMatches (Some element) resource other)
    (λ other agree. plain_same element resource other plain)
    (subst (λ (ts : List (List Piece)). Tells certain Are (λ other. Any (TextMatches other resource) ts)) c.texts-else-is_negated.ensures told))
    c.some_matches.ensures.told

use Rattle.std.proofs.Common.{◌≡◌, [], ◌∷◌, not, sym, ◌∙◌, rules}
use Rattle.serde_json.specs.View.{view}
use Rattle.iam_shape.specs.Shape.{has_only}
use Rattle.iam_shape.specs.declared.path.Name.TheVariants.{User, Identity, Boundary, Context}
use Rattle.iam_shape.proofs.Members.{no_session_policies}
use Rattle.iam_shape.proofs.principals.has_only_of_user.Goals as goal

pub returns-clause-none : goal.returns-clause-none
returns-clause-none c = λ only.
    let d = view c.args.principal.now in
    let same : not c.has_unknown.result ≡ has_only (User ∷ (Identity ∷ (Boundary ∷ (Context ∷ [])))) d = search rules in
    no_session_policies d (sym same ∙ only)

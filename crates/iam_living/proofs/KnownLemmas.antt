-- What is known of resource elements, in requests for a resource of the world.
use Rattle.std.proofs.Common.{◌≡◌, ◌↔◌, ℕ, Bool, IsTrue, List, IfOk, IfSome, Option, Result, Ok, Err, Some, sym, ap, subst, ◌∙◌}
use Rattle.std.specs.List.{slice_get}
use Rattle.iam_match.specs.Statement.{AccessValue, ResourceMatches}
use Rattle.iam_decision.specs.declared.scan.Standing.{Standing}
use Rattle.iam_layers.specs.Cell.{IsResource}
use Rattle.iam_index.specs.Known.{KnownValue}
use Rattle.iam_columns.specs.Rows.{TellsMatch}
use Rattle.iam_index.proofs.ListLemmas.{if_some}

-- what is known of statement i and a resource of the world is so of the resource that is asked for
pub known_matches : (known : KnownValue) (statements : List Standing) (i r : ℕ) (s : Standing) (access : AccessValue) (matched : Option Bool)
    → statements ≡ known.statements → slice_get statements i ≡ Some s → IsResource known.world r (λ resource. access.resource ≡ resource.arn)
    → ((x : Standing) → slice_get known.statements i ≡ Some x → IfSome matched (TellsMatch known.world x.statement.now.resource r))
    → IfSome matched (λ is. IsTrue is ↔ ResourceMatches s.statement.now.resource access.resource access.context)
known_matches known statements i r s access matched are at (resource, there, same) tells =
    let element = s.statement.now.resource in
    let P : Bool → Type 0 = TellsMatch known.world element r in
    let Q : Bool → Type 0 = λ is. IsTrue is ↔ ResourceMatches element access.resource access.context in
    let asked : (is : Bool) → P is → Q is = λ is tell.
    let R : List ℕ → Type 0 = λ arn. IsTrue is ↔ ResourceMatches element arn access.context in
    subst R (sym same) (tell resource access.context there) in
    if_some P Q matched asked (tells s (ap (λ (z : List Standing). slice_get z i) (sym are) ∙ at))

-- what was found has a property, where that follows from another
pub if_found : {X E : Type 0} (P Q : X → Type 0) (found : Result (Option X) E) → ((x : X) → P x → Q x) → IfOk found (λ o. IfSome o P)
    → IfOk found (λ o. IfSome o Q)
if_found P Q (Ok o) weaker is = if_some P Q o weaker is
if_found P Q (Err e) weaker is = is

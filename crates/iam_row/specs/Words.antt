-- The words of reports. LOGIC 13.1.
use Rattle.std.specs.Prelude.{ℕ, List, ◌++◌, codes, decimal}
use Rattle.std.specs.List.{join_by}
use Rattle.iam_decision.specs.declared.place.Layer.{Layer}
use Rattle.iam_decision.specs.declared.place.Layer.TheVariants.{Org, Control, Resource, Identity, Boundary, Session}
use Rattle.iam_decision.specs.declared.place.Place.{Place}
use Rattle.iam_decision.specs.declared.verdict.Decision.{Decision}
use Rattle.iam_decision.specs.declared.verdict.Decision.TheVariants.{Allowed, ExplicitDeny, ImplicitDeny}

abbrev pub layer_word : Layer → List ℕ
layer_word Org = codes "org"
layer_word Control = codes "control"
layer_word Resource = codes "resource"
layer_word Identity = codes "identity"
layer_word Boundary = codes "boundary"
layer_word Session = codes "session"

abbrev pub decision_word : Decision → List ℕ
decision_word Allowed = codes "allowed"
decision_word ExplicitDeny = codes "explicitDeny"
decision_word ImplicitDeny = codes "implicitDeny"

-- the numbers that stand in a place of this layer, joined by `/`; a resource and a boundary have one policy, number 0
abbrev pub numbers_text : Layer → ℕ → ℕ → ℕ → List ℕ
numbers_text Org level policy statement =
    decimal level ++ (codes "/" ++ (decimal policy ++ (codes "/" ++ decimal statement)))
numbers_text Control level policy statement =
    decimal level ++ (codes "/" ++ (decimal policy ++ (codes "/" ++ decimal statement)))
numbers_text Resource level policy statement = codes "0/" ++ decimal statement
numbers_text Identity level policy statement = decimal policy ++ (codes "/" ++ decimal statement)
numbers_text Boundary level policy statement = codes "0/" ++ decimal statement
numbers_text Session level policy statement = decimal policy ++ (codes "/" ++ decimal statement)

abbrev pub place_text : Place → List ℕ
place_text place =
    layer_word place.layer ++ (codes "/" ++ numbers_text place.layer place.level place.policy place.statement)

-- words between marks, joined by what stands between
unfoldable pub marked : {A : Type 0} → (A → List ℕ) → List ℕ → List ℕ → List A → List ℕ
marked word mark between xs = join_by (λ x. mark ++ (word x ++ mark)) between xs

-- Of a list one selection is that of a property, so a request has one verdict.
use Rattle.std.proofs.Common.{◌≡◌, inl, inr, List, [], ◌∷◌, map, sym, ap, ◌∙◌, subst}
use Rattle.iam_match.specs.Statement.{RequestValue}
use Rattle.iam_decision.specs.Applicable.{ApplicableValue, frame_of}
use Rattle.iam_decision.specs.Decision.{Allowing, AreDeciding, AreLacking, Allows, Fails, Granting, Grants, Says, deciding_effect, layers_in_order}
use Rattle.iam_decision.specs.Laws
use Rattle.iam_decision.specs.Matched.{Placed, Selects, placed}
use Rattle.iam_decision.specs.declared.frame.Frame.{Frame}
use Rattle.iam_decision.specs.declared.place.Layer.{Layer}
use Rattle.iam_decision.specs.declared.place.Place.{Place}
use Rattle.iam_decision.specs.declared.verdict.Decision.{Decision}
use Rattle.iam_decision.specs.declared.verdict.Decision.TheVariants.{Allowed, ExplicitDeny, ImplicitDeny}
use Rattle.iam_decision.specs.declared.verdict.Verdict.{Verdict}
use Rattle.iam_decision.proofs.LawLemmas.{one_decision}

pub one_selection : {X : Type 0} (P : X → Type 0) (xs chosen others : List X) → Selects P xs chosen → Selects P xs others → chosen ≡ others
one_selection P [] chosen others h k = h ∙ sym k
one_selection P (x ∷ xs) chosen others (inl (p, (rest, is, h))) (inl (q, (more, same, k))) =
    is ∙ ap (λ z. x ∷ z) (one_selection P xs rest more h k) ∙ sym same
one_selection P (x ∷ xs) chosen others (inl (p, h)) (inr (skipped, k)) = absurd (skipped p)
one_selection P (x ∷ xs) chosen others (inr (skipped, h)) (inl (p, k)) = absurd (skipped p)
one_selection P (x ∷ xs) chosen others (inr (skipped, h)) (inr (other, k)) = one_selection P xs chosen others h k

one_lacking : (allows : Allowing) (grants : Granting) (frame : Frame) (decision : Decision) (lacks others : List Layer)
    → AreLacking allows grants frame decision lacks → AreLacking allows grants frame decision others → lacks ≡ others
one_lacking allows grants frame Allowed lacks others h k = h ∙ sym k
one_lacking allows grants frame ExplicitDeny lacks others h k = h ∙ sym k
one_lacking allows grants frame ImplicitDeny lacks others h k = one_selection (Fails allows grants frame) layers_in_order lacks others h k

one_deciding : (a : ApplicableValue) (q : RequestValue) (decision : Decision) (places others : List Place)
    → AreDeciding a q decision places → AreDeciding a q decision others → places ≡ others
one_deciding a q decision places others (chosen, h, is) (more, k, same) =
    is ∙ ap (map (λ (s : Placed). s.place)) (one_selection (Says q (deciding_effect decision)) (placed a) chosen more h k) ∙ sym same

pub one_verdict : Laws.OneVerdict
one_verdict a q verdict other h k =
    let decision : verdict.decision ≡ other.decision = one_decision a q verdict.decision other.decision h.decided k.decided in
    let statements : verdict.statements ≡ other.statements =
    one_deciding a q other.decision verdict.statements other.statements (subst (λ d. AreDeciding a q d verdict.statements) decision h.deciding) k.deciding in
    let lacks : verdict.lacks ≡ other.lacks =
    one_lacking (Allows a q) (Grants a q) (frame_of a) other.decision verdict.lacks other.lacks
    (subst (λ d. AreLacking (Allows a q) (Grants a q) (frame_of a) d verdict.lacks) decision h.lacking) k.lacking in
    let V : Decision → List Place → List Layer → Verdict = λ d s l. record { decision = d; statements = s; lacks = l } in
    ap (λ d. V d verdict.statements verdict.lacks) decision ∙ ap (λ s. V other.decision s verdict.lacks) statements
    ∙ ap (V other.decision other.statements) lacks

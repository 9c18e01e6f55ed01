use Rattle.std.proofs.Common.{◌∙◌, List, map, ap, sym, subst}
use Rattle.iam_match.specs.Statement.{request_for}
use Rattle.iam_decision.specs.Living.{AreActing, AreFound, LivingValue, SharedValue, living_value}
use Rattle.iam_decision.specs.Matched.{placed}
use Rattle.iam_decision.specs.declared.living.Living.{Living}
use Rattle.iam_decision.specs.declared.living.Matched.{Matched}
use Rattle.iam_decision.proofs.EarlyLemmas.{candidates_found, found_suffices}
use Rattle.iam_decision.proofs.VerdictLemmas.{acting_found}
use Rattle.iam_decision.proofs.shared.Shared.verdict.Goals as goal

pub returns : goal.returns
returns c = λ actions a access asked shared.
    let action = c.args.action.now in
    let q = request_for access action in
    let found = c.in_ok-found.found.items in
    let L : List Living → Type 0 = λ living. AreActing action (map living_value living) found in
    let M : List LivingValue → Type 0 = λ living. AreActing action living found in
    let G : List Matched → Type 0 = λ found. AreFound q (placed a) found in
    let acting = subst M (ap (λ (s : SharedValue). s.living) c.self.view_is) (subst L c.as_slice.ensures.value c.in_ok-found.ensures) in
    let among = acting_found access action shared.candidates c.args.self.now.living found shared.living acting in
    let are = candidates_found actions q (placed a) shared.candidates found asked shared.are among in
    let found_all = subst G (sym c.as_slice-2.ensures.value) are in
    c.early_verdict.ensures a q (ap (λ (s : SharedValue). s.frame) c.self.view_is ∙ shared.frame) (found_suffices q (placed a) c.as_slice-2.result.now found_all)

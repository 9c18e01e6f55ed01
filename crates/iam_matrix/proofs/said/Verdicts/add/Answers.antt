use Rattle.std.proofs.Common.{◌≡◌, ℕ, List, [], ◌∷◌, ◌++◌, Some, length, sym, ◌∙◌, append-nil, subst, arith}
use Rattle.std.proofs.lemmas.Option.{slice_get_within}
use Rattle.std.specs.List.{slice_get}
use Rattle.iam_decision.specs.declared.verdict.Verdict.{Verdict}
use Rattle.iam_index.proofs.ListLemmas.{get_next}
use Rattle.iam_layers.specs.Cell.{IsVerdictAt}
use Rattle.iam_world.specs.World.{WorldValue}
use Rattle.iam_classes.specs.Engine.{IsNumberAt}
use Rattle.iam_classes.proofs.EngineLemmas.{of_class, same_class}
use Rattle.iam_matrix.specs.Code.Leads.{AreLeads}
use Rattle.iam_matrix.proofs.LeadLemmas.{leads_classes, leads_more, of_class_weaker}
use Rattle.iam_matrix.proofs.said.Verdicts.add.Goals as goal

pub verdict-requires : goal.verdict-requires
verdict-requires c =
    let engine = c.number.new.self in
    let number = c.in_ok-number.number in
    let made = c.in_ok-number.ensures in
    let is = same_class c.class_of.new.engine engine c.args.p c.args.r c.in_ok-class.class made.same.0 made.classes c.in_ok-class.ensures.class in
    let (ruling, there, of) = of_class engine c.args.p c.args.r c.in_ok-class.class (λ p r. IsNumberAt engine p c.args.a r number) is made.number in
    slice_get_within engine.rulings number ruling there

pub returns-clause-verdict : goal.returns-clause-verdict
returns-clause-verdict c =
    let engine = c.number.new.self in
    let number = c.in_ok-number.number in
    let made = c.in_ok-number.ensures in
    let verdict = c.verdict.result.now in
    let is = same_class c.class_of.new.engine engine c.args.p c.args.r c.in_ok-class.class made.same.0 made.classes c.in_ok-class.ensures.class in
    let numbered = of_class engine c.args.p c.args.r c.in_ok-class.class (λ p r. IsNumberAt engine p c.args.a r number) is made.number in
    let W : WorldValue → Type 0 = λ w. IsVerdictAt w c.args.p c.args.a c.args.r verdict in
    (verdict, subst W (made.same.0 ∙ c.in_ok-class.ensures.same.0) (c.verdict.ensures c.args.p c.args.a c.args.r numbered), c.in_ok-push.ensures.ok)

pub returns-clause-leads : goal.returns-clause-leads
returns-clause-leads c =
    let before = c.class_of.new.engine in
    let engine = c.number.new.self in
    let number = c.in_ok-number.number in
    let made = c.in_ok-number.ensures in
    let leads = c.class_of.new.leads.items in
    let old = c.args.self.now.entries in
    let new = c.push.new.self in
    let verdict = c.verdict.result.now in
    let put = c.in_ok-push.ensures.ok in
    let kept = c.in_ok-class.ensures.leads old c.requires.leads in
    let more = leads_classes before engine leads old made.same.0 ([], made.classes ∙ sym (append-nil before.classes)) kept in
    let all = of_class_weaker engine c.in_ok-class.class (λ p r. IsNumberAt engine p c.args.a r number) (λ p r. IsVerdictAt engine.world p c.args.a r verdict)
    (λ p r numbered. c.verdict.ensures p c.args.a r numbered) made.number in
    let E : List Verdict → Type 0 = λ es. AreLeads engine leads es in
    let G : List Verdict → Type 0 = λ es. slice_get es c.len-place.result ≡ Some verdict in
    let N : ℕ → Type 0 = λ n. slice_get (old ++ verdict ∷ []) n ≡ Some verdict in
    let place : length old ≡ c.len-place.result = omega (arith, c.len-place.ensures) in
    c.keep_lead.ensures engine new (subst E (sym put) (leads_more engine leads old (verdict ∷ []) more))
    (verdict, subst G (sym put) (subst N place (get_next old verdict)), all)

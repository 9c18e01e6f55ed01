use Rattle.std.proofs.Common.{◌≡◌, ◌+◌, ◌++◌, ◌∷◌, [], ℕ, All, List, Option, IfSome, Some, length, sym, ap, ◌∙◌, subst, arith}
use Rattle.std.proofs.lemmas.List.{length-append}
use Rattle.std.specs.List.{slice_get}
use Rattle.iam_decision.specs.Living.{SharedValue}
use Rattle.iam_living.specs.Keys.{AreKeys}
use Rattle.iam_living.specs.Survey.{AreClassesOf, IsSharedBy}
use Rattle.iam_living.specs.declared.keys.Keys.{Keys}
use Rattle.iam_living.proofs.SurveyLemmas.{classes_more}
use Rattle.iam_living.proofs.survey.block_from.Goals as goal
use Rattle.iam_living.proofs.survey.block_from.Goals.{else-loop-pair-test, then-loop-pair-test+then-room-eq0, then-loop-pair-test+else-room-eq0+in_ok-shared+in_default}

pub loop-pair-preserved : goal.loop-pair-preserved
loop-pair-preserved c =
    let world = c.args.index.now in
    let from = c.args.from in
    let numbers = c.loop-pair.numbers.items in
    let classes = c.loop-pair.classes.items in
    let number = c.in_ok-number.number in
    let so_far = c.loop-pair.invariant in
    let (more, grown) = c.in_ok-number.ensures.more in
    let F : Option SharedValue → Type 0 = λ found. IfSome found (IsSharedBy world c.loop-pair.pair) in
    let P : ℕ → Type 0 = λ n. IsSharedBy world n c.in-Some.shared in
    let own = subst P (sym so_far.count) (subst F c.in-Some.is c.in_ok-shared.ensures.shared) in
    let C : List SharedValue → Type 0 = λ cs. AreClassesOf world from cs (numbers ++ number ∷ []) in
    let N : List ℕ → Type 0 = λ ns. AreClassesOf world from c.class_among.new.classes.items ns in
    let S : List SharedValue → Type 0 = λ cs. slice_get cs number ≡ Some c.in-Some.shared in
    let all = classes_more world from classes more numbers number c.in-Some.shared (subst S grown c.in_ok-number.ensures.class) own so_far.are in
    let long : length c.push.new.self.items ≡ length numbers + 1 = ap (λ (ns : List ℕ). length ns) c.in_ok-push.ensures.items ∙ length-append numbers (number ∷ []) in
    record {
      keys = c.in_ok-shared.ensures.keys;
      count = omega (arith, long, so_far.count);
      are = subst N (sym c.in_ok-push.ensures.items) (subst C (sym grown) all);
    }

pub returns-clause-keys : goal.returns-clause-keys
returns-clause-keys c =
    let P : List Keys → Type 0 = All (AreKeys c.args.index.now) in
    elim c.loop-pair-test.branch [
      | else-loop-pair-test w ↦ subst P (sym (ap (λ v. v.items) w.keys-is)) c.loop-pair.invariant.keys
      | then-loop-pair-test+then-room-eq0 w ↦ subst P (sym (ap (λ v. v.items) w.keys-is)) c.loop-pair.invariant.keys
      | then-loop-pair-test+else-room-eq0+in_ok-shared+in_default w ↦ subst P (sym (ap (λ v. v.items) w.keys-is)) w.in_ok-shared.ensures.keys
    ]

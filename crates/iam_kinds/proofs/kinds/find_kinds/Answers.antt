use Rattle.std.proofs.Common.{◌≡◌, ◌∙◌, false, length, map, ap, refl, sym}
use Rattle.std.proofs.lemmas.List.{length-map}
use Rattle.std.proofs.lemmas.Result.{IfOk-weaker}
use Rattle.iam_kinds.specs.Answers.{IsAnswer, question_in, signs_of}
use Rattle.iam_kinds.proofs.AskedLemmas.{asks_ready}
use Rattle.iam_kinds.proofs.kinds.find_kinds.Goals as goal

pub answer-requires : goal.answer-requires
answer-requires c =
    let q = question_in false c.args.grammar c.args.within.now c.args.groups.now c.args.named.now in
    let within : length c.args.within.now ≡ length q.within = sym (length-map c.args.within.now (signs_of false)) in
    let groups : length c.args.groups.now ≡ length q.groups = sym (length-map c.args.groups.now (λ g. map (signs_of false) g.items)) in
    let named = ap (λ l. map (λ t. t.items) l) c.deref.ensures.value ∙ c.in_ok-named.ensures in
    asks_ready c.of.result q (c.of.ensures q c.in_ok-table.ensures within groups refl named)

pub returns : goal.returns
returns c =
    let q = question_in false c.args.grammar c.args.within.now c.args.groups.now c.args.named.now in
    let within : length c.args.within.now ≡ length q.within = sym (length-map c.args.within.now (signs_of false)) in
    let groups : length c.args.groups.now ≡ length q.groups = sym (length-map c.args.groups.now (λ g. map (signs_of false) g.items)) in
    let named = ap (λ l. map (λ t. t.items) l) c.deref.ensures.value ∙ c.in_ok-named.ensures in
    IfOk-weaker c.answer.result _ (IsAnswer q) (λ kinds told. told q (c.of.ensures q c.in_ok-table.ensures within groups refl named)) c.answer.ensures

use Rattle.std.proofs.Common.{◌∙◌, ap, map, sym}
use Rattle.std.proofs.lemmas.Result.{IfOk-weaker}
use Rattle.iam_kinds.specs.Kept.{AnswersAll, names_of}
use Rattle.iam_kinds.proofs.AskedLemmas.{asks_ready}
use Rattle.iam_kinds.proofs.walks.Walks.sought.Goals as goal

pub answer-requires : goal.answer-requires
answer-requires c =
    let (question, of) = c.requires.asked in
    asks_ready c.of-asked.result question
    (c.of-asked.ensures question of.patterns_are of.within_are of.groups_are (sym of.grammar) (ap (map (λ t. t.items)) c.deref.ensures.value ∙ sym of.named_are))

pub returns : goal.returns
returns c =
    IfOk-weaker c.answer.result _ (AnswersAll (names_of c.args.self.now) c.args.table.now.patterns.items c.args.within c.args.groups)
    (λ kinds told question of.
    told question
    (c.of-asked.ensures question of.patterns_are of.within_are of.groups_are (sym of.grammar) (ap (map (λ t. t.items)) c.deref.ensures.value ∙ sym of.named_are)))
    c.answer.ensures

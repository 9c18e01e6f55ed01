use Rattle.std.proofs.Common.{List, length, subst, sym}
use Rattle.iam_kinds.specs.Kept.{AreFound, IsAskedOf, names_of, question_with}
use Rattle.iam_kinds.specs.declared.table.Pattern.{Pattern}
use Rattle.iam_kinds.specs.declared.walks.Walks.{Walks}
use Rattle.iam_kinds.proofs.KeptLemmas.{asked_with}
use Rattle.iam_kinds.proofs.walks.Walks.find.Goals as goal
use Rattle.iam_kinds.proofs.walks.Walks.find.Goals.{then-is_small+in_ok-copied, else-is_small}

pub sought-requires-clause-asked : goal.sought-requires-clause-asked
sought-requires-clause-asked c =
    let within = c.args.within.now in
    let groups = c.args.groups.now in
    let named = names_of c.args.self.now in
    let question = question_with within groups named in (
      question,
      subst (λ (ps : List Pattern). IsAskedOf question named ps (length within) (length groups)) (sym c.in_ok-table.ensures) (asked_with within groups named),
    )

pub returns-clause-answer : goal.returns-clause-answer
returns-clause-answer c =
    let within = c.args.within.now in
    let groups = c.args.groups.now in
    let named = names_of c.args.self.now in
    let question = question_with within groups named in
    c.in_ok-kinds-2.ensures question
    (subst (λ (ps : List Pattern). IsAskedOf question named ps (length within) (length groups)) (sym c.in_ok-table.ensures) (asked_with within groups named))

pub returns-clause-found : goal.returns-clause-found
returns-clause-found c = elim c.if-is_small.branch [
  | then-is_small+in_ok-copied w ↦ subst (λ (x : Walks). AreFound x) (sym w.self-is) w.keep.ensures.found
  | else-is_small w ↦ subst (λ (x : Walks). AreFound x) (sym w.self-is) c.requires
]

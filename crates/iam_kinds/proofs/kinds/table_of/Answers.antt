use Rattle.std.proofs.Common.{◌≡◌, ◌+◌, ◌∙◌, [], ap, length, map, refl, sym}
use Rattle.std.proofs.lemmas.List.{length-map}
use Rattle.std.proofs.lemmas.Result.{IfOk-weaker}
use Rattle.iam_kinds.specs.Answers.{patterns_in, question_in, signs_of}
use Rattle.iam_kinds.specs.States.{Machine}
use Rattle.iam_kinds.specs.declared.grammar.Grammar.TheVariants.{AnyText}
use Rattle.iam_kinds.proofs.AnswerLemmas.{both_added, is_machine}
use Rattle.iam_kinds.proofs.kinds.table_of.Goals as goal

pub returns : goal.returns
returns c =
    let q = question_in c.args.fold AnyText c.args.within.now c.args.groups.now [] in
    let many : length c.args.within.now ≡ length q.within = sym (length-map c.args.within.now (signs_of c.args.fold)) in
    let groups : length c.args.groups.now ≡ length q.groups = sym
    (length-map c.args.groups.now (λ g. map (signs_of c.args.fold) g.items)) in
    let pairs = both_added c.new-patterns.result.items c.add_within.new.listed.items c.add_groups.new.listed.items q.within q.groups
    (length c.args.within.now)
    c.new-patterns.ensures.items c.in_ok-add_within.ensures c.in_ok-add_groups.ensures many in
    let count = length c.args.within.now + length c.args.groups.now in
    IfOk-weaker c.of.result _ (λ t. t.patterns.items ≡ patterns_in c.args.fold c.args.within.now c.args.groups.now) (λ t is.
    ap (λ (m : Machine). m.patterns) (is_machine q t.patterns.items is.0 c.add_groups.new.listed.items count AnyText is.1 is.2 pairs
    (ap (λ n. n + length c.args.groups.now) many ∙ ap (λ n. length q.within + n) groups) refl)) c.of.ensures

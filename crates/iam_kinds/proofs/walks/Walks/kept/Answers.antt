use Rattle.std.proofs.Common.{◌<◌, ◌∙◌, Some, ap, length, refl, subst, sym}
use Rattle.std.proofs.lemmas.Option.{slice_get_read}
use Rattle.iam_kinds.proofs.walks.Walks.kept.Goals as goal

pub returns-in_ok-copied-in-Some : goal.returns-in_ok-copied-in-Some
returns-in_ok-copied-in-Some c question of =
    let (patterns, within, groups) = c.is_of.ensures c.if-is_of.true in
    let slots = c.args.self.now.slots.items in
    let below : c.args.slot < length slots = subst (λ n. c.args.slot < n) (sym c.requires.found.slots) c.requires.slot in
    let at = slice_get_read slots (length slots) c.args.slot c.index.result.now refl below c.index.ensures in
    c.in_ok-copied-in-Some.ensures question
    (c.requires.found.found c.args.slot c.in-Some.found (at ∙ ap Some c.in-Some.is) question (record {
      grammar = of.grammar;
      named_are = of.named_are;
      patterns_are = patterns ∙ of.patterns_are;
      within_are = within ∙ of.within_are;
      groups_are = groups ∙ of.groups_are;
    }))

use Rattle.std.proofs.Common.{map, ap, ◌∙◌}
use Rattle.std.proofs.lemmas.List.{map-append}
use Rattle.iam_decision.specs.Code.Scan.{placed_value}
use Rattle.iam_every.specs.Groups.{groups_of, signs_of}
use Rattle.iam_every.proofs.groups.groups_among.Goals as goal

pub returns : goal.returns
returns c a action concerned = record {
  chosen = map placed_value c.args.statements.now;
  concerned = concerned;
  sides = groups_of c.in_ok-groups.groups.items;
  of_sides = c.in_ok-groups.ensures;
  negated = groups_of c.in_ok-negated.negated.items;
  of_negated = c.in_ok-negated.ensures;
  are = ap (λ items. groups_of items) c.in_ok-append.ensures.items
      ∙ map-append (λ g. map signs_of g.items) c.in_ok-groups.groups.items c.in_ok-negated.negated.items;
}

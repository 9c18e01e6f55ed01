use Rattle.std.proofs.Common.{rules, ◌≡◌, ◌∙◌, All, List, Option, ℕ, ap, codes, map, refl, subst, sym, unwrap_or}
use Rattle.std.proofs.lemmas.Result.{MatchResult-weaker}
use Rattle.std.specs.List.{AllZip}
use Rattle.iam_layers.specs.Unnamed.{IsThere}
use Rattle.iam_asked.specs.TextLines.{text_line_of}
use Rattle.iam_every.specs.Every.{EveryValue, every_of, line_of}
use Rattle.iam_every.specs.declared.asked.Line.{Line}
use Rattle.iam_app.specs.Names.{IsAskedOf, IsLineOf}
use Rattle.iam_app.proofs.NamingLemmas.{all_lines, all_there, no_report}
use Rattle.iam_app.proofs.every.report_of.Goals as goal

pub report_on-requires-clause-there : goal.report_on-requires-clause-there
report_on-requires-clause-there g c =
    let world = c.args.world.now in
    let here : All (λ line. IsThere world line.unnamed) (map line_of c.as_slice-2.result.now) =
    subst (λ (lent : List Line). All (λ line. IsThere world line.unnamed) (map line_of lent)) (sym c.as_slice-2.ensures.value)
    (all_there world c.args.lines.now c.in_ok-lent.lent.items c.in_ok-lent.ensures c.requires.known) in
    search rules

pub returns-clause-ok : goal.returns-clause-ok
returns-clause-ok g c =
    let every : EveryValue = every_of (record { world = c.args.world; lines = c.as_slice-2.result; actions = c.which_of.result }) in
    let lines = subst (λ (lent : List Line). AllZip IsLineOf (map text_line_of c.args.lines.now) (map line_of lent)) (sym c.as_slice-2.ensures.value)
    (all_lines c.args.lines.now c.in_ok-lent.lent.items c.in_ok-lent.ensures) in
    let asked : IsAskedOf c.args.command.now.action c.args.world.now (map text_line_of c.args.lines.now) every = record {
      world_is = refl;
      lines = lines;
      actions = c.which_of.ensures.pattern ∙ c.in_ok-action.ensures.pattern;
      written = c.which_of.ensures.text ∙ ap (λ (o : Option (List ℕ)). unwrap_or o (codes "*")) c.in_ok-action.ensures.text;
    } in
    MatchResult-weaker c.report_on.result c.report_on.ensures.ok (λ answer is. (every, asked, is)) (λ _ _. tt)

pub returns-clause-fault : goal.returns-clause-fault
returns-clause-fault g c =
    let every : EveryValue = every_of (record { world = c.args.world; lines = c.as_slice-2.result; actions = c.which_of.result }) in
    let lines = subst (λ (lent : List Line). AllZip IsLineOf (map text_line_of c.args.lines.now) (map line_of lent)) (sym c.as_slice-2.ensures.value)
    (all_lines c.args.lines.now c.in_ok-lent.lent.items c.in_ok-lent.ensures) in
    let asked : IsAskedOf c.args.command.now.action c.args.world.now (map text_line_of c.args.lines.now) every = record {
      world_is = refl;
      lines = lines;
      actions = c.which_of.ensures.pattern ∙ c.in_ok-action.ensures.pattern;
      written = c.which_of.ensures.text ∙ ap (λ (o : Option (List ℕ)). unwrap_or o (codes "*")) c.in_ok-action.ensures.text;
    } in
    MatchResult-weaker c.report_on.result c.report_on.ensures.fault (λ _ _. tt)
    (no_report c.args.command.now c.args.world.now (map text_line_of c.args.lines.now) every asked)

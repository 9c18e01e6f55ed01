use Rattle.iam_open.specs.Asked.{asked_of}
use Rattle.iam_open.proofs.AskedLemmas.{selected_texts, texts_selected}
use Rattle.iam_row.specs.Report.{CellTexts, HasTexts}
use Rattle.iam_open.proofs.asked.is_selected.Goals as goal

pub returns-then-not-is_meant : goal.returns-then-not-is_meant
returns-then-not-is_meant c =
    let world = c.args.world.now in
    let at = c.args.at in
    let texts : CellTexts = record { principal = c.principal_text-principal.result.now; action = c.action_text-action.result.now; resource = c.resource_text-resource.result.now } in
    let has : HasTexts world at.principal at.action at.resource texts =
    record { principal = c.principal_text-principal.ensures; action = c.action_text-action.ensures; resource = c.resource_text-resource.ensures } in (
      λ yes. absurd (let wrong : ⊥ = cc in wrong),
      λ selected.
          let told = c.is_meant.ensures.1
          (selected_texts c.one_triple.ensures.one (asked_of c.args.asked) world at.cell at.principal at.action at.resource texts c.requires has selected).principal in
          absurd (let wrong : ⊥ = cc in wrong),
    )

pub returns-then-not-is_meant_fold : goal.returns-then-not-is_meant_fold
returns-then-not-is_meant_fold c =
    let world = c.args.world.now in
    let at = c.args.at in
    let texts : CellTexts = record { principal = c.principal_text-principal.result.now; action = c.action_text-action.result.now; resource = c.resource_text-resource.result.now } in
    let has : HasTexts world at.principal at.action at.resource texts =
    record { principal = c.principal_text-principal.ensures; action = c.action_text-action.ensures; resource = c.resource_text-resource.ensures } in (
      λ yes. absurd (let wrong : ⊥ = cc in wrong),
      λ selected.
          let told = c.is_meant_fold.ensures.1
          (selected_texts c.one_triple.ensures.one (asked_of c.args.asked) world at.cell at.principal at.action at.resource texts c.requires has selected).action in
          absurd (let wrong : ⊥ = cc in wrong),
    )

pub returns : goal.returns
returns c =
    let world = c.args.world.now in
    let at = c.args.at in
    let texts : CellTexts = record { principal = c.principal_text-principal.result.now; action = c.action_text-action.result.now; resource = c.resource_text-resource.result.now } in
    let has : HasTexts world at.principal at.action at.resource texts =
    record { principal = c.principal_text-principal.ensures; action = c.action_text-action.ensures; resource = c.resource_text-resource.ensures } in (
      λ yes.
          texts_selected (asked_of c.args.asked) world at.cell at.principal at.action at.resource texts c.requires has (record {
            principal = c.is_meant.ensures.0 c.if-not-is_meant.false;
            action = c.is_meant_fold.ensures.0 c.if-not-is_meant_fold.false;
            resource = c.is_meant-2.ensures.0 yes;
          }),
      λ selected.
          c.is_meant-2.ensures.1
          (selected_texts c.one_triple.ensures.one (asked_of c.args.asked) world at.cell at.principal at.action at.resource texts c.requires has selected).resource,
    )

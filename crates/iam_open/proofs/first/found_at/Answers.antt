use Rattle.std.proofs.Common.{◌≡◌, ◌≢◌, ◌∙◌, [], ◌∷◌, ap, refl, sym}
use Rattle.iam_open.specs.Rows.{word_of}
use Rattle.iam_open.specs.declared.asked.Word.TheVariants.{Never}
use Rattle.iam_open.proofs.FirstLemmas.{never_said}
use Rattle.iam_open.proofs.first.found_at.Goals as goal

pub returns-then-not-is_selected : goal.returns-then-not-is_selected
returns-then-not-is_selected c = λ selected. let told = c.is_selected.ensures.1 selected in absurd (let wrong : ⊥ = cc in wrong)

pub returns-then-is_never : goal.returns-then-is_never
returns-then-is_never c = λ selected.
    let world = c.args.world.now in
    let at = c.args.at in
    let never : word_of c.in_ok-turned.turned ≡ Never = sym c.word_of.ensures ∙ c.is_never.ensures.0 c.if-is_never.true in
    (at.principal, at.action, at.resource, c.requires, never_said (world ∷ []) world at.principal at.action at.resource c.in_ok-turned.turned never c.in_ok-turned.ensures)

pub returns : goal.returns
returns c =
    let (row, is_row, same, made) = c.in_ok-text.ensures in
    let other : word_of row.turned ≢ Never = λ e.
    let never : c.word_of.result ≡ Never = c.word_of.ensures ∙ ap word_of (sym same) ∙ e in
    let told = c.is_never.ensures.1 never in absurd (let wrong : ⊥ = cc in wrong) in (
      refl,
      record {
        row = row;
        selected = c.is_selected.ensures.0 c.if-not-is_selected.false;
        is_row = is_row;
        other = other;
        text = made;
      },
    )

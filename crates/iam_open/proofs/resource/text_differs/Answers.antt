use Rattle.std.proofs.Common.{◌≡◌, ◌∙◌, not, subst, sym, true}
use Rattle.iam_match.specs.Code.Compared.{TextDiffers}
use Rattle.iam_open.specs.Asks.{is_beyond, text_keys}
use Rattle.iam_open.specs.Code.Certain.{Tells}
use Rattle.iam_open.specs.Code.Known.{AgreeOn}
use Rattle.iam_open.specs.declared.certain.Certain.{Certain}
use Rattle.iam_open.proofs.AskLemmas.{beyond_text, known_closed}
use Rattle.iam_open.proofs.CertainLemmas.{tells_known}
use Rattle.iam_open.proofs.FitLemmas.{differs_same, fit_differs, none_differs}
use Rattle.iam_open.proofs.resource.text_differs.Goals as goal

pub returns-then-text_beyond-clause-asks : goal.returns-then-text_beyond-clause-asks
returns-then-text_beyond-clause-asks c =
    beyond_text c.args.known.now c.args.text.now ∙ (sym c.text_beyond.ensures ∙ c.if-text_beyond.true)

pub returns-in-Some : goal.returns-in-Some
returns-in-Some c =
    let known = c.args.known.now in
    let context = c.args.context.now in
    let resource = c.args.resource.now in
    let text = c.args.text.now in
    let free = sym c.text_beyond.ensures ∙ c.if-text_beyond.false in
    let told = fit_differs context resource text c.in-Some.matches (rw c.in-Some.is at c.in_ok-matches.ensures) in
    record {
      told = subst (λ (x : Certain). Tells x (AgreeOn known context) (λ other. TextDiffers other resource text)) (sym c.of.ensures)
          (tells_known (not c.in-Some.matches) (AgreeOn known context) (λ other. TextDiffers other resource text)
          (λ other agree.
          let same = differs_same known context other resource text agree free in
          (λ t. same.0 (told.0 t), λ d. told.1 (same.1 d))));
      asks = known_closed c.of.result (not c.in-Some.matches) (is_beyond known (text_keys text) ≡ true) c.of.ensures;
    }

pub returns-in-None : goal.returns-in-None
returns-in-None c = record {
  told = λ other agree differs.
      let free = sym c.text_beyond.ensures ∙ c.if-text_beyond.false in
      let same = differs_same c.args.known.now c.args.context.now other c.args.resource.now c.args.text.now agree free in
      none_differs c.args.context.now c.args.resource.now c.args.text.now (rw c.in-None.is at c.in_ok-matches.ensures) (same.1 differs);
  asks = tt;
}

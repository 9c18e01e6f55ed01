use Rattle.std.proofs.Common.{◌≡◌, ◌∙◌, subst, sym, true}
use Rattle.std.proofs.lemmas.Result.{IfOk-weaker}
use Rattle.iam_match.specs.Statement.{TextMatches}
use Rattle.iam_open.specs.Asks.{is_beyond, text_keys}
use Rattle.iam_open.specs.Code.Certain.{Tells}
use Rattle.iam_open.specs.Code.Known.{AgreeOn}
use Rattle.iam_open.specs.declared.certain.Certain.{Certain}
use Rattle.iam_open.proofs.AskLemmas.{beyond_text, if_open, known_closed}
use Rattle.iam_open.proofs.CertainLemmas.{tells_known, tells_seen}
use Rattle.iam_open.proofs.FitLemmas.{matches_same, none_matches}
use Rattle.iam_open.proofs.resource.text_matches.Goals as goal

pub returns-then-text_beyond : goal.returns-then-text_beyond
returns-then-text_beyond c =
    let known = c.args.known.now in
    let text = c.args.text.now in
    record {
      told = IfOk-weaker c.may_match.result _ _
          (λ certain told. tells_seen certain (AgreeOn known c.args.context.now) (λ other. TextMatches other c.args.resource.now text) told)
          c.may_match.ensures;
      asks = IfOk-weaker c.may_match.result _ _
          (λ (certain : Certain) told.
          if_open certain (is_beyond known (text_keys text) ≡ true) (beyond_text known text ∙ (sym c.text_beyond.ensures ∙ c.if-text_beyond.true)))
          c.may_match.ensures;
    }

pub returns-in-Some : goal.returns-in-Some
returns-in-Some c =
    let known = c.args.known.now in
    let context = c.args.context.now in
    let resource = c.args.resource.now in
    let text = c.args.text.now in
    let free = sym c.text_beyond.ensures ∙ c.if-text_beyond.false in
    let told = rw c.in-Some.is at c.in_ok-matches.ensures in
    record {
      told = subst (λ (x : Certain). Tells x (AgreeOn known context) (λ other. TextMatches other resource text)) (sym c.of.ensures)
          (tells_known c.in-Some.matches (AgreeOn known context) (λ other. TextMatches other resource text)
          (λ other agree.
          let same = matches_same known context other resource text agree free in
          (λ t. same.0 (told.1.0 t), λ m. told.1.1 (same.1 m))));
      asks = known_closed c.of.result c.in-Some.matches (is_beyond known (text_keys text) ≡ true) c.of.ensures;
    }

pub returns-in-None : goal.returns-in-None
returns-in-None c = record {
  told = λ other agree matches.
      let free = sym c.text_beyond.ensures ∙ c.if-text_beyond.false in
      let same = matches_same c.args.known.now c.args.context.now other c.args.resource.now c.args.text.now agree free in
      none_matches c.args.context.now c.args.resource.now c.args.text.now (rw c.in-None.is at c.in_ok-matches.ensures) (same.1 matches);
  asks = tt;
}

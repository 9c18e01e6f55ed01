use Rattle.std.proofs.Common.{◌≡◌, ◌↔◌, ◌∙◌, ℕ, List, Option, Some, MatchOption, IfOk, option_map, string_bytes, sym, ap, subst}
use Rattle.std.specs.Bool.{⊤, IsTrue}
use Rattle.serde_json.specs.View.{view}
use Rattle.iam_json.specs.Scalar.{scalar_text}
use Rattle.iam_condition.specs.Operand.{IsOffGrammar}
use Rattle.iam_condition.proofs.ValueLemmas.{text_of}
use Rattle.iam_condition.proofs.values.is_bad_value.Goals as goal

pub returns-in-Some : goal.returns-in-Some
returns-in-Some c = rw (text_of (view c.args.value.now) c.in-Some.text.now (sym c.in-Some.ensures)) c.is_off_grammar.ensures

pub returns-in-Some-2 : goal.returns-in-Some-2
returns-in-Some-2 c =
    let text : Some (string_bytes c.in-Some-2.text) ≡ scalar_text (view c.args.value.now) =
    ap (option_map string_bytes) (sym c.in-Some-2.is) ∙ c.in_ok-text.ensures in
    subst (λ (o : Option (List ℕ)). IfOk c.is_off_grammar-in-Some-2.result (λ bad. IsTrue bad ↔ MatchOption o ⊤ (IsOffGrammar c.args.base)))
    (ap Some c.as_str-in-Some-2.ensures.value ∙ text) c.is_off_grammar-in-Some-2.ensures

use Rattle.std.proofs.Common.{List, ℕ, ◌∙◌, decimal, subst}
use Rattle.iam_report.specs.Code.Front.{IsPut}
use Rattle.iam_report.proofs.Fronts.{filled}
use Rattle.iam_report.proofs.front.Front.fill.Goals as goal

pub returns : goal.returns
returns c fits =
    let P : List ℕ → Type 0 = λ t. IsPut c.put_two.new.bytes c.put_text.new.bytes c.in-Some.start t c.in-Some-put_text.stop in
    filled c.self.inside.bytes c.put_two.new.bytes c.put_text.new.bytes c.put_two-2.new.bytes _ (decimal c.args.number) _ _ _ _ c.self.told c.in-Some.ensures
    (subst P (c.as_bytes.ensures.value ∙ c.format-digits.ensures.text) c.in-Some-put_text.ensures) c.in-Some-put_two.ensures

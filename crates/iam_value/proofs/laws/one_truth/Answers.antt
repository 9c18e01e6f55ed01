use Rattle.std.proofs.Common.{◌≡◌, ◌∙◌, Bool, true, false, refl, sym}
use Rattle.iam_value.specs.Values.{truth_name}
use Rattle.iam_value.proofs.laws.one_truth.Goals as goal

same_name : (a b : Bool) → truth_name a ≡ truth_name b → a ≡ b
same_name true true e = refl
same_name false false e = refl
same_name true false e = cc
same_name false true e = cc

pub returns : goal.returns
returns c = λ text value other is too. same_name value other (sym is ∙ too)

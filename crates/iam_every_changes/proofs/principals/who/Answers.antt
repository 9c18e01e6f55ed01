use Rattle.std.proofs.Common.{refl, subst, sym}
use Rattle.iam_asked.specs.Code.Found.{IsPlaceOf}
use Rattle.iam_asked.specs.Texts.{principal_texts}
use Rattle.iam_every_changes.proofs.principals.who.Goals as goal

pub returns : goal.returns
returns c = λ before after was now.
    let text = c.args.text.now in record {
      is = refl;
      was = c.number_at.ensures before text (subst (IsPlaceOf (principal_texts before) text) (sym c.get.ensures.value) (was text));
      now = c.number_at-2.ensures after text (subst (IsPlaceOf (principal_texts after) text) (sym c.get-2.ensures.value) (now text));
    }

use Rattle.std.proofs.Common.{refl, rules}
use Rattle.std.specs.Str.{IsUtf8}
use Rattle.iam_text.specs.Stretches.{piece_of}
use Rattle.iam_text.proofs.KeptLemmas.{kept_behind, kept_form, kept_literal, kept_off, kept_plain}
use Rattle.iam_text.proofs.stretches.Stretches.first_form.Goals as goal

pub returns-in_err-front-in-V2012 : goal.returns-in_err-front-in-V2012
returns-in_err-front-in-V2012 c =
    let left = c.self.inside in
    let text : IsUtf8 left.text.now = search rules in
    rw (c.from_residual.ensures, ← c.self.view_is) (kept_plain left.version left.wild left.text.now c.in-V2012.is text c.in_err-front-in-V2012.ensures.cut left.pieces)

pub returns-in_err-form-in-V2012 : goal.returns-in_err-form-in-V2012
returns-in_err-form-in-V2012 c =
    let left = c.self.inside in
    let front : IsUtf8 c.in_ok-front-in-V2012.front.now = search rules in
    absurd (kept_off left.version left.wild left.text.now c.in_ok-front-in-V2012.front.now c.in_ok-front-in-V2012.inside.now c.in-V2012.is front c.in_ok-front-in-V2012.ensures.cut c.in_err-form-in-V2012.ensures left.pieces)

pub invariant_of-result : goal.invariant_of-result
invariant_of-result c =
    let left = c.self.inside in
    let front : IsUtf8 c.in_ok-front-in-V2012.front.now = search rules in
    (kept_behind left.version left.wild left.text.now c.in_ok-front-in-V2012.front.now c.in_ok-front-in-V2012.inside.now c.in_ok-form-in-V2012.behind.now (piece_of c.in_ok-form-in-V2012.form) c.in-V2012.is front c.in_ok-front-in-V2012.ensures.cut c.in_ok-form-in-V2012.ensures left.pieces, tt)

pub returns-in_ok-form-in-V2012 : goal.returns-in_ok-form-in-V2012
returns-in_ok-form-in-V2012 c =
    let left = c.self.inside in
    let front : IsUtf8 c.in_ok-front-in-V2012.front.now = search rules in
    rw (← c.self.view_is) (search (kept_form left.version left.wild left.text.now c.in_ok-front-in-V2012.front.now c.in_ok-front-in-V2012.inside.now c.in_ok-form-in-V2012.behind.now (piece_of c.in_ok-form-in-V2012.form) c.in-V2012.is front c.in_ok-front-in-V2012.ensures.cut c.in_ok-form-in-V2012.ensures left.pieces), refl)

pub returns-in-V2008 : goal.returns-in-V2008
returns-in-V2008 c =
    let left = c.self.inside in
    rw (← c.self.view_is) (kept_literal left.version left.wild left.text.now c.in-V2008.is left.pieces)

use Rattle.std.proofs.Common.{◌≡◌, ◌↔◌, ◌∙◌, ℕ, List, Bool, IsTrue, true, false, ap, map, sym}
use Rattle.std.specs.Str.{chars}
use Rattle.iam_glob.specs.Glob.{sign_of}
use Rattle.iam_glob.specs.declared.sign.Sign.{Sign}
use Rattle.iam_text.specs.Draft.{plain_draft}
use Rattle.iam_equal.proofs.PieceLemmas.{form_in_one, form_in_other, plain_told, stretches_off, stretches_on}
use Rattle.iam_equal.proofs.texts.are_same_stretches.Goals as goal
use Rattle.iam_equal.proofs.texts.are_same_stretches.Goals.{then-not-is_same_form-via-then-not-is_same_form, then-not-is_same_form-via-else-not-is_same_form+then-not-are_same_plain}

abbrev signs_of : Bool → List ℕ → List Sign
signs_of wild text = map (sign_of wild) (chars text)

-- the signs of a text, whose wildcards were asked for
signs_read : (wild wild' : Bool) (text : List ℕ) → wild' ≡ wild → signs_of wild text ≡ signs_of wild' text
signs_read wild wild' text same = ap (λ w. signs_of w text) (sym same)

-- what is told off is not so
off : (told : Bool) (P : Type 0) → IsTrue told ↔ P → told ≡ false → ¬ P
off told P tells is p = let holds : told ≡ true = tells.1 p in let wrong : ⊥ = cc in wrong

pub returns-in_default-first_form : goal.returns-in_default-first_form
returns-in_default-first_form c =
    let left = c.loop-front.left in
    let other = c.loop-front.other_left in
    form_in_one (c.args.ones.pieces ≡ c.args.others.pieces) left.pieces other.pieces (signs_of left.wild c.in-Some.front.now)
    (signs_of other.wild other.text) c.in-Some.form c.in-Some.behind.pieces c.loop-front.invariant c.in-Some.ensures.0
    c.in_default-first_form.ensures

pub returns-then-not-is_same_form : goal.returns-then-not-is_same_form
returns-then-not-is_same_form c =
    let left = c.loop-front.left in
    let other = c.loop-front.other_left in
    let one = c.in-Some in
    let two = c.in-Some-first_form in
    let read = signs_read left.wild c.is_wild.result one.front.now c.is_wild.ensures in
    let other_read = signs_read other.wild c.is_wild-in-Some.result two.other_front.now c.is_wild-in-Some.ensures in
    stretches_off (c.args.ones.pieces ≡ c.args.others.pieces) left.pieces other.pieces (signs_of left.wild one.front.now)
    (signs_of other.wild two.other_front.now) one.form two.other_form one.behind.pieces two.other_behind.pieces
    c.loop-front.invariant one.ensures.0 two.ensures.0
    (elim c.then-not-is_same_form.branch [
      | then-not-is_same_form-via-then-not-is_same_form w ↦ (
          λ fronts forms. off c.is_same_form.result _ c.is_same_form.ensures w.if-not-is_same_form.true forms
          )
      | then-not-is_same_form-via-else-not-is_same_form+then-not-are_same_plain w ↦ (
          λ fronts forms.
          off w.are_same_plain.result _ w.are_same_plain.ensures w.if-not-are_same_plain.true (sym read ∙ fronts ∙ other_read)
          )
    ])

pub loop-front-preserved : goal.loop-front-preserved
loop-front-preserved c =
    let left = c.loop-front.left in
    let other = c.loop-front.other_left in
    let one = c.in-Some in
    let two = c.in-Some-first_form in
    let read = signs_read left.wild c.is_wild.result one.front.now c.is_wild.ensures in
    let other_read = signs_read other.wild c.is_wild-in-Some.result two.other_front.now c.is_wild-in-Some.ensures in
    stretches_on (c.args.ones.pieces ≡ c.args.others.pieces) left.pieces other.pieces (signs_of left.wild one.front.now)
    (signs_of other.wild two.other_front.now) one.form two.other_form one.behind.pieces two.other_behind.pieces
    c.loop-front.invariant one.ensures.0 two.ensures.0
    (read ∙ c.are_same_plain.ensures.0 c.if-not-are_same_plain.false ∙ sym other_read)
    (c.is_same_form.ensures.0 c.if-not-is_same_form.false)

pub returns-in-Some-first_form-2 : goal.returns-in-Some-first_form-2
returns-in-Some-first_form-2 c =
    let left = c.loop-front.left in
    let other = c.loop-front.other_left in
    let found = c.in-Some-first_form-2.field-0 in
    form_in_other (c.args.ones.pieces ≡ c.args.others.pieces) left.pieces other.pieces (signs_of left.wild left.text)
    (signs_of other.wild found.0.now) found.1 found.2.pieces c.loop-front.invariant c.in_default.ensures
    c.in-Some-first_form-2.ensures.0

pub returns-in-None : goal.returns-in-None
returns-in-None c =
    let left = c.loop-front.left in
    let other = c.loop-front.other_left in
    let plain = c.left_as_plain.result in
    let other_plain = c.left_as_plain-in-None.result in
    plain_told c.are_same_plain-in-None.result (c.args.ones.pieces ≡ c.args.others.pieces) left.pieces other.pieces
    (signs_of plain.wild plain.text.now) (signs_of other_plain.wild other_plain.text.now) c.loop-front.invariant
    (c.in_default.ensures ∙ ap plain_draft (sym c.left_as_plain.ensures))
    (c.in-None.ensures ∙ ap plain_draft (sym c.left_as_plain-in-None.ensures)) c.are_same_plain-in-None.ensures

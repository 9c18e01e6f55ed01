use Rattle.std.proofs.Common.{◌≡◌, ◌&&◌, ◌∙◌, ap, false, is_some, not, sym, true}
use Rattle.std.specs.HashMap.{get_by_text}
use Rattle.std.specs.Str.{bytes_eq}
use Rattle.iam_json.specs.Look.{is_one_of}
use Rattle.iam_text.specs.Characters.{is_account}
use Rattle.iam_shape.proofs.Texts.{has_more, has_place, not_true, turned}
use Rattle.iam_shape.proofs.accounts.add_id.Goals as goal

pub returns-then-not-is_account : goal.returns-then-not-is_account
returns-then-not-is_account c = λ earlier has.
    let digits : is_account c.args.text.now ≡ false = sym c.is_account.ensures ∙ c.if-not-is_account.true in
    (sym (ap (λ b. b && not (is_one_of earlier c.args.text.now)) digits), λ wrong. cc)

pub returns : goal.returns
returns c = λ earlier has.
    let text = c.args.text.now in
    let digits : is_account text ≡ true = sym c.is_account.ensures ∙ c.if-not-is_account.false in
    let there = ap is_some (c.in_ok-earlier.ensures.old ∙ ap (get_by_text c.args.ids.now) c.in_ok-from_str.ensures.ok ∙ has text) ∙ has_place (bytes_eq text) 0 earlier in
    let fresh = turned (is_some c.in_ok-earlier.earlier) c.is_none.result c.is_none.ensures ∙ ap not there in (
      fresh ∙ sym (ap (λ b. b && not (is_one_of earlier text)) digits),
      λ new last.
          has_more c.in_ok-from_str.field-0 c.args.ids.now c.insert.new.self text c.args.number c.in_ok-from_str.ensures.ok c.in_ok-earlier.ensures.updates
          earlier has last (not_true (is_one_of earlier text) (sym fresh ∙ new)),
    )

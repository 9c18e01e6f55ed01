use Rattle.std.proofs.Common.{◌++◌, ◌∷◌, List, Some, map, option_map, refl, sym, ap, ◌∙◌}
use Rattle.std.proofs.lemmas.Str.{IsUtf8-string_bytes, chars-nil}
use Rattle.std.specs.Str.{chars}
use Rattle.std.specs.String.{string_bytes}
use Rattle.iam_glob.specs.declared.sign.Sign.{Sign}
use Rattle.iam_glob.specs.Glob.{sign_of}
use Rattle.iam_text.specs.Stretches.{piece_of}
use Rattle.iam_context.specs.Resolve.{piece_signs, resolved}
use Rattle.iam_context.proofs.Signs.{none, over_all, over_piece, over_plain}
use Rattle.iam_context.proofs.Wildcards.{signs_more}
use Rattle.iam_context.proofs.pattern.text_of.Goals as goal

pub loop-front-init : goal.loop-front-init
loop-front-init c =
    let wild = c.args.left.wild in
    let left = resolved c.args.context.now c.args.left.pieces in
    let empty = ap (λ t. map (sign_of wild) (chars t)) c.in_ok-text.ensures.bytes ∙ ap (map (sign_of wild)) chars-nil in record {
      wild = refl;
      all = none left ∙ ap (λ (ss : List Sign). option_map (λ rest. ss ++ rest) left) (sym empty);
    }

pub loop-front-preserved : goal.loop-front-preserved
loop-front-preserved c =
    let context = c.args.context.now in
    let wild = c.args.left.wild in
    let piece = piece_of c.in-Some.form in
    let left = c.loop-front.left in
    let behind = c.in-Some.behind in
    let value = c.in-Some-plain_value.value.now in
    let text = string_bytes c.loop-front.text in
    let fronted = string_bytes c.push_str.new.self in
    let grown = string_bytes c.push_str-in-Some.new.self in
    let before : List Sign = map (sign_of wild) (chars text) in
    let middle : List Sign = map (sign_of wild) (chars fronted) in
    let now : List Sign = map (sign_of wild) (chars grown) in
    let first = signs_more wild text c.in-Some.front.now fronted (IsUtf8-string_bytes c.loop-front.text) c.in_ok-push_str.ensures.bytes in
    let second = signs_more wild fronted value grown (IsUtf8-string_bytes c.push_str.new.self) c.in_ok-push_str-2.ensures.bytes in
    let found = ap (option_map (λ more. middle ++ more)) (c.in-Some-plain_value.ensures wild) ∙ ap (λ (ss : List Sign). Some ss) (sym second) in record {
      wild = c.in-Some.ensures.1 ∙ c.loop-front.invariant.wild;
      all =
          c.loop-front.invariant.all
          ∙ over_plain context before middle left.wild wild c.in-Some.front.now left.pieces (piece ∷ behind.pieces) c.in-Some.ensures.0
          (sym c.loop-front.invariant.wild) first
          ∙ over_piece middle now (piece_signs context piece) (resolved context behind.pieces) found;
    }

pub returns : goal.returns
returns c =
    let wild = c.args.left.wild in
    let left = c.loop-front.left in
    let text = string_bytes c.loop-front.text in
    let grown = string_bytes c.push_str-2.new.self in
    let last =
    signs_more wild text left.text grown (IsUtf8-string_bytes c.loop-front.text) (c.in_ok-push_str-3.ensures.bytes ∙ ap (λ t. text ++ t) c.text-2.ensures) in
    c.loop-front.invariant.all
    ∙ over_all c.args.context.now (map (sign_of wild) (chars text)) (map (sign_of wild) (chars grown)) left.wild wild left.text left.pieces
    c.in_default.ensures (sym c.loop-front.invariant.wild) last

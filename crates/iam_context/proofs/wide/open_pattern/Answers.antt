use Rattle.std.proofs.Common.{◌≡◌, ◌++◌, ◌∷◌, [], ℕ, List, Bool, true, map, sym, ap, ◌∙◌, subst}
use Rattle.std.proofs.lemmas.Str.{IsUtf8-string_bytes, chars-nil}
use Rattle.std.specs.Str.{chars}
use Rattle.std.specs.String.{string_bytes}
use Rattle.iam_glob.specs.Glob.{sign_of}
use Rattle.iam_glob.specs.declared.sign.Sign.{Sign}
use Rattle.iam_text.specs.Draft.{plain_draft}
use Rattle.iam_text.specs.Stretches.{piece_of}
use Rattle.iam_context.specs.Wide.{wide_of}
use Rattle.iam_context.proofs.WideLemmas.{star, wide_end, wide_step}
use Rattle.iam_context.proofs.Wildcards.{signs_more}
use Rattle.iam_context.proofs.wide.open_pattern.Goals as goal

pub loop-front-init : goal.loop-front-init
loop-front-init c =
    let empty = ap (λ t. map (sign_of true) (chars t)) c.in_ok-text.ensures.bytes ∙ ap (map (sign_of true)) chars-nil in record {
      wild = sym c.is_wild.ensures ∙ c.if-not-is_wild.false;
      all = ap wide_of (sym c.stretches-left.ensures) ∙ ap (λ (ss : List Sign). ss ++ wide_of c.stretches-left.result.pieces) (sym empty);
    }

pub loop-front-preserved : goal.loop-front-preserved
loop-front-preserved c =
    let left = c.loop-front.left in
    let form = c.in-Some.field-0-1 in
    let front = c.in-Some.front.now in
    let behind = c.in-Some.behind.pieces in
    let text = string_bytes c.loop-front.text in
    let fronted = string_bytes c.push_str.new.self in
    let grown = string_bytes c.push_str-in-Some.new.self in
    let signs = λ (t : List ℕ). map (sign_of true) (chars t) in
    let P : Bool → Type 0 = λ wild. left.pieces ≡ plain_draft (map (sign_of wild) (chars front)) ++ (piece_of form ∷ behind) in
    let first = signs_more true text front fronted (IsUtf8-string_bytes c.loop-front.text) c.in_ok-push_str.ensures.bytes in
    let second = signs_more true fronted (42 ∷ []) grown (IsUtf8-string_bytes c.push_str.new.self) c.in_ok-push_str-2.ensures.bytes in record {
      wild = c.in-Some.ensures.1 ∙ c.loop-front.invariant.wild;
      all =
          c.loop-front.invariant.all
          ∙ wide_step (signs text) (signs fronted) (signs grown) (signs front) left.pieces behind form
          (subst P c.loop-front.invariant.wild c.in-Some.ensures.0) first (second ∙ ap (λ (ss : List Sign). signs fronted ++ ss) star);
    }

pub returns : goal.returns
returns c =
    let left = c.loop-front.left in
    let text = string_bytes c.loop-front.text in
    let grown = string_bytes c.push_str-2.new.self in
    let signs = λ (t : List ℕ). map (sign_of true) (chars t) in
    let P : Bool → Type 0 = λ wild. left.pieces ≡ plain_draft (map (sign_of wild) (chars left.text)) in
    let last =
    signs_more true text left.text grown (IsUtf8-string_bytes c.loop-front.text) (c.in_ok-push_str-3.ensures.bytes ∙ ap (λ t. text ++ t) c.text-2.ensures) in
    c.in_ok-read.ensures ∙ ap signs c.as_str.ensures.value
    ∙ sym (
    c.loop-front.invariant.all
    ∙ wide_end (signs text) (signs grown) (signs left.text) left.pieces (subst P c.loop-front.invariant.wild c.in_default.ensures) last
    )

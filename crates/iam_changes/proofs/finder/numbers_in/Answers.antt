use Rattle.std.proofs.Common.{◌≡◌, ◌+◌, ◌++◌, ◌∷◌, List, [], ℕ, Bor, Option, get_or, map, take, sym, ap, subst, ◌∙◌, arith}
use Rattle.std.specs.HashMap.{get_by}
use Rattle.std.specs.List.{AllZip}
use Rattle.std.specs.Str.{bytes_eq}
use Rattle.std.proofs.lemmas.List.{get_or-map, length-map, take_all, take_more}
use Rattle.std.proofs.lemmas.Slice.Zip.{all_zipped_more}
use Rattle.iam_changes.specs.Code.Found.{IsNumberIn}
use Rattle.iam_changes.proofs.Places.{number_put}
use Rattle.iam_changes.proofs.finder.numbers_in.Goals as goal

pub loop-n-preserved : goal.loop-n-preserved
loop-n-preserved c =
    let now : Bor (List ℕ) → List ℕ = λ text. text.now in
    let none : Bor (List ℕ) = record { ref_ptr = (0, 0); now = [] } in
    let i = c.loop-n.n in
    let others = map now c.args.others.now in
    let key = (get_or c.args.others.now i none).now in
    let count = length-map c.args.others.now now in
    let old : List ℕ → Option ℕ = λ q. get_by (λ (k : Bor (List ℕ)). bytes_eq q k.now) c.loop-n.places in
    let new : List ℕ → Option ℕ = λ q. get_by (λ (k : Bor (List ℕ)). bytes_eq q k.now) c.insert.new.self in
    number_put others i key old new (omega (arith, c.loop-n-test.true, count)) (sym (get_or-map now c.args.others.now i none key c.loop-n-test.true)) c.loop-n.invariant
    (λ q. c.in_ok-insert.ensures.updates.0 (record { ref_ptr = (0, 0); now = q }))

pub loop-text-init : goal.loop-text-init
loop-text-init c =
    let others = map (λ (t : Bor (List ℕ)). t.now) c.args.others.now in (
      λ q. subst (λ (xs : List (List ℕ)). IsNumberIn xs q (get_by (λ (k : Bor (List ℕ)). bytes_eq q k.now) c.loop-n.places)) (take_all c.loop-n.n others (omega (arith, c.loop-n-test.false, length-map c.args.others.now (λ (t : Bor (List ℕ)). t.now)))) (c.loop-n.invariant q),
      subst (λ (ys : List (Option ℕ)). AllZip (IsNumberIn others) [] ys) (sym c.in_ok-numbers.ensures.items) tt,
    )

pub loop-text-preserved : goal.loop-text-preserved
loop-text-preserved c =
    let now : Bor (List ℕ) → List ℕ = λ text. text.now in
    let none : Bor (List ℕ) = record { ref_ptr = (0, 0); now = [] } in
    let i = c.loop-text.text-index in
    let others = map now c.args.others.now in
    let texts = map now c.args.texts.now in
    let R : List ℕ → Option ℕ → Type 0 = IsNumberIn others in
    let key = (get_or c.args.texts.now i none).now in
    let count = length-map c.args.texts.now now in
    let number : R key c.copied.result = subst (R key) (sym (c.copied.ensures ∙ c.get.ensures.value)) (c.loop-text.invariant.0 key) in
    let next : take i texts ++ key ∷ [] ≡ take (i + 1) texts =
    ap (λ x. take i texts ++ x ∷ []) (sym (get_or-map now c.args.texts.now i none key c.loop-text-test.true)) ∙ sym (take_more texts i key (omega (arith, c.loop-text-test.true, count))) in
    let more = all_zipped_more R (take i texts) c.loop-text.numbers.items key c.copied.result c.loop-text.invariant.1 number in (
      c.loop-text.invariant.0,
      subst (λ (ys : List (Option ℕ)). AllZip R (take (i + 1) texts) ys) (sym c.in_ok-push.ensures.items)
          (subst (λ (xs : List (List ℕ)). AllZip R xs (c.loop-text.numbers.items ++ c.copied.result ∷ [])) next more),
    )

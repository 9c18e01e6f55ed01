use Rattle.std.proofs.Common.{rules, ◌≡◌, ◌++◌, ◌∙◌, ◌<◌, [], ap, arith, length, map, string_bytes}
use Rattle.std.proofs.Math.Utf8.{encode}
use Rattle.std.proofs.lemmas.Str.{IsUtf8-string_bytes, chars-nil}
use Rattle.std.specs.Char.{IsScalar}
use Rattle.std.specs.Str.{chars}
use Rattle.iam_glob.specs.Glob.{wild_sign}
use Rattle.iam_glob.specs.Signs.{signs_in}
use Rattle.iam_glob.specs.declared.sign.Sign.TheVariants.{Any}
use Rattle.iam_open_changes.proofs.WiderLemmas.{writes_on}
use Rattle.iam_open_changes.proofs.wider.written.Goals as goal

pub loop-i-init : goal.loop-i-init
loop-i-init c =
    let none : string_bytes c.in_ok-text.text ≡ [] = search rules in
    ap (λ t. map wild_sign (chars t)) none ∙ ap (map wild_sign) chars-nil

pub loop-i-preserved : goal.loop-i-preserved
loop-i-preserved c =
    let bytes = string_bytes c.loop-i.text in
    let scalar : IsScalar c.in-Some.character = search rules in
    let below : c.loop-i.i < length (signs_in c.args.signs) = omega (arith, c.loop-i-test.true, c.len-i-end.ensures) in
    let new : string_bytes c.push.new.self ≡ bytes ++ encode c.in-Some.character = search rules in
    writes_on (signs_in c.args.signs) c.loop-i.i Any c.in-Some.character bytes (string_bytes c.push.new.self) below
    (IsUtf8-string_bytes c.loop-i.text) scalar new (c.in-Some.ensures ∙ c.at.ensures) c.loop-i.invariant

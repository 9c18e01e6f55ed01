use Rattle.std.proofs.Common.{rules, arith, ◌≡◌, ◌<◌, ◌++◌, ◌∷◌, ◌∙◌, [], ℕ, List, ap, length, sym}
use Rattle.std.specs.Char.{IsScalar}
use Rattle.std.specs.Str.{IsUtf8, chars}
use Rattle.std.specs.String.{string_bytes}
use Rattle.std.proofs.Math.Utf8.{encode}
use Rattle.std.proofs.lemmas.List.{append-nil, take_more}
use Rattle.std.proofs.lemmas.Str.{IsUtf8-encode, IsUtf8-string_bytes, chars-append, chars-nil, chars_past_char}
use Rattle.iam_kinds.proofs.kinds.string_of.Goals as goal

pushed : (bytes : List ℕ) (c : ℕ) → IsUtf8 bytes → IsScalar c → chars (bytes ++ encode c) ≡ chars bytes ++ c ∷ []
pushed bytes c utf8 scalar =
    chars-append bytes (encode c) utf8
    ∙ ap (λ t. chars bytes ++ t) (chars_past_char (encode c) [] c (IsUtf8-encode c scalar) (sym (append-nil (encode c))) ∙ ap (λ t. c ∷ t) chars-nil)

pub loop-character-init : goal.loop-character-init
loop-character-init c = search (rules, chars-nil)

pub loop-character-preserved : goal.loop-character-preserved
loop-character-preserved c =
    let bytes = string_bytes c.loop-character.text in
    let scalar : IsScalar c.character-item.result = search rules in
    let below : c.loop-character.character-index < length c.args.characters.now = omega arith in
    let pushed_to : chars (bytes ++ encode c.character-item.result) ≡ chars bytes ++ c.character-item.result ∷ [] =
    pushed bytes c.character-item.result (IsUtf8-string_bytes c.loop-character.text) scalar in
    let more = take_more c.args.characters.now c.loop-character.character-index c.character-item.result below in
    let new : string_bytes c.push.new.self ≡ bytes ++ encode c.character-item.result = search rules in
    cc

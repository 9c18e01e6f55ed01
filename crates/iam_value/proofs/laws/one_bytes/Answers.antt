use Rattle.std.proofs.Common.{◌≡◌, ◌∙◌, Ok, ap, sym, rules}
use Rattle.base64.proofs.EngineFacts.{decode_of-encode_of}
use Rattle.base64.specs.Engines.{standard}
use Rattle.base64.specs.GeneralPurpose.{decode_of, encode_of}
use Rattle.iam_value.proofs.laws.one_bytes.Goals as goal

pub returns : goal.returns
returns c = λ text value other is too.
    let same : encode_of standard value ≡ encode_of standard other = sym is.1 ∙ too.1 in
    let read : Ok value ≡ Ok other = sym (decode_of-encode_of standard value (search rules) is.0) ∙ ap (decode_of standard) same ∙ decode_of-encode_of standard other (search rules) too.0 in
    cc

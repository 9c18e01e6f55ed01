use Rattle.std.proofs.Common.{◌≡◌, ◌++◌, ◌∙◌, List, OnOk, map, subst, sym, ℕ}
use Rattle.std.proofs.lemmas.Str.{chars-IsAscii}
use Rattle.iam_glob.specs.Glob.{sign_of}
use Rattle.iam_glob.proofs.sign.add_signs.Goals as goal

pub returns-then-is_ascii : goal.returns-then-is_ascii
returns-then-is_ascii c =
    let P : List ℕ → Type 0 = λ t. OnOk c.add_bytes.result (c.add_bytes.new.signs.items ≡ c.args.signs.now.items ++ map (sign_of c.args.wild) t) in
    subst P (c.as_bytes.ensures.value ∙ sym (chars-IsAscii c.args.text.now c.if-is_ascii.ensures.cases)) c.add_bytes.ensures

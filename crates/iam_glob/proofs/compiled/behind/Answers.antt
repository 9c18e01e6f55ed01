use Rattle.std.proofs.Common.{◌≡◌, ◌∙◌, ◌++◌, ◌≤◌, ap, length, drop}
use Rattle.std.proofs.lemmas.Str.{IsCharBoundary-from_drop}
use Rattle.std.specs.Str.{chars}
use Rattle.iam_glob.proofs.CompiledLemmas.{behind_front, chars_front, front_chars}
use Rattle.iam_glob.proofs.compiled.behind.Goals as goal

pub range_from-requires : goal.range_from-requires
range_from-requires c =
    let front = c.args.front.now in
    let text = c.args.text.now in
    let is : text ≡ front ++ drop (length front) text = rw c.as_bytes.ensures.value at (c.begins_with.ensures.begins c.if-begins_with.true) in
    let within : length front ≤ length text = rw c.as_bytes.ensures.value at (c.begins_with.ensures.bound c.if-begins_with.true) in
    λ some. IsCharBoundary-from_drop text (length front) within (behind_front front (drop (length front) text) text c.requires is c.utf8.text)

pub returns-then-begins_with : goal.returns-then-begins_with
returns-then-begins_with c =
    let front = c.args.front.now in
    let text = c.args.text.now in
    let is : text ≡ front ++ drop (length front) text = rw c.as_bytes.ensures.value at (c.begins_with.ensures.begins c.if-begins_with.true) in
    rw c.range_from.ensures.value (ap chars is ∙ front_chars front (drop (length front) text) c.requires)

pub returns-else-begins_with : goal.returns-else-begins_with
returns-else-begins_with c = λ rest e.
    let front = c.args.front.now in
    let text = c.args.text.now in
    (rw c.as_bytes.ensures.value at (c.begins_with.ensures.off c.if-begins_with.false)) _ (chars_front front text rest c.requires c.utf8.text e)

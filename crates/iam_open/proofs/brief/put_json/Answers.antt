use Rattle.std.proofs.Common.{◌∙◌, ◌++◌, ap, codes, decimal, string_bytes}
use Rattle.iam_open.specs.Code.Parts.{comma_behind, middle_text}
use Rattle.iam_open.proofs.BriefLemmas.{five_put, object_put, two_more}
use Rattle.iam_open.proofs.brief.put_json.Goals as goal

pub returns : goal.returns
returns c =
    let old = string_bytes c.args.text.now in
    let first = string_bytes c.put_comma.new.text in
    let second = string_bytes c.push_str.new.self in
    let third = string_bytes c.push_str-2.new.self in
    let last = string_bytes c.push_str-6.new.self in
    let rest = five_put second third (string_bytes c.push_str-3.new.self) (string_bytes c.push_str-4.new.self) (string_bytes c.push_str-5.new.self) last
    (decimal c.args.cell) (middle_text c.args.word) c.args.principal.now c.args.resource.now (codes "}")
    (c.in_ok-push_str-2.ensures.bytes ∙ ap (λ n. second ++ n) c.format.ensures.text)
    (c.in_ok-push_str-3.ensures.bytes ∙ ap (λ t. third ++ t) c.middle.ensures) c.in_ok-push_str-4.ensures.bytes c.in_ok-push_str-5.ensures.bytes
    c.in_ok-push_str-6.ensures.bytes in
    object_put old last c.args.cell (record { principal = c.args.principal.now; action = c.args.action.now; resource = c.args.resource.now }) c.args.word
    (two_more old first second last (comma_behind old) c.args.action.now _ c.in_ok-put_comma.ensures c.in_ok-push_str.ensures.bytes rest)

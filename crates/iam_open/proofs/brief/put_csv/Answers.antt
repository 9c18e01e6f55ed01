use Rattle.std.proofs.Common.{◌∙◌, ◌++◌, ap, string_bytes}
use Rattle.iam_open.proofs.BriefLemmas.{five_put}
use Rattle.iam_open.proofs.brief.put_csv.Goals as goal

pub returns : goal.returns
returns c =
    let old = string_bytes c.args.text.now in
    let fourth = string_bytes c.push_str-4.new.self in
    five_put old (string_bytes c.push_str.new.self) (string_bytes c.push_str-2.new.self) (string_bytes c.push_str-3.new.self) fourth
    (string_bytes c.push_str-5.new.self) _ _ _ _ _ (c.in_ok-push_str.ensures.bytes ∙ ap (λ n. old ++ n) c.format.ensures.text)
    c.in_ok-push_str-2.ensures.bytes c.in_ok-push_str-3.ensures.bytes c.in_ok-push_str-4.ensures.bytes
    (c.in_ok-push_str-5.ensures.bytes ∙ ap (λ t. fourth ++ t) c.back.ensures)

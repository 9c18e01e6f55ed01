use Rattle.std.proofs.Common.{◌++◌, List, ℕ, ap, append_assoc, codes, sym, ◌∙◌}
use Rattle.std.specs.Str.{bytes_eq}
use Rattle.iam_match.proofs.JoinLemmas.{join_end}
use Rattle.iam_match.proofs.principal.is_root.Goals as goal

pub returns-then-not-ends_with : goal.returns-then-not-ends_with
returns-then-not-ends_with c =
    let text = c.args.text.now in
    let partition = c.args.requester.now.partition in
    let behind = codes ":iam::" ++ c.args.requester.now.account in
    let front = codes "arn:" ++ (partition ++ behind) in
    sym (
    ap (λ (t : List ℕ). bytes_eq text (codes "arn:" ++ t)) (sym (append_assoc partition behind (codes ":root")))
    ∙ join_end text front (codes ":root") c.if-not-ends_with.ensures.cases
    )

use Rattle.std.proofs.Common.{◌≡◌, ◌++◌, ◌∙◌, ℕ, List, ap, map}
use Rattle.iam_every.specs.Every.{every_of}
use Rattle.iam_every.proofs.MeantLemmas.{all_said, like, said_lines}
use Rattle.iam_every.proofs.meant.all_said.Goals as goal

pub returns : goal.returns
returns c =
    let said = c.in_ok-said.said.items in
    let matched = c.in_ok-matched.matched.items in
    let added : c.add_resources.new.said.items ≡ said ++ map like matched =
    c.in_ok-add_resources.ensures ∙ ap (λ (l : List ℕ). said ++ map like l) c.as_slice.ensures.value in
    all_said (every_of c.args.asked) said c.add_resources.new.said.items matched (said_lines c.args.asked.lines.now said c.in_ok-said.ensures)
    c.in_ok-matched.ensures.selected added

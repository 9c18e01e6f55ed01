use Rattle.std.proofs.Common.{rules}
use Rattle.iam_open_every.specs.Report.{IsWanted}
use Rattle.iam_open_every.proofs.ReportLemmas.{selected_kept}
use Rattle.iam_open_every.proofs.crew.wanted.Goals as goal

pub returns : goal.returns
returns c = selected_kept _ (IsWanted c.args.words.now) _ (λ row b g k. search rules) _ _ c.retain.ensures.filtered

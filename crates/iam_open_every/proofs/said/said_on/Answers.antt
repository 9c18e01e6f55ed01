use Rattle.std.proofs.Common.{Bool, subst, sym}
use Rattle.iam_open.specs.Report.{IsHung, IsSaid}
use Rattle.iam_open_every.proofs.said.said_on.Goals as goal

pub returns : goal.returns
returns c = λ other a r seat does.
    let p = c.args.scene.p in
    let turned = c.in_ok-turned.turned in
    let hangs = c.in_ok-hangs.hangs in
    let is = c.in_ok-turned.ensures other a r seat does in
    record {
      turned = is;
      verdict = subst (λ (b : Bool). IsSaid b other p a r turned c.in_ok-verdict.verdict) (sym c.if-brief.false) (c.in_ok-verdict.ensures other a r seat does);
      hangs = subst (λ (b : Bool). IsHung b other p a r turned hangs.places.items hangs.keys.items) (sym c.if-brief.false)
          (c.in_ok-hangs.ensures.keys other a r seat does is, c.in_ok-hangs.ensures.listed other a r seat does);
    }

use Rattle.std.proofs.Common.{ℕ, ◌+◌, ap, ◌∙◌, arith}
use Rattle.iam_crew.specs.Code.Shares.{start_of}
use Rattle.iam_crew.proofs.Starts.{start_up, start_within, start_first, start_last, start_least, start_most}
use Rattle.iam_crew.proofs.shares.Shares.run_of.Goals as goal

pub overflow_sub-result : goal.overflow_sub-result
overflow_sub-result c =
    let some_worker = c.args.self.some in
    let up = start_up c.args.self.tiles c.args.self.workers c.args.worker (omega arith) in
    omega arith

pub returns-clause-share : goal.returns-clause-share
returns-clause-share c =
    let tiles = c.args.self.tiles in
    let workers = c.args.self.workers in
    let worker = c.args.worker in
    let some_worker = c.args.self.some in
    let least = start_least tiles workers worker (omega arith) in
    let most = start_most tiles workers worker (omega arith) in
    let whole = start_last tiles workers (omega arith) in
    record {
      start = c.start-first.ensures;
      end = omega arith;
      front = λ first. c.start-first.ensures ∙ ap (λ (k : ℕ). start_of tiles workers k) first ∙ start_first tiles workers;
      back = λ last. let end = ap (λ (k : ℕ). start_of tiles workers k) last in omega arith;
      least = omega arith;
      most = omega arith;
    }

pub returns-clause-inside : goal.returns-clause-inside
returns-clause-inside c =
    let some_worker = c.args.self.some in
    let up = start_up c.args.self.tiles c.args.self.workers c.args.worker (omega arith) in
    let within = start_within c.args.self.tiles c.args.self.workers (c.args.worker + 1) (omega arith) in
    omega arith

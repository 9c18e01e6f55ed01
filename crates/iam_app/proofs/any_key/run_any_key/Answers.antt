use Rattle.std.proofs.lemmas.Result.{MatchResult-weaker}
use Rattle.iam_app.proofs.TurnedLemmas.{unturned}
use Rattle.iam_app.proofs.any_key.run_any_key.Goals as goal

pub returns-clause-done : goal.returns-clause-done
returns-clause-done g c =
    MatchResult-weaker c.answer-answered.result c.answer-answered.ensures.done
    (λ some is. (c.in_ok-world.world, c.in_ok-world.ensures.ok, is.0, is.1)) (λ _ _. tt)

pub returns-clause-fault : goal.returns-clause-fault
returns-clause-fault g c =
    MatchResult-weaker c.answer-answered.result c.answer-answered.ensures.fault (λ _ _. tt)
    (unturned c.args.command.now (g.R.Read.remaining c.args.input.now) (g.W.Write.contents c.args.writer.now)
    (g.W.Write.contents c.answer-answered.new.writer) c.in_ok-world.world c.in_ok-world.ensures.ok)

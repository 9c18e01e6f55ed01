use Rattle.iam_engine.proofs.WalkLemmas.{known_in}
use Rattle.iam_engine.proofs.cache.rest_matches.Goals as goal

pub rest_matches_with-requires : goal.rest_matches_with-requires
rest_matches_with-requires c =
    known_in c.args.access.context.now c.args.access.resource.now c.args.statement.now.resource c.known_match-known.result c.known_match-known.ensures.known

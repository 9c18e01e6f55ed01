use Rattle.std.proofs.Common.{◌≡◌, All, take}
use Rattle.iam_context.specs.Context.{ContextValue}
use Rattle.iam_engine.proofs.KnownLemmas.{Differs}
use Rattle.iam_engine.proofs.cache.some_matches.Given as goal

-- the texts so far
abbrev pub invariant-loop-text : goal.invariant-loop-text
invariant-loop-text l =
    (l.cache ≡ l.initial.cache) × ((context : ContextValue) → All (Differs context l.arn) (take l.text-index l.texts))

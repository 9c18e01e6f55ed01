use Rattle.std.proofs.Common.{ℕ, Bool, Contains, subst, ◌∙◌}
use Rattle.lru.specs.LruCache.{LruCache}
use Rattle.lru.proofs.CallerLemmas.{Contains-promoted}
use Rattle.iam_engine.proofs.CacheLemmas.{found_among, same_key}
use Rattle.iam_engine.proofs.cache.recall.Goals as goal

pub returns-clause-found : goal.returns-clause-found
returns-clause-found c =
    found_among c.args.kept.now.entries (c.args.text, c.args.resource) c.copied.result (c.copied.ensures ∙ c.get.ensures.value)

pub returns-clause-same : goal.returns-clause-same
returns-clause-same c = λ e among.
    let C : LruCache (ℕ × ℕ) Bool → Type 0 = λ cache. Contains cache.entries e in
    Contains-promoted (same_key (c.args.text, c.args.resource)) c.args.kept.now.entries e (subst C c.get.follows.holds-at-none among)

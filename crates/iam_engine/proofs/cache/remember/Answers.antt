use Rattle.std.proofs.Common.{inl, ℕ, Bool, Contains, subst}
use Rattle.lru.specs.LruCache.{LruCache}
use Rattle.iam_engine.proofs.CacheLemmas.{put_among}
use Rattle.iam_engine.proofs.cache.remember.Goals as goal

pub returns-in-Ok : goal.returns-in-Ok
returns-in-Ok c = λ e among.
    let C : LruCache (ℕ × ℕ) Bool → Type 0 = λ cache. Contains cache.entries e in
    put_among c.args.kept.now (c.args.text, c.args.resource) c.args.matched e (subst C c.in-Ok.ensures.entries among)

pub returns-in-Err : goal.returns-in-Err
returns-in-Err c = λ e among.
    let C : LruCache (ℕ × ℕ) Bool → Type 0 = λ cache. Contains cache.entries e in inl (subst C c.in-Err.ensures.err among)

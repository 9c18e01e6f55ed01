use Rattle.std.proofs.Common.{sym, subst}
use Rattle.std.proofs.lemmas.List.Filters.{dedup_is}
use Rattle.iam_kinds.specs.Places.{IsRising}
use Rattle.iam_kinds.proofs.PlaceLemmas.{place_eq, rises, sorted_same}
use Rattle.iam_kinds.proofs.table.sorted_places.Goals as goal

pub returns-clause-rising : goal.returns-clause-rising
returns-clause-rising c =
    subst IsRising (sym (dedup_is place_eq c.sort_unstable.new.self.items c.dedup.new.self.items c.dedup.ensures.filtered))
    (rises c.sort_unstable.new.self.items c.sort_unstable.ensures.sorted)

pub returns-clause-same : goal.returns-clause-same
returns-clause-same c = sorted_same c.args.places.items c.sort_unstable.new.self.items c.dedup.new.self.items c.sort_unstable.ensures.permutation c.dedup.ensures.filtered

use Rattle.iam_open_changes.specs.declared.same.Excluded.{Excluded}
use Rattle.iam_open_changes.proofs.LookLemmas.{excludes, excludes_nothing}
use Rattle.iam_open_changes.proofs.same.excluded_of.Goals as goal

pub returns-then-not-same : goal.returns-then-not-same
returns-then-not-same c = λ one other was now has has'. excludes_nothing one other _ _

pub returns : goal.returns
returns c = λ one other was now has has'.
    let found : Excluded = record { gains = c.in_ok-gains.gains; losses = c.in_ok-losses.losses } in
    excludes c.no_more_is_not_turned.ensures one other was now found c.in_ok-one.one.items c.in_ok-other.other.items
    (c.in_ok-same.ensures c.if-not-same.false one other was now has has') (c.in_ok-one.ensures one was has) (c.in_ok-other.ensures other now has')
    (rw (c.as_slice.ensures.value, c.as_slice-2.ensures.value) at c.in_ok-gains.ensures)
    (rw (c.as_slice-3.ensures.value, c.as_slice-4.ensures.value) at c.in_ok-losses.ensures)
